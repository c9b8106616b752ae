-- The form of a bid with a quantity for each of its hours.
use Rattle.std.specs.Prelude.{◌≡◌, ℕ, ◌<◌, Bool, true, false, cond, not, List, [], ◌∷◌, ℤ, Some, Ok, Err, MatchBool, Option}
use Rattle.market.specs.declared.refusals.Refusal.{Refusal}
use Rattle.market.specs.declared.refusals.Rule.TheVariants as rules
use Rattle.bids.specs.Checks.{Answer, broken_at, first_where}

-- a bid with a quantity for each of its hours: its price, whether its hours are allowed, how many they are, the quantities from its hour 0 on, and whether that in its hour i is right
pub record Profile : Type 0 where
  pub price : ℕ
  pub spans : Bool
  pub hours : ℕ
  pub quantities : List ℤ
  pub right : ℕ → Bool

-- where the form is broken: 99 for the hours, else the first of them that is not right
unfoldable pub fault : Profile → Option ℕ
fault p = cond p.spans (first_where p.hours (λ i. not (p.right i))) (Some 99)

-- the form, as a rule of an entry
abbrev pub form_rules : Profile → List (Option Refusal)
form_rules p = broken_at rules.Form (fault p) ∷ []

-- the form is kept: the hours are allowed, and each is right
pub record FormKept (p : Profile) : Type 0 where
  pub spans : p.spans ≡ true
  pub right : (i : ℕ) → i < p.hours → p.right i ≡ true

-- the hour k is the first that is not right
pub record FirstWrong (p : Profile) (k : ℕ) : Type 0 where
  pub within : k < p.hours
  pub wrong : p.right k ≡ false
  pub before : (i : ℕ) → i < k → p.right i ≡ true

-- what the check of the form answers
abbrev pub Formed : Profile → Answer → Type 0
Formed p (Ok _) = FormKept p
Formed p (Err e) = (e.rule ≡ rules.Form) × MatchBool p.spans (FirstWrong p e.place) (e.place ≡ 99)
