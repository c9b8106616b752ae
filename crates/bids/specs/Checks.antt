-- What a call answers whose rules are looked at one after the other.
use Rattle.std.specs.Prelude.{◌≡◌, ℕ, zero, suc, Bool, cond, List, [], ◌∷◌, Some, None, Ok, Err, Option, Result}
use Rattle.market.specs.declared.refusals.Refusal.{Refusal}
use Rattle.market.specs.declared.refusals.Rule.{Rule}

-- what a call that tells nothing more answers: that it was done, or its refusal
abbrev pub Answer : Type 0
Answer = Result (Unit {0}) Refusal

-- the refusal by a rule at a place, where the rule is broken
abbrev pub broken : Bool → Rule → ℕ → Option Refusal
broken t r p = cond t (Some (record { rule = r; place = p })) None

-- the refusal by a rule at the place where it is broken, if there is one
abbrev pub broken_at : Rule → Option ℕ → Option Refusal
broken_at r None = None
broken_at r (Some p) = Some (record { rule = r; place = p })

-- the answer by rules that are looked at in this order: the refusal by the first that is broken, or done
abbrev pub first_of : List (Option Refusal) → Answer
first_of [] = Ok tt
first_of (None ∷ rest) = first_of rest
first_of (Some e ∷ rest) = Err e

-- a call by these rules goes on with what P says, or is refused by the first that is broken
abbrev pub GoesOn : {X : Type 0} → List (Option Refusal) → (X → Type 0) → Result X Refusal → Type 0
GoesOn rules P (Ok x) = (first_of rules ≡ Ok tt) × P x
GoesOn rules P (Err e) = first_of rules ≡ Err e

-- the first of two places, where there is one
abbrev pub or_else : Option ℕ → Option ℕ → Option ℕ
or_else None o = o
or_else (Some k) o = Some k

-- the first place below n at which t is true, if there is one
abbrev pub first_where : ℕ → (ℕ → Bool) → Option ℕ
first_where zero t = None
first_where (suc n) t = or_else (first_where n t) (cond (t n) (Some n) None)
