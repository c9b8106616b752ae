-- Rules that are looked at one after the other, and the form of a bid with a quantity for each of its hours.
use Rattle.std.proofs.Common.{◌≡◌, ℕ, zero, suc, ◌<◌, ◌≤◌, Bool, true, false, cond, not, List, [], ◌∷◌, ◌++◌, Some, None, Ok, Err, MatchOption, Option, sym, refl, ap, ◌∙◌, subst, ⊎_elim, inl, inr, arith}
use Rattle.std.proofs.lemmas.Bool.{cond-true, cond-false, cases_Bool, cases_eq, cases_lt, not-true, not-false, not_from_true}
use Rattle.market.specs.declared.refusals.Refusal.{Refusal}
use Rattle.market.specs.declared.refusals.Rule.{Rule}
use Rattle.bids.specs.Checks.{Answer, broken_at, first_of, or_else, first_where}
use Rattle.bids.specs.Profiles.{Profile, fault, form_rules, FormKept, FirstWrong}

-- ---- rules in a row
refused_is_not_done : {X : Type 0} (e : Refusal) → ◌≡◌ {A = Answer} (Err e) (Ok tt) → X
refused_is_not_done e h = let z : ◌≡◌ {A = ℕ} 0 1 = cc in absurd (omega arith)

-- where the first rules are kept, the answer is by the others
pub goes : (a b : List (Option Refusal)) → first_of a ≡ Ok tt → first_of (a ++ b) ≡ first_of b
goes [] b h = refl
goes (None ∷ a) b h = goes a b h
goes (Some e ∷ a) b h = refused_is_not_done e h

-- where one of the first rules is broken, the others are not looked at
pub stops : (a b : List (Option Refusal)) (e : Refusal) → first_of a ≡ Err e → first_of (a ++ b) ≡ Err e
stops [] b e h = refused_is_not_done e (sym h)
stops (None ∷ a) b e h = stops a b e h
stops (Some f ∷ a) b e h = h

-- where all the rules are kept, the first are and the others are
pub passed : (a b : List (Option Refusal)) → first_of (a ++ b) ≡ Ok tt → (first_of a ≡ Ok tt) × (first_of b ≡ Ok tt)
passed [] b h = (refl, h)
passed (None ∷ a) b h = passed a b h
passed (Some e ∷ a) b h = refused_is_not_done e h

-- ---- a rule with a place
nowhere : (r : Rule) (o : Option ℕ) → first_of (broken_at r o ∷ []) ≡ Ok tt → o ≡ None
nowhere r None h = refl
nowhere r (Some p) h = refused_is_not_done _ h

-- ---- the first place at which a test is true
module _ (t : ℕ → Bool) where
  where_none : (n : ℕ) → ((i : ℕ) → i < n → t i ≡ false) → first_where n t ≡ None
  where_none zero h = refl
  where_none (suc n) h = ap (λ (o : Option ℕ). or_else o (cond (t n) (Some n) None)) (where_none n (λ i l. h i (omega arith))) ∙ cond-false _ _ _ (h n (omega arith))

  where_some : (n k : ℕ) → k < n → ((i : ℕ) → i < k → t i ≡ false) → t k ≡ true → first_where n t ≡ Some k
  where_some zero k l h e = absurd (omega arith)
  where_some (suc n) k l h e =
      ⊎_elim
      (λ s. ap (λ (o : Option ℕ). or_else o (cond (t n) (Some n) None)) (where_none n (λ i m. h i (omega arith))) ∙ (cond-true _ _ _ (subst (λ (m : ℕ). t m ≡ true) s e) ∙ ap Some (sym s)))
      (λ d. ap (λ (o : Option ℕ). or_else o (cond (t n) (Some n) None)) (where_some n k (omega arith) h e))
      (cases_eq k n)

  -- o is the first place from 0 up to n at which t is true, if there is one: as `find` says it
  abbrev IsFirst : ℕ → Option ℕ → Type 0
  IsFirst n o = MatchOption o ((i : ℕ) → 0 ≤ i → i < n → t i ≡ false) (λ k. (0 ≤ k) × (k < n) × (t k ≡ true) × ((i : ℕ) → 0 ≤ i → i < k → t i ≡ false))

  pub first_is : (n : ℕ) (o : Option ℕ) → IsFirst n o → o ≡ first_where n t
  first_is n None h = sym (where_none n (λ i l. h i (omega arith) l))
  first_is n (Some k) h = sym (where_some n k h.1 (λ i l. h.3 i (omega arith) l) h.2)

  more : (n : ℕ) (o : Option ℕ) → IsFirst n o → IsFirst (suc n) (or_else o (cond (t n) (Some n) None))
  more n (Some k) h = (h.0, omega (arith, h.1), h.2, h.3)
  more n None h =
      elim (cases_Bool (t n)) as (λ _. IsFirst (suc n) (cond (t n) (Some n) None)) [
        | inl e ↦ subst (IsFirst (suc n)) (sym (cond-true _ _ _ e)) (omega arith, omega arith, e, h)
        | inr e ↦ subst (IsFirst (suc n)) (sym (cond-false _ _ _ e)) (λ i z l. elim (cases_lt i n) as (λ _. t i ≡ false) [ inl a ↦ h i z a | inr a ↦ let s : n ≡ i = omega arith in subst (λ j. t j ≡ false) s e ])
      ]

  is_first : (n : ℕ) → IsFirst n (first_where n t)
  is_first zero = λ i z l. absurd (omega arith)
  is_first (suc n) = more n (first_where n t) (is_first n)

-- ---- the form of a bid with a quantity for each of its hours
module _ (p : Profile) where
  abbrev first_wrong : Option ℕ
  first_wrong = first_where p.hours (λ i. not (p.right i))

  found : (o : Option ℕ) → first_wrong ≡ o → IsFirst (λ i. not (p.right i)) p.hours o
  found o e = subst (IsFirst (λ i. not (p.right i)) p.hours) e (is_first _ p.hours)

  -- the hour that is found is the first that is not right
  pub first_found : (k : ℕ) → first_wrong ≡ Some k → FirstWrong p k
  first_found k e = let h = found (Some k) e in record { within = h.1; wrong = not-true _ h.2; before = λ i l. not-false _ (h.3 i (omega arith) l) }

  -- where the hours are allowed and none is found the form is kept
  pub none_found : p.spans ≡ true → first_wrong ≡ None → FormKept p
  none_found s e = record { spans = s; right = λ i l. not-false _ (found None e i (omega arith) l) }

  -- where the form is passed it is not broken anywhere
  pub form_passed : first_of (form_rules p) ≡ Ok tt → fault p ≡ None
  form_passed h = nowhere _ _ h

  -- the form is not broken anywhere exactly where it is kept
  pub kept_form : fault p ≡ None → FormKept p
  unfolding fault
  kept_form e =
      elim (cases_Bool p.spans) as (λ _. FormKept p) [
        | inl s ↦ none_found s (sym (cond-true p.spans first_wrong (Some 99) s) ∙ e)
        | inr s ↦ let z : ◌≡◌ {A = Option ℕ} (Some 99) None = sym (cond-false p.spans first_wrong (Some 99) s) ∙ e in absurd cc
      ]

  pub no_fault : FormKept p → fault p ≡ None
  unfolding fault
  no_fault k = cond-true _ _ _ k.spans ∙ where_none _ p.hours (λ i l. not_from_true _ (k.right i l))
