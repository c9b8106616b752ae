-- What became of the call of a step, by its place.
use Rattle.std.proofs.Common.{◌≡◌, ℕ, zero, suc, ◌<◌, ◌≤◌, List, [], ◌∷◌, length, get_or, Option, Some, None, MatchOption, Bor, refl, sym, ap, ◌∙◌, arith}
use Rattle.std.specs.Slice.{IsItemAt}
use Rattle.std.proofs.lemmas.Bool.{ltb-true, ltb-false}
use Rattle.day.specs.declared.calls.Step.{Step}
use Rattle.bids.specs.Checks.{Answer}
use Rattle.docket.specs.Answers.{became}

became_at : {C : Type 0} (ss : List (Step C)) (i : ℕ) (d : Step C) → i < length ss → became ss i ≡ (get_or ss i d).outcome
became_at [] i d h = absurd (omega arith)
became_at (s ∷ ss) zero d h = refl
became_at (s ∷ ss) (suc i) d h = became_at ss i d (omega arith)

became_past : {C : Type 0} (ss : List (Step C)) (i : ℕ) → length ss ≤ i → became ss i ≡ None
became_past [] i h = refl
became_past (s ∷ ss) zero h = absurd (omega arith)
became_past (s ∷ ss) (suc i) h = became_past ss i (omega arith)

-- what a step has that was looked up, or not made where there is none
pub became_found : {C : Type 0} (ss : List (Step C)) (i : ℕ) (found : Option (Bor (Step C))) (o : Option Answer) → IsItemAt ss i found → MatchOption found (o ≡ None) (λ step. o ≡ step.now.outcome) → o ≡ became ss i
became_found ss i (Some step) o at same = same ∙ ap (λ s. s.outcome) at.1 ∙ sym (became_at ss i step.now (ltb-true _ _ (sym at.0)))
became_found ss i None o past same = same ∙ sym (became_past ss i (ltb-false _ _ (sym past.0)))
