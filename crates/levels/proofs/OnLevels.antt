-- The quantities of linear and stepped curves, by places among the levels.
use Rattle.std.proofs.Common.{◌≡◌, ℕ, zero, suc, ◌+◌, ◌-◌, ◌*◌, ◌/◌, ◌<◌, ◌≤◌, true, List, [], ◌∷◌, length, get_or, pos, ◌-ℤ◌, sym, refl, ap, ◌∙◌, subst, mul-zero, add-one, arith}
use native.Mathlib.Nat.{div-eq_of_lt}
use Rattle.std.proofs.lemmas.Int.{ints}
use Rattle.std.proofs.lemmas.Bool.{and_parts}
use Rattle.levels.specs.declared.level.Level.{Level}
use Rattle.levels.specs.Form.{bounded, follows, formed_after}
use Rattle.levels.specs.Lines.{span, scaled, Nearest, between, on_line, linear, OnLine}
use Rattle.levels.specs.Steps.{stepped, OnSteps}
use Rattle.levels.specs.Fronts.{Formed}
use Rattle.levels.specs.Chains.{next, along_from, here, there}
use Rattle.levels.specs.LinesLemmas.{line_rule, is_nearest, fallen, gap, between_is}
use Rattle.levels.specs.StepRule.{on_step, step_rule}

-- no level is priced below the first
pub rises_at : (a : Level) (ls : List Level) (d : Level) (i : ℕ) → formed_after a ls ≡ true → i ≤ length ls → a.price ≤ (get_or (a ∷ ls) i d).price
rises_at a ls d zero h l = omega arith
rises_at a [] d (suc i) h l = absurd (omega arith)
rises_at a (b ∷ ls) d (suc i) h l =
    let parts = and_parts (follows a b) (formed_after b ls) h in
    let up = (next a b parts.0).rises in
    let rest = rises_at b ls d i parts.1 (omega arith) in
    omega arith

-- nothing has fallen at the level itself
fallen_none : (d s : ℕ) → 0 < s → fallen d 0 s ≡ 0
fallen_none d s h =
    let z = mul-zero d in
    let e : 2 * (d * 0) + (s - 1) ≡ s - 1 = omega arith in
    ap (λ x. x / (2 * s)) e ∙ div-eq_of_lt (omega arith)

at_from : (a b : Level) (p : ℕ) → follows a b ≡ true → p ≤ a.price → between a b p ≡ a.quantity
at_from a b p f l =
    let up = (next a b f).rises in
    let t : p - a.price ≡ 0 = omega arith in
    let none = fallen_none (gap a b) (span a b) (omega arith) in
    let e = between_is a b p f ∙ ap (λ x. a.quantity -ℤ pos (fallen (gap a b) x (span a b))) t ∙ ap (λ x. a.quantity -ℤ pos x) none in
    let zero-less : a.quantity -ℤ pos 0 ≡ a.quantity = omega (arith, ints) in
    e ∙ zero-less

-- ---- a linear curve
line_first : (a : Level) (ls : List Level) (p : ℕ) → formed_after a ls ≡ true → p ≤ a.price → along_from on_line line_rule a ls p ≡ a.quantity
line_first a [] p h l = refl
line_first a (b ∷ ls) p h l =
    let parts = and_parts (follows a b) (formed_after b ls) h in
    let up = (next a b parts.0).rises in
    here on_line line_rule a b ls p (omega arith) ∙ at_from a b p parts.0 l

line_last : (a : Level) (ls : List Level) (d : Level) (p : ℕ) → formed_after a ls ≡ true → (get_or (a ∷ ls) (length ls) d).price ≤ p → along_from on_line line_rule a ls p ≡ (get_or (a ∷ ls) (length ls) d).quantity
line_last a [] d p h l = refl
line_last a (b ∷ ls) d p h l =
    let parts = and_parts (follows a b) (formed_after b ls) h in
    let up = rises_at b ls d (length ls) parts.1 (omega arith) in
    there on_line line_rule a b ls p (omega arith) ∙ line_last b ls d p parts.1 l

line_level : (a : Level) (ls : List Level) (d : Level) (p i : ℕ) → formed_after a ls ≡ true → i < length ls → (get_or (a ∷ ls) i d).price ≤ p → p < (get_or ls i d).price →
    Nearest (scaled (get_or (a ∷ ls) i d) (get_or ls i d) p) (span (get_or (a ∷ ls) i d) (get_or ls i d)) (along_from on_line line_rule a ls p)
line_level a [] d p i h l from to = absurd (omega arith)
line_level a (b ∷ ls) d p zero h l from to =
    let parts = and_parts (follows a b) (formed_after b ls) h in
    let up = (next a b parts.0).rises in
    subst (Nearest (scaled a b p) (span a b)) (sym (here on_line line_rule a b ls p to)) (is_nearest (scaled a b p) (span a b) (omega arith))
line_level a (b ∷ ls) d p (suc i) h l from to =
    let parts = and_parts (follows a b) (formed_after b ls) h in
    let up = rises_at b ls d i parts.1 (omega arith) in
    subst (Nearest (scaled (get_or (b ∷ ls) i d) (get_or ls i d) p) (span (get_or (b ∷ ls) i d) (get_or ls i d))) (sym (there on_line line_rule a b ls p (omega arith))) (line_level b ls d p i parts.1 (omega arith) from to)

pub linear_on_line : (ls : List Level) (p : ℕ) → Formed ls → OnLine ls p (linear ls p)
unfolding linear
linear_on_line [] p h = absurd (omega (arith, h.some))
linear_on_line (a ∷ ls) p h =
    let f = (and_parts (bounded a) (formed_after a ls) h.keeps).1 in
    let last : suc (length ls) - 1 ≡ length ls = omega arith in
    record {
      up_to_first = λ d l. line_first a ls p f l;
      from_last = λ d. subst (λ k. (get_or (a ∷ ls) k d).price ≤ p → along_from on_line line_rule a ls p ≡ (get_or (a ∷ ls) k d).quantity) (sym last) (line_last a ls d p f);
      from_level = λ d i. subst (λ k. k < suc (length ls) → (get_or (a ∷ ls) i d).price ≤ p → p < (get_or (a ∷ ls) k d).price → Nearest (scaled (get_or (a ∷ ls) i d) (get_or (a ∷ ls) k d) p) (span (get_or (a ∷ ls) i d) (get_or (a ∷ ls) k d)) (along_from on_line line_rule a ls p)) (sym (add-one i)) (λ l. line_level a ls d p i f (omega arith));
    }

-- ---- a stepped curve
step_first : (a : Level) (ls : List Level) (p : ℕ) → formed_after a ls ≡ true → p < a.price → along_from on_step step_rule a ls p ≡ a.quantity
step_first a [] p h l = refl
step_first a (b ∷ ls) p h l =
    let parts = and_parts (follows a b) (formed_after b ls) h in
    let up = (next a b parts.0).rises in
    here on_step step_rule a b ls p (omega arith)

step_last : (a : Level) (ls : List Level) (d : Level) (p i : ℕ) → formed_after a ls ≡ true → i ≤ length ls → (get_or (a ∷ ls) i d).price ≤ p → ((j : ℕ) → i < j → j ≤ length ls → p < (get_or (a ∷ ls) j d).price) → along_from on_step step_rule a ls p ≡ (get_or (a ∷ ls) i d).quantity
step_last a [] d p zero h l from past = refl
step_last a [] d p (suc i) h l from past = absurd (omega arith)
step_last a (b ∷ ls) d p zero h l from past = here on_step step_rule a b ls p (past 1 (omega arith) (omega arith))
step_last a (b ∷ ls) d p (suc i) h l from past =
    let parts = and_parts (follows a b) (formed_after b ls) h in
    let up = rises_at b ls d i parts.1 (omega arith) in
    there on_step step_rule a b ls p (omega arith) ∙ step_last b ls d p i parts.1 (omega arith) from (λ j o u. past (suc j) (omega arith) (omega arith))

pub stepped_on_steps : (ls : List Level) (p : ℕ) → Formed ls → OnSteps ls p (stepped ls p)
unfolding stepped
stepped_on_steps [] p h = absurd (omega (arith, h.some))
stepped_on_steps (a ∷ ls) p h =
    let f = (and_parts (bounded a) (formed_after a ls) h.keeps).1 in
    record {
      before_first = λ d l. step_first a ls p f l;
      at_last = λ d i l from past. step_last a ls d p i f (omega arith) from (λ j o u. past j o (omega arith));
    }
