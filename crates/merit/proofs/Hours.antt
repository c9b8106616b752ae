-- Sums over the curves of an hour.
use Rattle.std.proofs.Common.{◌≡◌, ℕ, zero, suc, ◌+◌, ◌<◌, List, [], ◌∷◌, ◌++◌, length, get_or, take, ℤ, pos, ◌+ℤ◌, sum_by, ap, ◌∙◌, add-one, arith}
use lib.IntN.{+ℤ_comm}
use Rattle.std.proofs.lemmas.List.{take_more}
use Rattle.std.proofs.lemmas.Int.{ints}
use Rattle.std.proofs.lemmas.List.Sums.{sum_by_more}
use Rattle.merit.specs.declared.hour.Totals.{Totals}
use Rattle.market.specs.declared.limits.Limits.{Limits}
use Rattle.curve.specs.Gains.{gain}
use Rattle.merit.specs.Hours.{total, gains}

-- ---- one more, of numbers and of integers
pub sum_step : {X : Type 0} (f : X → ℕ) (xs : List X) (i : ℕ) (x : X) → i < length xs → x ≡ get_or xs i x → (a n : ℕ) → a ≡ sum_by f (take i xs) → n ≡ f x → a + n ≡ sum_by f (take (i + 1) xs)
sum_step f xs i x h is a n ea en =
    let e = sum_by_more f xs i x h in
    let v : n ≡ f (get_or xs i x) = en ∙ ap f is in
    omega arith

module _ {X : Type 0} (f : X → ℤ) where
  pub total_push : (xs : List X) (x : X) → total f (xs ++ x ∷ []) ≡ total f xs +ℤ f x
  total_push [] x = omega (arith, ints)
  total_push (y ∷ ys) x = let e = total_push ys x in omega (arith, ints)

  pub total_step : (xs : List X) (i : ℕ) (x : X) → i < length xs → x ≡ get_or xs i x → (a z : ℤ) → a ≡ total f (take i xs) → z ≡ f x → a +ℤ z ≡ total f (take (i + 1) xs)
  total_step xs i x h is a z ea ez =
      let e = ap (total f) (take_more xs i x h) ∙ total_push (take i xs) (get_or xs i x) in
      let v : z ≡ f (get_or xs i x) = ez ∙ ap f is in
      omega (arith, ints)

-- ---- a pair of sums
pub same_totals : (a b c d : ℕ) → a ≡ b → c ≡ d → ◌≡◌ {A = Totals} (record { bought = a; sold = c }) (record { bought = b; sold = d })
same_totals a b c d e h = λ i. record { bought = e i; sold = h i }

-- ---- gains of curves and their matches
module _ {C : Type 0} (q : C → ℕ → ℤ) (limits : Limits) where
  pub gains_more : (cs : List C) (ms : List ℤ) (i : ℕ) (d : C) (e : ℤ) → i < length cs → i < length ms → gains q limits (take (i + 1) cs) (take (i + 1) ms) ≡ gains q limits (take i cs) (take i ms) +ℤ gain (q (get_or cs i d)) limits (get_or ms i e)
  gains_more [] ms i d e l k = absurd (omega arith)
  gains_more (c ∷ cs) [] i d e l k = absurd (omega arith)
  gains_more (c ∷ cs) (m ∷ ms) zero d e l k = +ℤ_comm (gain (q c) limits m) (pos 0)
  gains_more (c ∷ cs) (m ∷ ms) (suc i) d e l k = rw (add-one (suc i)) (
      let rest = rw (add-one i) at (gains_more cs ms i d e (omega arith) (omega arith)) in
      omega (arith, ints))
