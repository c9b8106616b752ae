-- Sums that do not reach the end of their type.
use Rattle.std.proofs.Common.{◌≡◌, ℕ, ◌+◌, ◌*◌, ◌<◌, ◌≤◌, min, List, length, get_or, take, sum_by, ◌∙◌, arith}
use native.Mathlib.Nat.{min-eq_left}
use Rattle.merit.proofs.Hours.{sum_step}

-- one more is added, and the sum is not cut
pub sum_more : {X : Type 0} (f : X → ℕ) (xs : List X) (i : ℕ) (x : X) → i < length xs → x ≡ get_or xs i x → (most a n r m : ℕ) → r ≡ min (a + n) m → a ≤ most * i → n ≤ most → most * (i + 1) ≤ m → a ≡ sum_by f (take i xs) → n ≡ f x → (r ≤ most * (i + 1)) × (r ≡ sum_by f (take (i + 1) xs))
sum_more f xs i x h is most a n r m cut few one fits ea en =
    let whole : a + n ≤ most * (i + 1) = omega arith in
    let plain : r ≡ a + n = cut ∙ min-eq_left (omega arith) in
    (omega arith, plain ∙ sum_step f xs i x h is a n ea en)
