-- Sums of the worth of lots.
use Rattle.std.proofs.Common.{◌≡◌, ℕ, zero, suc, ◌+◌, ◌-◌, ◌*◌, ◌<◌, ◌≤◌, refl, add-zero, add-suc, mul-zero, mul-suc, arith}
use Rattle.std.proofs.lemmas.Nat.{mul-le}
use Rattle.curve.specs.Gains.{sum_to}

pub sum_to_none : (w : ℕ → ℕ) → sum_to w 0 ≡ 0
unfolding sum_to
sum_to_none w = refl

-- a run of lots of equal worth
pub sum_to_run : (w : ℕ → ℕ) (a x k : ℕ) → ((j : ℕ) → a < j → j ≤ a + k → w j ≡ x) → sum_to w (a + k) ≡ sum_to w a + x * k
unfolding sum_to
sum_to_run w a x zero h = rw (add-zero a, mul-zero x) (omega arith)
sum_to_run w a x (suc k) h = rw (add-suc a k) (
    let before = sum_to_run w a x k (λ j l u. h j l (omega arith)) in
    let here = h (suc (a + k)) (omega arith) (omega arith) in
    omega (arith, mul-suc x k))

-- the same, up to b
pub sum_to_upto : (w : ℕ → ℕ) (a b x : ℕ) → a ≤ b → ((j : ℕ) → a < j → j ≤ b → w j ≡ x) → sum_to w b ≡ sum_to w a + x * (b - a)
sum_to_upto w a b x l h =
    let e : a + (b - a) ≡ b = omega arith in
    rw e at (sum_to_run w a x (b - a) (λ j from to. h j from (omega arith)))

-- a run at a price costs at most the highest price for each lot
pub run_le : (x a b : ℕ) → x ≤ 10000000 → x * (b - a) ≤ 10000000 * (b - a)
run_le x a b h = mul-le x (b - a) 10000000 (b - a) h (omega arith)
