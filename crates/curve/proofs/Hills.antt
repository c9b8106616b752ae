-- A sum of steps that are above 0, then 0, then below 0, is greatest where the steps are 0.
use Rattle.std.proofs.Common.{◌≡◌, ℕ, zero, suc, ◌+◌, ◌-◌, ◌*◌, ◌<◌, ◌≤◌, ℤ, pos, ◌+ℤ◌, ◌-ℤ◌, ◌≤ℤ◌, ◌<ℤ◌, ⊎_elim, add-zero, add-suc, mul-zero, mul-suc, arith}
use Rattle.std.proofs.lemmas.Int.{ints}
use Rattle.std.proofs.lemmas.Bool.{cases_lt}
use Rattle.curve.specs.Gains.{sum_to}

-- the steps 1 to n
unfoldable pub climb : (ℕ → ℤ) → ℕ → ℤ
climb d zero = pos 0
climb d (suc n) = climb d n +ℤ d (suc n)

module _ (d : ℕ → ℤ) (a : ℕ) where
  rising : (k : ℕ) → ((j : ℕ) → a < j → j ≤ a + k → pos 0 <ℤ d j) → (climb d a +ℤ pos k) ≤ℤ climb d (a + k)
  unfolding climb
  rising zero h = rw (add-zero a) (omega (arith, ints))
  rising (suc k) h = rw (add-suc a k) (
      let before = rising k (λ j l u. h j l (omega arith)) in
      let here = h (suc (a + k)) (omega arith) (omega arith) in
      omega (arith, ints))

  level : (k : ℕ) → ((j : ℕ) → a < j → j ≤ a + k → d j ≡ pos 0) → climb d (a + k) ≡ climb d a
  unfolding climb
  level zero h = rw (add-zero a)
  level (suc k) h = rw (add-suc a k) (
      let before = level k (λ j l u. h j l (omega arith)) in
      let here = h (suc (a + k)) (omega arith) (omega arith) in
      omega (arith, ints))

  falling : (k : ℕ) → ((j : ℕ) → a < j → j ≤ a + k → d j <ℤ pos 0) → (climb d (a + k) +ℤ pos k) ≤ℤ climb d a
  unfolding climb
  falling zero h = rw (add-zero a) (omega (arith, ints))
  falling (suc k) h = rw (add-suc a k) (
      let before = falling k (λ j l u. h j l (omega arith)) in
      let here = h (suc (a + k)) (omega arith) (omega arith) in
      omega (arith, ints))

-- the steps up to a rise, those up to b are level, and those up to t fall
pub record Hill (d : ℕ → ℤ) (a b t : ℕ) : Type 0 where
  pub rises : (j : ℕ) → 0 < j → j ≤ a → pos 0 <ℤ d j
  pub stays : (j : ℕ) → a < j → j ≤ b → d j ≡ pos 0
  pub falls : (j : ℕ) → b < j → j ≤ t → d j <ℤ pos 0

-- as far as n is short of a, or past b
short : (d : ℕ → ℤ) (a b t n : ℕ) → Hill d a b t → a ≤ b → n ≤ t → (climb d n +ℤ pos ((a - n) + (n - b))) ≤ℤ climb d a
short d a b t n h ab nt = ⊎_elim early (λ an. ⊎_elim (late an) (on an) (cases_lt b n)) (cases_lt n a)
  where
    early : n < a → (climb d n +ℤ pos ((a - n) + (n - b))) ≤ℤ climb d a
    early l =
        let e : n + (a - n) ≡ a = omega arith in
        let up = rw e at (rising d n (a - n) (λ j over upto. h.rises j (omega arith) (omega arith))) in
        omega (arith, ints)

    on : a ≤ n → n ≤ b → (climb d n +ℤ pos ((a - n) + (n - b))) ≤ℤ climb d a
    on l u =
        let e : a + (n - a) ≡ n = omega arith in
        let same = rw e at (level d a (n - a) (λ j over upto. h.stays j (omega arith) (omega arith))) in
        omega (arith, ints)

    late : a ≤ n → b < n → (climb d n +ℤ pos ((a - n) + (n - b))) ≤ℤ climb d a
    late l u =
        let e : b + (n - b) ≡ n = omega arith in
        let down = rw e at (falling d b (n - b) (λ j over upto. h.falls j (omega arith) (omega arith))) in
        let f : a + (b - a) ≡ b = omega arith in
        let same = rw f at (level d a (b - a) (λ j over upto. h.stays j (omega arith) (omega arith))) in
        omega (arith, ints)

-- from a to b the sum is the greatest
top : (d : ℕ → ℤ) (a b t m : ℕ) → Hill d a b t → a ≤ m → m ≤ b → climb d m ≡ climb d a
top d a b t m h l u =
    let e : a + (m - a) ≡ m = omega arith in
    rw e at (level d a (m - a) (λ j over upto. h.stays j (omega arith) (omega arith)))

pub best_on_hill : (d : ℕ → ℤ) (a b t m n : ℕ) → Hill d a b t → a ≤ m → m ≤ b → n ≤ t → (climb d n +ℤ pos ((a - n) + (n - b))) ≤ℤ climb d m
best_on_hill d a b t m n h l u v =
    let s = short d a b t n h (omega arith) v in
    let e = top d a b t m h l u in
    omega (arith, ints)

-- prices are taken away from the worth of lots bought, and worth from the prices of lots sold
pub bought_net : (w : ℕ → ℕ) (p n : ℕ) → climb (λ j. pos (w j) -ℤ pos p) n ≡ pos (sum_to w n) -ℤ pos (p * n)
unfolding climb sum_to
bought_net w p zero = omega (arith, ints, mul-zero p)
bought_net w p (suc n) = let e = bought_net w p n in omega (arith, ints, mul-suc p n)

pub sold_net : (w : ℕ → ℕ) (p n : ℕ) → climb (λ j. pos p -ℤ pos (w j)) n ≡ pos (p * n) -ℤ pos (sum_to w n)
unfolding climb sum_to
sold_net w p zero = omega (arith, ints, mul-zero p)
sold_net w p (suc n) = let e = sold_net w p n in omega (arith, ints, mul-suc p n)
