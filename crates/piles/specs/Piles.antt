-- What a cap over a curve and the sum of two curves mean.
use Rattle.std.specs.Prelude.{◌≡◌, ℕ, ◌+◌, ◌<◌, ◌≤◌, min, max, ℤ, pos, ◌+ℤ◌, neg_ℤ, Ok, Err, Result}
use Rattle.std.specs.Int.{int_max, int_min}
use Rattle.market.specs.declared.refusals.Refusal.{Refusal}
use Rattle.market.specs.declared.refusals.Rule.TheVariants as rules
use Rattle.piles.specs.declared.sums.Sum.{Sum}

-- the quantity z, cut to at most so many lots bought and so many sold, where a number above 1,000,000 counts as that
abbrev pub capped : (bought sold : ℕ) → ℤ → ℤ
capped bought sold z = int_max (neg_ℤ (pos (min sold 1000000))) (int_min z (pos (min bought 1000000)))

-- the reach of a cap: the least of the reach below and the larger of its two numbers
abbrev pub cap_reach : (bought sold reach : ℕ) → ℕ
cap_reach bought sold reach = min reach (max (min bought 1000000) (min sold 1000000))

-- the reach of a sum: the total of both, where one above 1,000,000 counts as that
abbrev pub sum_reach : ℕ → ℕ → ℕ
sum_reach a b = min (a + b) 1000000

-- the sum of two quantities, of curves that reach so far, cut to the reach of the sum
abbrev pub added : (a b : ℕ) → ℤ → ℤ → ℤ
added a b y z = int_max (neg_ℤ (pos (sum_reach a b))) (int_min (y +ℤ z) (pos (sum_reach a b)))

-- what is made of two curves that reach so far: their sum where the reaches total at most 1,000,000, and else the refusal at place 0
abbrev pub Summed : {A B : Type 0} → (a b : ℕ) → A → B → Result (Sum A B) Refusal → Type 0
Summed a b x y (Ok s) = (s ≡ record { first = x; second = y }) × (a + b ≤ 1000000)
Summed a b x y (Err e) = (e ≡ record { rule = rules.SumReach; place = 0 }) × (1000000 < a + b)
