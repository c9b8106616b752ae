-- What the curves of an hour come to. q is the quantity of each curve at each price.
use Rattle.std.specs.Prelude.{◌≡◌, ℕ, ◌<◌, ◌≤◌, true, List, [], ◌∷◌, ℤ, pos, ◌+ℤ◌, ◌-ℤ◌, neg_ℤ, ◌≤ℤ◌, Some, None, sum_by, Option, ◌≢◌}
use Rattle.std.specs.Int.{int_min, int_max}
use Rattle.market.specs.declared.limits.Limits.{Limits}
use Rattle.market.specs.declared.sides.Side.TheVariants.{Buying, Selling}
use Rattle.market.specs.Lots.{traded}
use Rattle.market.specs.Prices.{within}
use Rattle.curve.specs.declared.ranges.LotRange.{LotRange}
use Rattle.curve.specs.Margins.{margin}
use Rattle.curve.specs.Gains.{gain}
use Rattle.curve.specs.Ranges.{holds}
use Rattle.merit.specs.declared.hour.Totals.{Totals}
use Rattle.merit.specs.declared.hour.TotalRange.{TotalRange}

-- f of each, added up
abbrev pub total : {X : Type 0} → (X → ℤ) → List X → ℤ
total f [] = pos 0
total f (x ∷ xs) = f x +ℤ total f xs

-- the lots among quantities that are bought, and those that are sold
abbrev pub lots_of : {X : Type 0} → (X → ℤ) → List X → Totals
lots_of f xs = record { bought = sum_by (λ x. traded Buying (f x)) xs; sold = sum_by (λ x. traded Selling (f x)) xs }

-- what the curves buy and sell at the price p
abbrev pub totals : {C : Type 0} → (C → ℕ → ℤ) → List C → ℕ → Totals
totals q cs p = lots_of (λ c. q c p) cs

-- the ranges of each, added up
abbrev pub ranges : {X : Type 0} → (X → LotRange) → List X → TotalRange
ranges r xs = record { least = total (λ x. (r x).least) xs; most = total (λ x. (r x).most) xs }

-- the margins of the curves at the price p, added up
abbrev pub margins : {C : Type 0} → (C → ℕ → ℤ) → Limits → List C → ℕ → TotalRange
margins q limits cs p = ranges (λ c. margin (q c) limits p) cs

-- the next price after p, up to the highest, at which t differs from what it is at p
abbrev pub NextChange : (ℕ → Totals) → Limits → ℕ → Option ℕ → Type 0
NextChange t limits p None = (n : ℕ) → p ≤ n → n ≤ limits.highest → t n ≡ t p
NextChange t limits p (Some n) = (p < n) × (n ≤ limits.highest) × (t n ≢ t p) × ((m : ℕ) → p ≤ m → m < n → t m ≡ t p)

-- matches within the ranges may total 0
abbrev pub Even : TotalRange → Type 0
Even range = (range.least ≤ℤ pos 0) × (pos 0 ≤ℤ range.most)

-- the lowest price within the limits at which the margins m are even
abbrev pub Balancing : (ℕ → TotalRange) → Limits → Option ℕ → Type 0
Balancing m limits None = (p : ℕ) → within limits p ≡ true → Even (m p) → ⊥
Balancing m limits (Some p) = (within limits p ≡ true) × Even (m p) × ((n : ℕ) → within limits n ≡ true → n < p → Even (m n) → ⊥)

-- the least of a range, and as much more within it as is missing
abbrev pub filled : LotRange → ℤ → ℤ
filled range missing = range.least +ℤ int_min (int_max missing (pos 0)) (range.most -ℤ range.least)

-- a match for each, within its range
abbrev pub WithinEach : {X : Type 0} → (X → LotRange) → List X → List ℤ → Type 0
WithinEach r [] [] = Unit {0}
WithinEach r [] (m ∷ ms) = ⊥
WithinEach r (x ∷ xs) [] = ⊥
WithinEach r (x ∷ xs) (m ∷ ms) = (holds (r x) m ≡ true) × WithinEach r xs ms

-- the least of each range, with what is missing handed out within the ranges from the first on
abbrev pub handed_out : {X : Type 0} → (X → LotRange) → ℤ → List X → List ℤ
handed_out r missing [] = []
handed_out r missing (x ∷ xs) = filled (r x) missing ∷ handed_out r (missing -ℤ (filled (r x) missing -ℤ (r x).least)) xs

-- the matches: each within its range, in all 0 where the ranges are even, and what is missing to 0 after the least of each handed out from the first on
pub record Matched {X : Type 0} (r : X → LotRange) (xs : List X) (ms : List ℤ) : Type 0 where
  pub within_each : WithinEach r xs ms
  pub in_all : Even (ranges r xs) → total (λ m. m) ms ≡ pos 0
  pub from_first : ms ≡ handed_out r (neg_ℤ (total (λ x. (r x).least) xs)) xs

-- what the matches of the curves gain in all
abbrev pub gains : {C : Type 0} → (C → ℕ → ℤ) → Limits → List C → List ℤ → ℤ
gains q limits [] ms = pos 0
gains q limits (c ∷ cs) [] = pos 0
gains q limits (c ∷ cs) (m ∷ ms) = gain (q c) limits m +ℤ gains q limits cs ms
