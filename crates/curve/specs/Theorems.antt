-- What is proved of matches at a price.
use Rattle.std.specs.Prelude.{◌≡◌, ℕ, true, ◌↔◌, ℤ, ◌≤ℤ◌, Option}
use Rattle.market.specs.declared.limits.Limits.{Limits}
use Rattle.market.specs.Prices.{lawful, within}
use Rattle.market.specs.declared.sides.Side.{Side}
use Rattle.curve.specs.Worth.{WorthIs, worth}
use Rattle.curve.specs.Ranges.{holds}
use Rattle.curve.specs.Margins.{margin, offered}
use Rattle.curve.specs.Gains.{surplus}

-- at a price p within lawful limits, a match m in the margin is offered, and no match n that is offered has a greater surplus; n has as great a one exactly where it lies in the margin too
abbrev pub GreatestInMargin : (ℕ → ℤ) → Limits → ℕ → ℤ → Type 0
GreatestInMargin q limits p m =
    lawful limits ≡ true → within limits p ≡ true → holds (margin q limits p) m ≡ true →
    (holds (offered q limits) m ≡ true)
    × ((n : ℤ) → holds (offered q limits) n ≡ true →
    (surplus q limits p n ≤ℤ surplus q limits p m)
    × ((surplus q limits p n ≡ surplus q limits p m) ↔ (holds (margin q limits p) n ≡ true)))

-- the value that sums of worths go by is the worth of the rule, for every lot, and nothing else is
abbrev pub WorthFound : (ℕ → ℤ) → Limits → Side → Type 0
WorthFound q limits side = (lot : ℕ) (o : Option ℕ) → WorthIs q limits side lot o ↔ (o ≡ worth q limits side lot)
