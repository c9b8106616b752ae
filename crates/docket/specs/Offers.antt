-- What the hourly bids of an hour offer. q is the quantity of each curve at each price.
use Rattle.std.specs.Prelude.{ℕ, cond, List, ℤ, sum_by, ◌==◌}
use Rattle.market.specs.declared.limits.Limits.{Limits}
use Rattle.market.specs.declared.sides.Side.TheVariants.{Buying, Selling}
use Rattle.market.specs.Lots.{traded}
use Rattle.bids.specs.declared.rows.HourlyBid.{HourlyBid}
use Rattle.docket.specs.declared.hours.Offers.{Offers}

-- f of a bid of the hour h, and 0 of any other
abbrev pub of_hour : {C : Type 0} → ℕ → (HourlyBid C → ℕ) → HourlyBid C → ℕ
of_hour h f b = cond (b.hour == h) (f b) 0

-- the bids of the hour h: how many there are, their lots bought at the lowest price, and their lots sold at the highest
abbrev pub offered : {C : Type 0} → (C → ℕ → ℤ) → Limits → ℕ → List (HourlyBid C) → Offers
offered q limits h bids = record { count = sum_by (of_hour h (λ b. 1)) bids; bought = sum_by (of_hour h (λ b. traded Buying (q b.curve limits.lowest))) bids; sold = sum_by (of_hour h (λ b. traded Selling (q b.curve limits.highest))) bids }
