-- What a match gains. q is the quantity of the curve at each price.
use Rattle.std.specs.Prelude.{ℕ, zero, suc, ◌+◌, min, ℤ, pos, negsuc, ◌-ℤ◌, ◌*ℤ◌, neg_ℤ}
use Rattle.std.specs.Option.{unwrap_or}
use Rattle.market.specs.declared.limits.Limits.{Limits}
use Rattle.market.specs.declared.sides.Side.{Side}
use Rattle.market.specs.declared.sides.Side.TheVariants.{Buying, Selling}
use Rattle.curve.specs.Worth.{worth}

-- the worth of a lot as a number, 0 where it has none
unfoldable pub lot_worth : (ℕ → ℤ) → Limits → Side → ℕ → ℕ
lot_worth q limits side lot = unwrap_or (worth q limits side lot) 0

-- w 1 + w 2 + .. + w n
unfoldable pub sum_to : (ℕ → ℕ) → ℕ → ℕ
sum_to w zero = 0
sum_to w (suc n) = sum_to w n + w (suc n)

-- what the match m gains: the worth of each lot bought, or minus the worth of each lot sold
abbrev pub gain : (ℕ → ℤ) → Limits → ℤ → ℤ
gain q limits (pos n) = pos (sum_to (lot_worth q limits Buying) n)
gain q limits (negsuc n) = neg_ℤ (pos (sum_to (lot_worth q limits Selling) (suc n)))

-- what is left of the gain after the price p of each lot, where a price above 10,000,000 is read as that
abbrev pub surplus : (ℕ → ℤ) → Limits → ℕ → ℤ → ℤ
surplus q limits p m = gain q limits m -ℤ pos (min p 10000000) *ℤ m
