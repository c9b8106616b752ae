-- Lots bought and sold.
use Rattle.std.specs.Prelude.{ℕ, suc, ℤ, pos, negsuc}
use Rattle.market.specs.declared.sides.Side.{Side}
use Rattle.market.specs.declared.sides.Side.TheVariants.{Buying, Selling}

-- the lots of a quantity that are traded on a side: those above 0 are bought, those below 0 are sold
abbrev pub traded : Side → ℤ → ℕ
traded Buying (pos n) = n
traded Buying (negsuc n) = 0
traded Selling (pos n) = 0
traded Selling (negsuc n) = suc n
