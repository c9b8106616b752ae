-- Which matches a curve offers, and which of them lie in its margin at a price. q is the quantity of the curve at each price.
use Rattle.std.specs.Prelude.{ℕ, zero, suc, ◌+◌, cond, ℤ, pos, negsuc}
use Rattle.std.specs.Int.{int_max, int_min}
use Rattle.market.specs.declared.limits.Limits.{Limits}
use Rattle.market.specs.Prices.{within}
use Rattle.curve.specs.declared.ranges.LotRange.{LotRange}

-- the offered range: from what is sold at the highest price to what is bought at the lowest
abbrev pub offered : (ℕ → ℤ) → Limits → LotRange
offered q limits = record { least = int_min (q limits.highest) (pos 0); most = int_max (q limits.lowest) (pos 0) }

-- the quantity that counts at a price: the curve's within the limits, and 0 outside
abbrev pub counted : (ℕ → ℤ) → Limits → ℕ → ℤ
counted q limits p = cond (within limits p) (q p) (pos 0)

-- the quantity that counts one price below; price 0 has none below
abbrev pub counted_below : (ℕ → ℤ) → Limits → ℕ → ℤ
counted_below q limits zero = pos 0
counted_below q limits (suc p) = counted q limits p

-- the margin where the quantity here counts, with those one price above and one below: a buyer's match goes from what is bought above, or 0, to what is bought here; a seller's from what is sold here to what is sold below, or 0; where nothing is traded it is 0
abbrev pub margin_by : (here above below : ℤ) → LotRange
margin_by (pos zero) above below = record { least = pos 0; most = pos 0 }
margin_by (pos (suc n)) above below = record { least = int_max above (pos 0); most = pos (suc n) }
margin_by (negsuc n) above below = record { least = negsuc n; most = int_min below (pos 0) }

-- the margin at the price p
unfoldable pub margin : (ℕ → ℤ) → Limits → ℕ → LotRange
margin q limits p = margin_by (counted q limits p) (counted q limits (p + 1)) (counted_below q limits p)
