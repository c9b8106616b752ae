-- The quantities of a block or a flexible bid.
use Rattle.std.specs.Prelude.{ℕ, ◌*◌, Bool, true, false, ◌&&◌, List, ℤ, pos, negsuc, nat_le, nat_lt, slice_index_or, unsigned_abs}
use Rattle.market.specs.declared.sides.Side.{Side}
use Rattle.market.specs.declared.sides.Side.TheVariants.{Buying, Selling}

-- of quantities in a row of hours, the one in the hour i, counted from 0; past their end it is 0
abbrev pub quantity_in : List ℤ → ℕ → ℤ
quantity_in qs i = slice_index_or qs i (pos 0)

-- a quantity below 0 is sold, any other is bought
abbrev pub side_of : ℤ → Side
side_of (pos n) = Buying
side_of (negsuc n) = Selling

-- the quantity q is not 0, and in size at most the most
abbrev pub sized : ℕ → ℤ → Bool
sized most q = nat_lt 0 (unsigned_abs q) && nat_le (unsigned_abs q) most

-- both quantities are bought, or both are sold
abbrev pub one_side : ℤ → ℤ → Bool
one_side (pos m) (pos n) = true
one_side (pos m) (negsuc n) = false
one_side (negsuc m) (pos n) = false
one_side (negsuc m) (negsuc n) = true

-- in size the quantity q is at most three times and at least a third of a, the one before
abbrev pub near : ℤ → ℤ → Bool
near a q = nat_le (unsigned_abs q) (3 * unsigned_abs a) && nat_le (unsigned_abs a) (3 * unsigned_abs q)
