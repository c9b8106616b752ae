-- Flat curves.
use Rattle.std.specs.Prelude.{◌≡◌, ℕ, Bool, true, false, cond, ◌&&◌, ℤ, pos, negsuc, Ok, Err, Result, int_le, unsigned_abs}
use Rattle.market.specs.declared.refusals.Refusal.{Refusal}
use Rattle.market.specs.declared.refusals.Rule.TheVariants as rules
use Rattle.levels.specs.declared.constant.Flat.{Flat}

-- a quantity from -100,000 to 100,000
abbrev pub in_bounds : ℤ → Bool
in_bounds z = int_le (negsuc 99999) z && int_le z (pos 100000)

-- the quantity of a flat curve at all prices: one out of bounds counts as 0
abbrev pub flat_quantity : ℤ → ℤ
flat_quantity z = cond (in_bounds z) z (pos 0)

-- its reach
abbrev pub flat_reach : ℤ → ℕ
flat_reach z = unsigned_abs (flat_quantity z)

-- what is made of a quantity: the curve of it where it is in bounds, and else the refusal at place 0
abbrev pub MadeFlat : ℤ → Result Flat Refusal → Type 0
MadeFlat z (Ok c) = (c ≡ record { quantity = z }) × (in_bounds z ≡ true)
MadeFlat z (Err e) = (e ≡ record { rule = rules.Form; place = 0 }) × (in_bounds z ≡ false)
