-- The form of a block.
use Rattle.std.specs.Prelude.{ℕ, ◌+◌, ◌-◌, Bool, ◌&&◌, ◌||◌, List, ℤ, Option, ◌==◌, nat_le}
use Rattle.market.specs.declared.refusals.Refusal.{Refusal}
use Rattle.market.specs.declared.sides.Side.{Side}
use Rattle.bids.specs.declared.rows.BlockBid.{BlockBid}
use Rattle.bids.specs.Checks.{Answer}
use Rattle.bids.specs.Profiles.{Profile, fault, form_rules, FormKept, Formed}
use Rattle.bids.specs.Quantities.{quantity_in, side_of, sized, one_side, near}

-- the quantity of a block in its hour i, counted from 0
abbrev pub block_quantity : BlockBid → ℕ → ℤ
block_quantity b = quantity_in b.quantities

-- whether a block buys or sells, as its hour 0 does
abbrev pub block_side : BlockBid → Side
block_side b = side_of (block_quantity b 0)

-- a block has 3 to 24 hours, and ends by hour 23
abbrev pub block_spans : BlockBid → Bool
block_spans b = nat_le 3 b.hours && (nat_le b.hours 24 && nat_le (b.first + b.hours) 24)

-- the hour i of a block is right: not 0, at most 6,000 in size, on the side of hour 0, and in size at most three times and at least a third of the hour before
abbrev pub block_right : BlockBid → ℕ → Bool
block_right b i = sized 6000 (block_quantity b i) && (one_side (block_quantity b 0) (block_quantity b i) && (i == 0 || near (block_quantity b (i - 1)) (block_quantity b i)))

-- a block with its quantities and its form
abbrev pub block_profile : BlockBid → Profile
block_profile b = record { price = b.price; spans = block_spans b; hours = b.hours; quantities = b.quantities; right = block_right b }

-- where the form of a block is broken: 99 for its hours, else the first of its hours that is not right
abbrev pub block_fault : BlockBid → Option ℕ
block_fault b = fault (block_profile b)

-- the form, as a rule of an entry
abbrev pub block_form : BlockBid → List (Option Refusal)
block_form b = form_rules (block_profile b)

-- the block keeps its form: its hours are allowed, and each is right
abbrev pub BlockForm : BlockBid → Type 0
BlockForm b = FormKept (block_profile b)

-- what the check of a block's form answers
abbrev pub BlockFormed : BlockBid → Answer → Type 0
BlockFormed b = Formed (block_profile b)
