-- What makes the registers lawful.
use Rattle.std.specs.Prelude.{ℕ, Bool, not, ◌&&◌, List, [], ◌∷◌, length, take, is_some, nat_le}
use Rattle.market.specs.Prices.{within}
use Rattle.market.specs.declared.limits.Limits.{Limits}
use Rattle.market.specs.declared.refusals.Rule.TheVariants as rules
use Rattle.bids.specs.Registers.{hourly, block, flexible}
use Rattle.bids.specs.Checks.{broken}
use Rattle.bids.specs.Blocks.{block_fault}
use Rattle.bids.specs.Flexibles.{flexible_fault}
use Rattle.bids.specs.declared.rows.HourlyBid.{HourlyBid}
use Rattle.bids.specs.declared.rows.BlockBid.{BlockBid}
use Rattle.bids.specs.declared.rows.FlexibleBid.{FlexibleBid}
use Rattle.register.specs.Order.{each, ordered}
use Rattle.register.specs.Hours.{hours_kept}
use Rattle.register.specs.Families.{families_kept}
use Rattle.register.specs.Entries.{Rules}
use Rattle.register.specs.declared.lawful.Counts.{Counts}

-- hourly bids that may stand together: in order, and by their hours
abbrev pub hourly_kept : {C : Type 0} → List (HourlyBid C) → Bool
hourly_kept xs = ordered hourly xs && hours_kept xs

-- a block keeps its form, and its price lies within the limits
abbrev pub block_alone : Limits → BlockBid → Bool
block_alone limits b = not (is_some (block_fault b)) && within limits b.price

-- blocks that may stand together: in order, each right alone, and by their families
abbrev pub blocks_kept : Limits → List BlockBid → Bool
blocks_kept limits xs = ordered block xs && (each (block_alone limits) xs && families_kept xs)

-- a flexible bid keeps its form, and its price lies within the limits
abbrev pub flexible_alone : Limits → FlexibleBid → Bool
flexible_alone limits b = not (is_some (flexible_fault b)) && within limits b.price

-- flexible bids that may stand together: in order, and each right alone
abbrev pub flexible_kept : Limits → List FlexibleBid → Bool
flexible_kept limits xs = ordered flexible xs && each (flexible_alone limits) xs

-- a table whose first n places hold bids that t allows
abbrev pub lawful_table : {B : Type 0} → (List B → Bool) → ℕ → List B → Bool
lawful_table t n table = nat_le n (length table) && t (take n table)

-- the tables of the three registers
pub record Tables (C : Type 0) : Type 0 where
  pub hourly : List (HourlyBid C)
  pub blocks : List BlockBid
  pub flexible : List FlexibleBid

-- the registers are lawful: the hourly one, the blocks' and the flexible bids', looked at in this order
abbrev pub register_rules : {C : Type 0} → Limits → Counts → Tables C → Rules
register_rules limits n t =
    broken (not (lawful_table hourly_kept n.hourly t.hourly)) rules.Register 1
    ∷ broken (not (lawful_table (blocks_kept limits) n.blocks t.blocks)) rules.Register 2
    ∷ broken (not (lawful_table (flexible_kept limits) n.flexible t.flexible)) rules.Register 3
    ∷ []
