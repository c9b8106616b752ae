-- What lawful registers are, in words: of each bid, and of every two.
use Rattle.std.specs.Prelude.{◌≡◌, ℕ, ◌+◌, ◌<◌, ◌≤◌, true, List, length, take, Some, ◌≢◌, slice_index_or}
use Rattle.market.specs.Prices.{within}
use Rattle.market.specs.declared.limits.Limits.{Limits}
use Rattle.bids.specs.Kinds.{Kind}
use Rattle.bids.specs.Registers.{hourly, block, flexible}
use Rattle.bids.specs.Blocks.{BlockForm, block_quantity}
use Rattle.bids.specs.Flexibles.{FlexibleForm}
use Rattle.bids.specs.Quantities.{one_side}
use Rattle.bids.specs.declared.rows.HourlyBid.{HourlyBid}
use Rattle.bids.specs.declared.rows.BlockBid.{BlockBid}
use Rattle.bids.specs.declared.rows.FlexibleBid.{FlexibleBid}
use Rattle.register.specs.Order.{tally, standing_as}
use Rattle.register.specs.Families.{rank, level_count}
use Rattle.register.specs.Ancestors.{NoOwnAncestor}
use Rattle.register.specs.Lawful.{Tables}
use Rattle.register.specs.declared.families.Rank.{Rank}
use Rattle.register.specs.declared.lawful.Counts.{Counts}

-- P is true of the bid at each place
abbrev pub OfEach : {B : Type 0} → List B → (B → Type 0) → Type 0
OfEach {B} xs P = (i : ℕ) (b : B) → i < length xs → b ≡ slice_index_or xs i b → P b

-- P is true of every two bids, the earlier one first
abbrev pub OfTwo : {B : Type 0} → List B → (B → B → Type 0) → Type 0
OfTwo {B} xs P = (i j : ℕ) (b d : B) → i < j → j < length xs → b ≡ slice_index_or xs i b → d ≡ slice_index_or xs j d → P b d

-- bids in order: numbers from 1 to 60,000 that rise, participants from 1 to 999, none of whom has more than it may have
pub record InOrder {B : Type 0} (k : Kind B) (xs : List B) : Type 0 where
  pub rise : OfTwo xs (λ b d. k.number_of b < k.number_of d)
  pub numbers : OfEach xs (λ b. (1 ≤ k.number_of b) × (k.number_of b ≤ 60000))
  pub participants : OfEach xs (λ b. (1 ≤ k.participant_of b) × (k.participant_of b ≤ 999))
  pub few_each : (p : ℕ) → tally k p xs ≤ k.most_standing

-- a lawful register of hourly bids: in order, each in an hour of the day, and no two of one participant in one hour
pub record LawfulHourly {C : Type 0} (xs : List (HourlyBid C)) : Type 0 where
  pub in_order : InOrder hourly xs
  pub hours : OfEach xs (λ b. b.hour ≤ 23)
  pub apart_each : OfTwo xs (λ b d. b.participant ≡ d.participant → b.hour ≢ d.hour)

-- the parent of a block: it stands, and is of the same participant and direction
abbrev pub ParentOf : List BlockBid → BlockBid → ℕ → Type 0
ParentOf xs b p = (y : BlockBid) × (standing_as block p xs ≡ Some y) × (y.participant ≡ b.participant) × (one_side (block_quantity y 0) (block_quantity b 0) ≡ true)

-- a lawful register of blocks: in order, each of its form and with a price within the limits, each parent named stands and fits, each block is on one of the three levels of a family, none is its own ancestor, and below the head of a family there are at most three blocks on each level and five in all
pub record LawfulBlocks (limits : Limits) (xs : List BlockBid) : Type 0 where
  pub in_order : InOrder block xs
  pub forms : OfEach xs BlockForm
  pub prices : OfEach xs (λ b. within limits b.price ≡ true)
  pub parents : OfEach xs (λ b. (p : ℕ) → b.parent ≡ Some p → ParentOf xs b p)
  pub levels : OfEach xs (λ b. (r : Rank) × (rank xs b ≡ Some r))
  pub ancestors : NoOwnAncestor xs
  pub few_on_level : (h : ℕ) → (level_count xs 1 h xs ≤ 3) × (level_count xs 2 h xs ≤ 3) × (level_count xs 1 h xs + level_count xs 2 h xs ≤ 5)

-- a lawful register of flexible bids: in order, each of its form and with a price within the limits
pub record LawfulFlexible (limits : Limits) (xs : List FlexibleBid) : Type 0 where
  pub in_order : InOrder flexible xs
  pub forms : OfEach xs FlexibleForm
  pub prices : OfEach xs (λ b. within limits b.price ≡ true)

-- the three registers are lawful: each table has at least as many places as bids are counted, and the bids in its first places are a lawful register
pub record LawfulRegisters {C : Type 0} (limits : Limits) (n : Counts) (t : Tables C) : Type 0 where
  pub hourly_places : n.hourly ≤ length t.hourly
  pub hourly_bids : LawfulHourly (take n.hourly t.hourly)
  pub block_places : n.blocks ≤ length t.blocks
  pub block_bids : LawfulBlocks limits (take n.blocks t.blocks)
  pub flexible_places : n.flexible ≤ length t.flexible
  pub flexible_bids : LawfulFlexible limits (take n.flexible t.flexible)
