-- The families of blocks: a block without parent and everything below it.
use Rattle.std.specs.Prelude.{ℕ, zero, suc, ◌+◌, Bool, true, false, ◌&&◌, ◌||◌, List, Some, None, Option, ◌==◌, nat_eq, nat_le, nat_lt}
use Rattle.std.specs.List.{list_any, count_by}
use Rattle.bids.specs.declared.rows.BlockBid.{BlockBid}
use Rattle.bids.specs.Registers.{block}
use Rattle.bids.specs.Blocks.{block_quantity}
use Rattle.bids.specs.Quantities.{one_side}
use Rattle.register.specs.Order.{each, standing_as}
use Rattle.register.specs.declared.families.Rank.{Rank}

-- the block y may be the parent of b: one participant, one direction
abbrev pub parent_fits : BlockBid → BlockBid → Bool
parent_fits b y = y.participant == b.participant && one_side (block_quantity y 0) (block_quantity b 0)

-- the parent of b, where b names one, stands and may be its parent
abbrev pub parent_kept : List BlockBid → BlockBid → Bool
parent_kept xs b = elim b.parent [ None ↦ true | Some p ↦ elim (standing_as block p xs) [ None ↦ false | Some y ↦ parent_fits b y ] ]

-- the level of b and the number of the block at the head of its family, where that is at most n parents up and b is on the level l as seen from below
abbrev pub rank_from : ℕ → List BlockBid → ℕ → BlockBid → Option Rank
rank_from zero xs l b = elim b.parent [ None ↦ Some (record { level = l; head = b.number }) | Some p ↦ None ]
rank_from (suc n) xs l b = elim b.parent [ None ↦ Some (record { level = l; head = b.number }) | Some p ↦ elim (standing_as block p xs) [ None ↦ None | Some y ↦ rank_from n xs (l + 1) y ] ]

-- the level of b in its family, 0 for a block without parent, and the number of the block at the family's head; none where that is more than two parents up, or there is no end to them
abbrev pub rank : List BlockBid → BlockBid → Option Rank
rank xs b = rank_from 2 xs 0 b

-- a rank is the level l below the head of the number h
abbrev pub is_rank : ℕ → ℕ → Option Rank → Bool
is_rank l h None = false
is_rank l h (Some r) = r.level == l && r.head == h

-- how many of the blocks xs are, among all, on the level l below the head of the number h
abbrev pub level_count : List BlockBid → ℕ → ℕ → List BlockBid → ℕ
level_count all l h xs = count_by (λ x. is_rank l h (rank all x)) xs

-- the family below the head of the number h: at most three blocks on each of two lower levels, and six blocks with the head
abbrev pub family_fits : List BlockBid → ℕ → Bool
family_fits xs h = nat_le (level_count xs 1 h xs) 3 && (nat_le (level_count xs 2 h xs) 3 && nat_le (level_count xs 1 h xs + level_count xs 2 h xs) 5)

-- b is on one of the three levels of a family that keeps its limits
abbrev pub family_kept : List BlockBid → BlockBid → Bool
family_kept xs b = elim (rank xs b) [ None ↦ false | Some r ↦ family_fits xs r.head ]

-- each parent stands and may be one, and each block is in a family that keeps its limits
abbrev pub families_kept : List BlockBid → Bool
families_kept xs = each (parent_kept xs) xs && each (family_kept xs) xs

-- b may join the family of its parent among xs: on one of the two lower levels, with fewer than three there and fewer than six in all
abbrev pub may_join : List BlockBid → BlockBid → Bool
may_join xs b = elim (rank xs b) [ None ↦ false | Some r ↦ nat_le r.level 0 || (nat_lt (level_count xs r.level r.head xs) 3 && nat_lt (level_count xs 1 r.head xs + level_count xs 2 r.head xs) 5) ]

-- b names the block of the number n as its parent
abbrev pub names_parent : ℕ → BlockBid → Bool
names_parent n b = elim b.parent [ None ↦ false | Some p ↦ nat_eq p n ]

-- a child of the block of the number n stands
abbrev pub child_stands : ℕ → List BlockBid → Bool
child_stands n xs = list_any (names_parent n) xs
