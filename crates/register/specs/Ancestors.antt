-- The blocks above a block: its parent, the parent of its parent, and so on.
use Rattle.std.specs.Prelude.{◌≡◌, ℕ, zero, suc, ◌+◌, ◌<◌, List, length, Some, None, Option, ◌≢◌, slice_index_or}
use Rattle.bids.specs.declared.rows.BlockBid.{BlockBid}
use Rattle.bids.specs.Registers.{block}
use Rattle.register.specs.Order.{standing_as}

-- the block k parents above b: b itself for k of 0, and none where a block on the way names no parent or one that does not stand
abbrev pub ancestor : List BlockBid → ℕ → BlockBid → Option BlockBid
ancestor xs zero b = Some b
ancestor xs (suc k) b = elim b.parent [ None ↦ None | Some p ↦ elim (standing_as block p xs) [ None ↦ None | Some y ↦ ancestor xs k y ] ]

-- no block is its own ancestor: however many parents one goes up from a block b of xs, at least one, one does not come to b
abbrev pub NoOwnAncestor : List BlockBid → Type 0
NoOwnAncestor xs = (b : BlockBid) (k i : ℕ) → i < length xs → b ≡ slice_index_or xs i b → ancestor xs (k + 1) b ≢ Some b
