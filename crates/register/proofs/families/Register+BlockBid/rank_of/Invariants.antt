use Rattle.std.proofs.Common.{◌≡◌, ◌-◌}
use Rattle.register.specs.Families.{rank, rank_from}
use Rattle.register.proofs.families.Register+BlockBid.rank_of.Given as goal

abbrev pub invariant-loop-level : goal.invariant-loop-level
invariant-loop-level l = rank_from (2 - l.level) l.self.bids.now l.level l.at ≡ rank l.self.bids.now l.block
