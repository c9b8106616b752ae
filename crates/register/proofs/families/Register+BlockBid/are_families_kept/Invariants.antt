use Rattle.register.proofs.FamiliesCounted.{Tallied}
use Rattle.register.proofs.families.Register+BlockBid.are_families_kept.Given as goal

abbrev pub invariant-loop-block : goal.invariant-loop-block
invariant-loop-block l = Tallied l.self.bids.now l.block-index l.counts
