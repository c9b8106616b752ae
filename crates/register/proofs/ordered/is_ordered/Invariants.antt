use Rattle.register.proofs.Counted.{Counted}
use Rattle.register.proofs.ordered.is_ordered.Given as goal

abbrev pub invariant-loop-bid : goal.invariant-loop-bid
invariant-loop-bid g l = Counted g.B.Bid.kind l.bids l.bid-index l.last l.counts
