use Rattle.register.proofs.HourLaws.{Marked}
use Rattle.register.proofs.hours.are_hours_kept.Given as goal

abbrev pub invariant-loop-bid : goal.invariant-loop-bid
invariant-loop-bid g l = Marked l.bids l.bid-index l.taken
