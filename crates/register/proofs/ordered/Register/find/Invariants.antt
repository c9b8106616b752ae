use Rattle.std.proofs.Common.{ℕ, ◌-◌, ◌<◌, ◌≤◌, length, get_or}
use Rattle.register.proofs.ordered.Register.find.Given as goal

abbrev pub invariant-loop-low : goal.invariant-loop-low
invariant-loop-low g l =
    (l.high ≤ length l.self.bids.now) × (l.low ≤ l.high)
    × ((j : ℕ) (d : _) → j < l.low → g.B.Bid.kind.number_of (get_or l.self.bids.now j d) < l.number)
    × ((j : ℕ) (d : _) → l.high ≤ j → j < length l.self.bids.now → l.number < g.B.Bid.kind.number_of (get_or l.self.bids.now j d))

abbrev pub decreases-loop-low : goal.decreases-loop-low
decreases-loop-low g l = l.high - l.low
