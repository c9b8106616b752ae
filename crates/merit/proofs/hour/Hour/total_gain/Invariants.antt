use Rattle.std.proofs.Common.{◌≡◌, ◌*◌, length, take, pos, neg_ℤ, ◌≤ℤ◌}
use Rattle.merit.specs.Hours.{gains}
use Rattle.merit.proofs.hour.Hour.total_gain.Given as goal

abbrev pub invariant-loop-curve : goal.invariant-loop-curve
invariant-loop-curve g l =
    (l.total ≡ gains g.C.PriceCurve.meaning l.self.limits (take (length l.yielded) l.self.curves.now) (take (length l.yielded) l.matched))
    × (neg_ℤ (pos (10000000000000 * length l.yielded)) ≤ℤ l.total) × (l.total ≤ℤ pos (10000000000000 * length l.yielded))
