use Rattle.std.proofs.Common.{◌-◌, ◌<◌, ◌≤◌, max, true, false}
use Rattle.curve.proofs.bisection.first_from.Given as goal

abbrev pub invariant-loop-first : goal.invariant-loop-first
invariant-loop-first g l =
    (l.low ≤ l.first) × (l.first ≤ max l.low l.passing) × (l.passing ≤ l.high)
    × (l.low < l.first → goal.F-post g l.test (l.first - 1) false)
    × (l.passing < l.high → (l.low ≤ l.passing) × goal.F-post g l.test l.passing true)

abbrev pub decreases-loop-first : goal.decreases-loop-first
decreases-loop-first g l = l.passing - l.first
