use Rattle.std.proofs.Common.{◌≡◌, ◌+◌, ◌<◌, length, drop}
use Rattle.levels.specs.Form.{front_after}
use Rattle.levels.proofs.table.front.Given as goal

abbrev pub invariant-loop-i : goal.invariant-loop-i
invariant-loop-i l = (0 < length l.levels) × (l.i + length (front_after l.last (drop l.i l.later)) ≡ length (front_after l.initial.last l.later))
