use Rattle.std.proofs.Common.{◌≡◌, drop}
use Rattle.levels.specs.Search.{around_from}
use Rattle.levels.proofs.search.around.Given as goal

abbrev pub invariant-loop-level : goal.invariant-loop-level
invariant-loop-level l = around_from l.at (drop l.level-index l.later) l.price ≡ around_from l.initial.at l.later l.price
