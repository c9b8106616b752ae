use Rattle.std.proofs.Common.{◌≡◌, max, drop}
use Rattle.levels.specs.Search.{largest}
use Rattle.levels.proofs.search.largest.Given as goal

abbrev pub invariant-loop-level : goal.invariant-loop-level
invariant-loop-level l = max l.most (largest (drop l.level-index l.levels)) ≡ largest l.levels
