use Rattle.std.proofs.Common.{ℕ, ◌<◌, ◌≤◌, get_or}
use Rattle.market.specs.Lots.{traded}
use Rattle.market.specs.declared.sides.Side.TheVariants.{Buying}
use Rattle.levels.specs.Tables.{zero_level}
use Rattle.levels.proofs.steps.greatest_buying.Given as goal

abbrev pub invariant-loop-level : goal.invariant-loop-level
invariant-loop-level l = (k : ℕ) → k < l.level-index → l.lot ≤ traded Buying (get_or l.later k zero_level).quantity
