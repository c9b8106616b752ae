use Rattle.std.proofs.Common.{◌-◌, length, take, drop, sym, ◌∙◌}
use Rattle.levels.specs.Tables.{zero_level}
use Rattle.levels.proofs.Loops.{around_split, around_stop, around_step, around_end}
use Rattle.levels.proofs.search.around.Goals as goal

pub returns-then-price-level : goal.returns-then-price-level
returns-then-price-level c =
    let ls = c.args.levels.now in
    let stop = around_stop c.loop-level.at (take (length ls - 1) (drop 1 ls)) c.loop-level.level-index c.args.price zero_level c.loop-level-test.true c.if-price-level.true in
    sym stop ∙ c.loop-level.invariant ∙ around_split ls c.args.price

pub loop-level-preserved : goal.loop-level-preserved
loop-level-preserved c =
    let ls = c.args.levels.now in
    sym (around_step c.loop-level.at (take (length ls - 1) (drop 1 ls)) c.loop-level.level-index c.args.price zero_level c.loop-level-test.true c.if-price-level.false) ∙ c.loop-level.invariant

pub returns : goal.returns
returns c =
    let ls = c.args.levels.now in
    let stop = around_end c.loop-level.at (take (length ls - 1) (drop 1 ls)) c.loop-level.level-index c.args.price c.loop-level-test.false in
    sym stop ∙ c.loop-level.invariant ∙ around_split ls c.args.price
