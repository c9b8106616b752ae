use Rattle.std.proofs.Common.{◌≡◌, get_or, nat_abs, sym, ap, ◌∙◌, arith, w32, SFits, rules}
use Rattle.std.proofs.lemmas.Int.{to_z-of_z}
use Rattle.levels.specs.Tables.{zero_level}
use Rattle.levels.proofs.Loops.{largest_step, largest_end}
use Rattle.levels.proofs.search.largest.Goals as goal

pub loop-level-preserved : goal.loop-level-preserved
loop-level-preserved c =
    let xs = c.args.levels.now in
    let q = (get_or xs c.loop-level.level-index zero_level).quantity in
    let f : SFits w32 q = search rules in
    let abs_is : c.unsigned_abs.result ≡ nat_abs q = c.unsigned_abs.ensures.value ∙ ap nat_abs (to_z-of_z w32 q f) in
    let step = largest_step xs c.loop-level.level-index c.loop-level.most zero_level c.loop-level-test.true in
    let inv = c.loop-level.invariant in
    omega arith

pub returns : goal.returns
returns c = sym (largest_end c.args.levels.now c.loop-level.level-index c.loop-level.most c.loop-level-test.false) ∙ c.loop-level.invariant
