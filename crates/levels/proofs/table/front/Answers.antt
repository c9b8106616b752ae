use Rattle.std.proofs.Common.{◌≡◌, ◌+◌, ◌-◌, ◌<◌, length, take, drop, sym, subst, arith}
use Rattle.levels.specs.Form.{LongestFront, kept_front}
use Rattle.levels.specs.Tables.{zero_level}
use Rattle.levels.proofs.Loops.{front_split, front_stop, front_step, front_end, later_length}
use Rattle.levels.specs.Fronts.{front_longest}
use Rattle.levels.proofs.table.front.Goals as goal

pub returns-then-not-may_follow : goal.returns-then-not-may_follow
returns-then-not-may_follow c =
    let ls = c.args.levels.now in
    let some : 0 < length ls = omega arith in
    let stop = front_stop c.loop-i.last (take (length ls - 1) (drop 1 ls)) c.loop-i.i zero_level c.loop-i-test.true (sym c.if-not-may_follow.ensures) in
    let split = front_split ls zero_level some (sym c.if-not-is_bounded.ensures) in
    let inv = c.loop-i.invariant.1 in
    let value : c.loop-i.i + 1 ≡ length (kept_front ls) = omega arith in
    record { value = value; longest = subst (LongestFront ls) (sym value) (front_longest ls) }

pub loop-i-preserved : goal.loop-i-preserved
loop-i-preserved c =
    let ls = c.args.levels.now in
    let step = front_step c.loop-i.last (take (length ls - 1) (drop 1 ls)) c.loop-i.i zero_level c.loop-i-test.true (sym c.if-not-may_follow.ensures) in
    let inv = c.loop-i.invariant.1 in
    (c.loop-i.invariant.0, omega arith)

pub returns : goal.returns
returns c =
    let ls = c.args.levels.now in
    let some : 0 < length ls = c.loop-i.invariant.0 in
    let long = later_length ls in
    let stop = front_end c.loop-i.last (take (length ls - 1) (drop 1 ls)) c.loop-i.i c.loop-i-test.false in
    let split = front_split ls zero_level some (sym c.if-not-is_bounded.ensures) in
    let inv = c.loop-i.invariant.1 in
    let upto = c.loop-i.auto.i-end in
    let value : length ls ≡ length (kept_front ls) = omega arith in
    record { value = value; longest = subst (LongestFront ls) (sym value) (front_longest ls) }
