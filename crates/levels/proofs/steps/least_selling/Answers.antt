use Rattle.std.proofs.Common.{◌-◌, length, get_or, take, drop, Some, sym, refl, subst, arith, w32, SFits, rules}
use Rattle.market.specs.declared.sides.Side.TheVariants.{Selling}
use Rattle.curve.proofs.Bests.{lots_of}
use Rattle.curve.specs.Worth.{WorthIs}
use Rattle.levels.specs.Steps.{steps_of}
use Rattle.levels.specs.Tables.{zero_level}
use Rattle.levels.specs.Fronts.{Formed}
use Rattle.levels.proofs.StepWorth.{selling_first, selling_nowhere, selling_from}
use Rattle.levels.proofs.steps.least_selling.Goals as goal

pub returns-then-lots-lot : goal.returns-then-lots-lot
returns-then-lots-lot c =
    let ls = c.args.levels.now in
    let f : Formed ls = record { some = c.requires.any; keeps = c.requires.keeps } in
    let q = (get_or ls 0 zero_level).quantity in
    let fits : SFits w32 q = search rules in
    let first-lots = lots_of Selling c.lots.result q q c.lots.ensures fits.sfits refl in
    selling_first ls f c.args.limits c.args.lot c.requires.are_lawful c.requires.counted (omega arith)

pub returns-then-level-limits : goal.returns-then-level-limits
returns-then-level-limits c =
    let ls = c.args.levels.now in
    let f : Formed ls = record { some = c.requires.any; keeps = c.requires.keeps } in
    let later = take (length ls - 1) (drop 1 ls) in
    let q = (get_or ls 0 zero_level).quantity in
    let fits : SFits w32 q = search rules in
    let first-lots = lots_of Selling c.lots.result q q c.lots.ensures fits.sfits refl in
    let i = c.loop-level.level-index in
    let r = (get_or later i zero_level).quantity in
    let fits-here : SFits w32 r = search rules in
    let lots-here = lots_of Selling c.lots-in-loop-level.result r r c.lots-in-loop-level.ensures fits-here.sfits refl in
    selling_nowhere ls f c.args.limits c.args.lot c.requires.are_lawful c.requires.counted (omega arith) i (omega arith) c.loop-level.invariant (λ l. omega arith)

pub returns-then-lots-lot-2 : goal.returns-then-lots-lot-2
returns-then-lots-lot-2 c =
    let ls = c.args.levels.now in
    let f : Formed ls = record { some = c.requires.any; keeps = c.requires.keeps } in
    let later = take (length ls - 1) (drop 1 ls) in
    let q = (get_or ls 0 zero_level).quantity in
    let fits : SFits w32 q = search rules in
    let first-lots = lots_of Selling c.lots.result q q c.lots.ensures fits.sfits refl in
    let i = c.loop-level.level-index in
    let r = (get_or later i zero_level).quantity in
    let fits-here : SFits w32 r = search rules in
    let lots-here = lots_of Selling c.lots-in-loop-level.result r r c.lots-in-loop-level.ensures fits-here.sfits refl in
    subst (λ o. WorthIs (steps_of ls) c.args.limits Selling c.args.lot (Some o)) (sym c.max.ensures) (selling_from ls f c.args.limits c.args.lot c.requires.are_lawful c.requires.counted (omega arith) i (omega arith) c.loop-level.invariant c.loop-level-test.true (omega arith) (omega arith))

pub returns : goal.returns
returns c =
    let ls = c.args.levels.now in
    let f : Formed ls = record { some = c.requires.any; keeps = c.requires.keeps } in
    let later = take (length ls - 1) (drop 1 ls) in
    let q = (get_or ls 0 zero_level).quantity in
    let fits : SFits w32 q = search rules in
    let first-lots = lots_of Selling c.lots.result q q c.lots.ensures fits.sfits refl in
    let i = c.loop-level.level-index in
    selling_nowhere ls f c.args.limits c.args.lot c.requires.are_lawful c.requires.counted (omega arith) i (omega arith) c.loop-level.invariant (λ l. absurd (omega arith))
