use Rattle.std.proofs.Common.{sym, subst, arith}
use Rattle.levels.specs.Fronts.{Formed, force_formed}
use Rattle.levels.proofs.steps.SteppedValuedCurve.worth.Goals as goal

pub greatest_buying-requires : goal.greatest_buying-requires
greatest_buying-requires c =
    let f = subst Formed (sym c.in_force.ensures) (force_formed c.args.self.now.table) in
    record { are_lawful = sym c.if-not-is_lawful.ensures; counted = omega arith; keeps = f.keeps; any = f.some }

pub least_selling-requires : goal.least_selling-requires
least_selling-requires c =
    let f = subst Formed (sym c.in_force-in-Selling.ensures) (force_formed c.args.self.now.table) in
    record { are_lawful = sym c.if-not-is_lawful.ensures; counted = omega arith; keeps = f.keeps; any = f.some }
