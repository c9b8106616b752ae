use Rattle.std.proofs.Common.{◌≡◌, min, sym, ap, ◌∙◌, subst, arith, w32, to_z, of_z}
use Rattle.std.proofs.lemmas.Int.{ints}
use Rattle.levels.specs.declared.search.Neighbours.{Neighbours}
use Rattle.levels.specs.Search.{around}
use Rattle.levels.specs.Steps.{stepped, OnSteps}
use Rattle.levels.specs.Tables.{in_force_of}
use Rattle.levels.specs.Fronts.{force_formed}
use Rattle.levels.specs.Chains.{Neighbouring, neighbouring, bounds}
use Rattle.levels.proofs.OnLevels.{stepped_on_steps}
use Rattle.levels.proofs.steps.SteppedPriceCurve.quantity.Goals as goal

pub returns : goal.returns
unfolding stepped
returns c =
    let t = c.args.self.now.table in
    let n = c.around.result in
    let found : n ≡ around (in_force_of t) c.min.result = c.around.ensures ∙ ap (λ ls. around ls c.min.result) c.in_force.ensures in
    let near = subst (λ (x : Neighbours). Neighbouring x c.min.result) (sym found) (neighbouring (in_force_of t) c.min.result (force_formed t)) in
    let b = bounds n.at near.at_bounded in
    let fits : to_z w32 (of_z w32 n.at.quantity) ≡ n.at.quantity = omega (arith, ints, b.quantity_from, b.quantity_to) in
    let value : to_z w32 (of_z w32 n.at.quantity) ≡ stepped (in_force_of t) (min c.args.price 10000000) = fits ∙ ap (λ (x : Neighbours). x.at.quantity) found ∙ ap (stepped (in_force_of t)) c.min.ensures in
    record { value = value; steps = subst (OnSteps (in_force_of t) (min c.args.price 10000000)) (sym value) (stepped_on_steps (in_force_of t) (min c.args.price 10000000) (force_formed t)) }
