use Rattle.std.proofs.Common.{◌≡◌, min, sym, ap, ◌∙◌, subst, arith, w32, to_z, of_z}
use Rattle.std.proofs.lemmas.Int.{ints}
use Rattle.levels.specs.declared.search.Neighbours.{Neighbours}
use Rattle.levels.specs.Search.{around}
use Rattle.levels.specs.Lines.{linear, on_line, OnLine}
use Rattle.levels.specs.Tables.{in_force_of}
use Rattle.levels.specs.Fronts.{force_formed}
use Rattle.levels.specs.Chains.{NextIs, Neighbouring, neighbouring, bounds}
use Rattle.levels.proofs.OnLevels.{linear_on_line}
use Rattle.levels.proofs.line.LinearPriceCurve.quantity.Goals as goal

pub between-requires : goal.between-requires
between-requires c =
    let t = c.args.self.now.table in
    let n = c.around-neighbours.result in
    let found : n ≡ around (in_force_of t) c.min-price.result = c.around-neighbours.ensures ∙ ap (λ ls. around ls c.min-price.result) c.in_force.ensures in
    let near = subst (λ (x : Neighbours). Neighbouring x c.min-price.result) (sym found) (neighbouring (in_force_of t) c.min-price.result (force_formed t)) in
    let after = subst (λ o. NextIs n.at o c.min-price.result) c.in-Some.is near.next_is in
    record { from_bounded = near.at_bounded; to_follows = after.0; before_to = after.1 }

pub returns-in-None : goal.returns-in-None
unfolding linear
returns-in-None c =
    let t = c.args.self.now.table in
    let n = c.around-neighbours.result in
    let found : n ≡ around (in_force_of t) c.min-price.result = c.around-neighbours.ensures ∙ ap (λ ls. around ls c.min-price.result) c.in_force.ensures in
    let near = subst (λ (x : Neighbours). Neighbouring x c.min-price.result) (sym found) (neighbouring (in_force_of t) c.min-price.result (force_formed t)) in
    let b = bounds n.at near.at_bounded in
    let fits : to_z w32 (of_z w32 n.at.quantity) ≡ n.at.quantity = omega (arith, ints, b.quantity_from, b.quantity_to) in
    let value : to_z w32 (of_z w32 n.at.quantity) ≡ linear (in_force_of t) (min c.args.price 10000000) = fits ∙ ap (λ o. on_line n.at o c.min-price.result) (sym c.in-None.is) ∙ ap (λ (x : Neighbours). on_line x.at x.next c.min-price.result) found ∙ ap (linear (in_force_of t)) c.min-price.ensures in
    record { value = value; line = subst (OnLine (in_force_of t) (min c.args.price 10000000)) (sym value) (linear_on_line (in_force_of t) (min c.args.price 10000000) (force_formed t)) }

pub returns-in-Some : goal.returns-in-Some
unfolding linear
returns-in-Some c =
    let t = c.args.self.now.table in
    let n = c.around-neighbours.result in
    let found : n ≡ around (in_force_of t) c.min-price.result = c.around-neighbours.ensures ∙ ap (λ ls. around ls c.min-price.result) c.in_force.ensures in
    let fits : to_z w32 (of_z w32 c.between.result) ≡ c.between.result = omega (arith, ints) in
    let value : to_z w32 (of_z w32 c.between.result) ≡ linear (in_force_of t) (min c.args.price 10000000) = fits ∙ c.between.ensures ∙ ap (λ o. on_line n.at o c.min-price.result) (sym c.in-Some.is) ∙ ap (λ (x : Neighbours). on_line x.at x.next c.min-price.result) found ∙ ap (linear (in_force_of t)) c.min-price.ensures in
    record { value = value; line = subst (OnLine (in_force_of t) (min c.args.price 10000000)) (sym value) (linear_on_line (in_force_of t) (min c.args.price 10000000) (force_formed t)) }
