use Rattle.std.proofs.Common.{◌≡◌, ◌+◌, ◌<◌, ◌≤◌, ⊎_elim, arith, rules}
use Rattle.std.proofs.Math.Path.{subst}
use Rattle.std.proofs.lemmas.Bool.{cases_lt}
use Rattle.market.specs.Lots.{traded}
use Rattle.market.specs.declared.sides.Side.TheVariants.{Buying}
use Rattle.curve.proofs.Worths.{ordered}
use Rattle.curve.proofs.Bests.{lots_of, bought_falls, buying_none, buying_some}
use Rattle.curve.proofs.bisection.greatest_buying.Goals as goal

pub returns-then-lots-lot : goal.returns-then-lots-lot
returns-then-lots-lot g c =
    let q = g.C.PriceCurve.meaning c.args.curve.now in
    let lots-is : c.lots.result ≡ traded Buying (q c.args.limits.lowest) = lots_of Buying _ _ _ c.lots.ensures c.quantity.type_inv c.quantity.ensures in
    buying_none q (g.met.C.PriceCurve.kept c.args.curve.now).never_rises c.args.limits c.args.lot (omega arith)

pub returns : goal.returns
returns g c =
    let q = g.C.PriceCurve.meaning c.args.curve.now in
    let last = c.first_from-last.result in
    let before : c.args.limits.lowest < last → c.args.lot ≤ traded Buying (q last) = λ h. let t = c.first_from-last.ensures.fails_before h in search rules in
    let there : last < c.args.limits.highest → traded Buying (q (last + 1)) < c.args.lot = λ h. let t = c.first_from-last.ensures.passes_there h in search rules in
    let o = ordered c.args.limits c.requires.are_lawful in
    let from = c.first_from-last.ensures.from_low in
    let to = c.first_from-last.ensures.to_high in
    let lots-is : c.lots.result ≡ traded Buying (q c.args.limits.lowest) = lots_of Buying _ _ _ c.lots.ensures c.quantity.type_inv c.quantity.ensures in
    let enough : c.args.lot ≤ traded Buying (q last) = ⊎_elim before (λ le. subst (λ p. c.args.lot ≤ traded Buying (q p)) (let same : c.args.limits.lowest ≡ last = omega arith in same) (omega arith)) (cases_lt c.args.limits.lowest last) in
    buying_some q (g.met.C.PriceCurve.kept c.args.curve.now).never_rises c.args.limits c.args.lot c.requires.are_lawful c.requires.counted last from (omega (arith, o.below)) enough (
    λ p over upto. let few = there (omega arith) in let fewer = bought_falls q (g.met.C.PriceCurve.kept c.args.curve.now).never_rises (last + 1) p (omega arith) in omega arith
    )
