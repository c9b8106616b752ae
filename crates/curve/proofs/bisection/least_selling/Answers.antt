use Rattle.std.proofs.Common.{◌≡◌, ◌-◌, ◌<◌, ◌≤◌, ⊎_elim, arith, rules}
use Rattle.std.proofs.Math.Path.{subst}
use Rattle.std.proofs.lemmas.Bool.{cases_lt}
use Rattle.market.specs.Lots.{traded}
use Rattle.market.specs.declared.sides.Side.TheVariants.{Selling}
use Rattle.curve.proofs.Worths.{ordered}
use Rattle.curve.proofs.Bests.{lots_of, sold_rises, selling_none, selling_some}
use Rattle.curve.proofs.bisection.least_selling.Goals as goal

pub returns-then-lots-lot : goal.returns-then-lots-lot
returns-then-lots-lot g c =
    let q = g.C.PriceCurve.meaning c.args.curve.now in
    let lots-is : c.lots.result ≡ traded Selling (q c.args.limits.highest) = lots_of Selling _ _ _ c.lots.ensures c.quantity.type_inv c.quantity.ensures in
    selling_none q (g.met.C.PriceCurve.kept c.args.curve.now).never_rises c.args.limits c.args.lot (omega arith)

pub returns : goal.returns
returns g c =
    let q = g.C.PriceCurve.meaning c.args.curve.now in
    let first = c.first_from-first.result in
    let before : c.args.limits.lowest < first → traded Selling (q (first - 1)) < c.args.lot = λ h. let t = c.first_from-first.ensures.fails_before h in search rules in
    let there : first < c.args.limits.highest → c.args.lot ≤ traded Selling (q first) = λ h. let t = c.first_from-first.ensures.passes_there h in search rules in
    let o = ordered c.args.limits c.requires.are_lawful in
    let from = c.first_from-first.ensures.from_low in
    let to = c.first_from-first.ensures.to_high in
    let lots-is : c.lots.result ≡ traded Selling (q c.args.limits.highest) = lots_of Selling _ _ _ c.lots.ensures c.quantity.type_inv c.quantity.ensures in
    let upto : first ≤ c.args.limits.highest = omega (arith, o.below) in
    let enough : c.args.lot ≤ traded Selling (q first) = ⊎_elim there (λ le. subst (λ p. c.args.lot ≤ traded Selling (q p)) (let same : c.args.limits.highest ≡ first = omega arith in same) (omega arith)) (cases_lt first c.args.limits.highest) in
    selling_some q (g.met.C.PriceCurve.kept c.args.curve.now).never_rises c.args.limits c.args.lot c.requires.are_lawful c.requires.counted first from upto enough (
    λ p under above. let few = before (omega arith) in let fewer = sold_rises q (g.met.C.PriceCurve.kept c.args.curve.now).never_rises p (first - 1) (omega arith) in omega arith
    )
