use Rattle.std.proofs.Common.{ap, arith}
use Rattle.std.proofs.lemmas.Int.{ints}
use Rattle.curve.specs.Margins.{margin}
use Rattle.merit.proofs.Hours.{total_step}
use Rattle.merit.proofs.hour.Hour.total_margin.Goals as goal

pub loop-curve-preserved : goal.loop-curve-preserved
loop-curve-preserved g c =
    let q = g.C.PriceCurve.meaning in
    let p = c.args.price in
    let limits = c.args.self.now.limits in
    let x = c.curve-item.result in
    let inv = c.loop-curve.invariant in
    let least-is = total_step (λ y. (margin (q y) limits p).least) c.args.self.now.curves.now c.loop-curve.curve-index x c.loop-curve-test.true c.curve-item.is _ c.margin-range.result.least inv.4 (ap (λ r. r.least) c.margin-range.ensures) in
    let most-is = total_step (λ y. (margin (q y) limits p).most) c.args.self.now.curves.now c.loop-curve.curve-index x c.loop-curve-test.true c.curve-item.is _ c.margin-range.result.most inv.5 (ap (λ r. r.most) c.margin-range.ensures) in
    (omega (arith, ints), omega (arith, ints), omega (arith, ints), omega (arith, ints), omega (arith, ints), omega (arith, ints))
