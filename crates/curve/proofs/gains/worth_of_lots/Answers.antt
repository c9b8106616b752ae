use Rattle.std.proofs.Common.{◌≡◌, ◌+◌, ◌≤◌, Some, None, sym, ap, ◌∙◌, arith}
use Rattle.market.specs.Lots.{traded}
use Rattle.curve.specs.Gains.{sum_to, lot_worth}
use Rattle.curve.specs.Worth.{WorthIs}
use Rattle.curve.proofs.Worths.{ordered, inside_to, same_worth, no_worth, lot_worth_is, worth_by_rule}
use Rattle.curve.proofs.Bests.{lots_of, traded_within}
use Rattle.curve.proofs.Sums.{sum_to_none, sum_to_upto, run_le}
use Rattle.curve.proofs.gains.worth_of_lots.Goals as goal

pub loop-counted-init : goal.loop-counted-init
loop-counted-init g c = (sym (sum_to_none _), omega arith, omega arith, omega arith)

pub overflow_add-total : goal.overflow_add-total
overflow_add-total g c =
    let w = c.in-Some.ensures in
    let o = ordered c.args.limits w.0.are_lawful in
    let to = inside_to c.args.limits c.in-Some.price w.0.inside in
    let run = run_le c.in-Some.price c.loop-counted.counted c.min-end.result (omega (arith, o.highest_within)) in
    let small : c.min-end.result ≤ c.args.lots = omega arith in
    let fits = c.ranges.lots.fits in
    record { fits = omega arith }

pub loop-counted-preserved : goal.loop-counted-preserved
loop-counted-preserved g c =
    let q = g.C.PriceCurve.meaning c.args.curve.now in
    let limits = c.args.limits in
    let side = c.args.side in
    let w : WorthIs q limits side (c.loop-counted.counted + 1) (Some c.in-Some.price) = c.in-Some.ensures in
    let o = ordered limits w.0.are_lawful in
    let to = inside_to limits c.in-Some.price w.0.inside in
    let lots-is : c.lots.result ≡ traded side (q c.in-Some.price) = lots_of side _ _ _ c.lots.ensures c.quantity.type_inv c.quantity.ensures in
    let enough = w.0.enough in
    let end_is : c.loop-counted.counted ≤ c.min-end.result = omega arith in
    let run = sum_to_upto (lot_worth q limits side) c.loop-counted.counted c.min-end.result c.in-Some.price end_is
    (λ j from upto. lot_worth_is q limits side j (Some c.in-Some.price) (same_worth q limits side (c.loop-counted.counted + 1) j c.in-Some.price w (omega arith) (omega arith))) in
    let le = run_le c.in-Some.price c.loop-counted.counted c.min-end.result (omega (arith, o.highest_within)) in
    let laws = g.met.C.PriceCurve.kept c.args.curve.now in
    let few = traded_within side (q c.in-Some.price) (g.C.PriceCurve.extent c.args.curve.now) (laws.sold_within c.in-Some.price) (laws.bought_within c.in-Some.price) in
    (omega arith, omega arith, omega arith, omega (arith, laws.reach_within))

pub returns-in_default : goal.returns-in_default
returns-in_default g c =
    let q = g.C.PriceCurve.meaning c.args.curve.now in
    let limits = c.args.limits in
    let side = c.args.side in
    let w : WorthIs q limits side (c.loop-counted.counted + 1) None = c.in_default.ensures in
    let run = sum_to_upto (lot_worth q limits side) c.loop-counted.counted c.args.lots 0 (omega arith)
    (λ j from upto. lot_worth_is q limits side j None (no_worth q limits side (c.loop-counted.counted + 1) j (omega arith) w (omega arith))) in
    record { value = omega arith; by_rule = worth_by_rule q limits side; bound = omega arith }

pub returns-after-loop-counted : goal.returns-after-loop-counted
returns-after-loop-counted g c =
    let q = g.C.PriceCurve.meaning c.args.curve.now in
    let inv = c.loop-counted.invariant in
    let end : c.loop-counted.counted ≡ c.args.lots = omega arith in
    record {
      value = inv.0 ∙ ap (sum_to (lot_worth q c.args.limits c.args.side)) end;
      by_rule = worth_by_rule q c.args.limits c.args.side;
      bound = omega arith;
    }
