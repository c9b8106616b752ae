use Rattle.std.proofs.Common.{◌≡◌, ◌-◌, ◌*◌, ◌≤◌}
use Rattle.curve.specs.Gains.{sum_to, lot_worth}
use Rattle.curve.proofs.gains.worth_of_lots.Given as goal

abbrev pub invariant-loop-counted : goal.invariant-loop-counted
invariant-loop-counted g l =
    let q = g.C.PriceCurve.meaning l.curve in
    (l.total ≡ sum_to (lot_worth q l.limits l.side) l.counted) × (l.total ≤ 10000000 * l.counted) × (l.counted ≤ l.lots) × (l.counted ≤ 1000000)

abbrev pub decreases-loop-counted : goal.decreases-loop-counted
decreases-loop-counted g l = l.lots - l.counted
