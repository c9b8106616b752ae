use Rattle.std.proofs.Common.{◌≡◌, ◌*◌, take, pos, neg_ℤ, ◌≤ℤ◌}
use Rattle.curve.specs.Margins.{margin}
use Rattle.merit.specs.Hours.{total}
use Rattle.merit.proofs.hour.Hour.total_margin.Given as goal

abbrev pub invariant-loop-curve : goal.invariant-loop-curve
invariant-loop-curve g l =
    let q = g.C.PriceCurve.meaning in
    (neg_ℤ (pos (2147483648 * l.curve-index)) ≤ℤ l.least) × (l.least ≤ℤ pos (2147483648 * l.curve-index))
    × (neg_ℤ (pos (2147483648 * l.curve-index)) ≤ℤ l.most) × (l.most ≤ℤ pos (2147483648 * l.curve-index))
    × (l.least ≡ total (λ c. (margin (q c) l.self.limits l.price).least) (take l.curve-index l.self.curves.now))
    × (l.most ≡ total (λ c. (margin (q c) l.self.limits l.price).most) (take l.curve-index l.self.curves.now))
