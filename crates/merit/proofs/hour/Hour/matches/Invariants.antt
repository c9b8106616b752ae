use Rattle.std.proofs.Common.{◌+◌, ◌*◌, pos, neg_ℤ, ◌≤ℤ◌, vec_items}
use Rattle.curve.specs.Margins.{margin}
use Rattle.merit.proofs.Shares.{Sofar}
use Rattle.merit.proofs.hour.Hour.matches.Given as goal

abbrev pub invariant-loop-curve : goal.invariant-loop-curve
invariant-loop-curve g l =
    (neg_ℤ (pos (8796093022208 + 4294967296 * l.curve-index)) ≤ℤ l.missing) × (l.missing ≤ℤ pos (8796093022208 + 4294967296 * l.curve-index))
    × Sofar (λ c. margin (g.C.PriceCurve.meaning c) l.self.limits l.price) l.self.curves.now l.curve-index (vec_items l.matched) l.missing
