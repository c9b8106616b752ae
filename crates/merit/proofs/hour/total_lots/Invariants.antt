use Rattle.std.proofs.Common.{◌≡◌, ◌≤◌, ◌*◌, take, ℤ, sum_by}
use Rattle.std.specs.Fn.{FnReturnsAt}
use Rattle.market.specs.declared.sides.Side.TheVariants.{Buying, Selling}
use Rattle.market.specs.Lots.{traded}
use Rattle.merit.proofs.hour.total_lots.Given as goal

abbrev pub invariant-loop-item : goal.invariant-loop-item
invariant-loop-item g l =
    (l.bought ≤ 4294967296 * l.item-index) × (l.sold ≤ 4294967296 * l.item-index)
    × ((q : g.row.T.Denot → ℤ) → ((x : g.row.T.Denot) (z : ℤ) → FnReturnsAt g.F.Fn l.quantity x z → z ≡ q x)
    → (l.bought ≡ sum_by (λ x. traded Buying (q x)) (take l.item-index l.items)) × (l.sold ≡ sum_by (λ x. traded Selling (q x)) (take l.item-index l.items)))
