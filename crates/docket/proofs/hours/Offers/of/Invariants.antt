use Rattle.std.proofs.Common.{◌≡◌, ◌*◌, ◌≤◌, length, take, sum_by}
use Rattle.market.specs.declared.sides.Side.TheVariants.{Buying, Selling}
use Rattle.market.specs.Lots.{traded}
use Rattle.docket.specs.Offers.{of_hour}
use Rattle.docket.proofs.hours.Offers.of.Given as goal

abbrev pub invariant-loop-bid : goal.invariant-loop-bid
invariant-loop-bid g l =
    let q = g.C.PriceCurve.meaning in
    let seen = take l.bid-index l.bids in
    length l.bids ≤ 4096
    → (l.count ≤ l.bid-index) × (l.bought ≤ 1000000 * l.bid-index) × (l.sold ≤ 1000000 * l.bid-index)
    × (l.count ≡ sum_by (of_hour l.hour (λ b. 1)) seen)
    × (l.bought ≡ sum_by (of_hour l.hour (λ b. traded Buying (q b.curve l.limits.lowest))) seen)
    × (l.sold ≡ sum_by (of_hour l.hour (λ b. traded Selling (q b.curve l.limits.highest))) seen)
