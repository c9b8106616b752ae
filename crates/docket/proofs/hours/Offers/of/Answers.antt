use Rattle.std.proofs.Common.{arith}
use Rattle.market.specs.declared.sides.Side.TheVariants.{Buying, Selling}
use Rattle.market.specs.Lots.{traded}
use Rattle.docket.specs.Offers.{of_hour}
use Rattle.docket.proofs.Sums.{sum_more}
use Rattle.docket.proofs.hours.Offers.of.Goals as goal

pub loop-bid-preserved : goal.loop-bid-preserved
loop-bid-preserved g c few =
    let q = g.C.PriceCurve.meaning in
    let h = c.args.hour in
    let limits = c.args.limits in
    let bids = c.args.bids.now in
    let i = c.loop-bid.bid-index in
    let x = c.bid-item.result in
    let inv = c.loop-bid.invariant few in
    let counts = sum_more (of_hour h (λ b. 1)) bids i x c.loop-bid-test.true c.bid-item.is 1 _ _ _ _ c.saturating_add-count.ensures (omega (arith, inv.0)) c.counted.ensures.bound (omega arith) inv.3 c.counted.ensures.value in
    let boughts = sum_more (of_hour h (λ b. traded Buying (q b.curve limits.lowest))) bids i x c.loop-bid-test.true c.bid-item.is 1000000 _ _ _ _ c.saturating_add-bought.ensures inv.1 c.lots.ensures.bound (omega arith) inv.4 c.lots.ensures.value in
    let solds = sum_more (of_hour h (λ b. traded Selling (q b.curve limits.highest))) bids i x c.loop-bid-test.true c.bid-item.is 1000000 _ _ _ _ c.saturating_add-sold.ensures inv.2 c.lots-in-loop-bid.ensures.bound (omega arith) inv.5 c.lots-in-loop-bid.ensures.value in
    (omega (arith, counts.0), boughts.0, solds.0, counts.1, boughts.1, solds.1)
