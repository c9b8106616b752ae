use Rattle.std.proofs.Common.{◌≡◌, arith}
use Rattle.market.specs.Lots.{traded}
use Rattle.curve.proofs.Bests.{lots_of, traded_within}
use Rattle.docket.proofs.hours.lots.Goals as goal

pub returns-then-bid-hour-clause-bound : goal.returns-then-bid-hour-clause-bound
returns-then-bid-hour-clause-bound g c =
    let side = c.args.side in
    let curve = c.args.bid.now.curve in
    let quantity = g.C.PriceCurve.meaning curve c.args.price in
    let laws = g.met.C.PriceCurve.kept curve in
    let far = laws.reach_within in
    let value : c.lots.result ≡ traded side quantity = lots_of side _ _ _ c.lots.ensures c.quantity.type_inv c.quantity.ensures in
    let few = traded_within side quantity _ (laws.sold_within c.args.price) (laws.bought_within c.args.price) in
    omega arith
