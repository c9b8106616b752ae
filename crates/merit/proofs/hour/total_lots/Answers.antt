use Rattle.std.proofs.Common.{◌≡◌, refl, arith}
use Rattle.std.proofs.lemmas.Fn.{says_at}
use Rattle.market.specs.declared.sides.Side.TheVariants.{Buying, Selling}
use Rattle.market.specs.Lots.{traded}
use Rattle.curve.proofs.Bests.{lots_of}
use Rattle.merit.proofs.Hours.{sum_step}
use Rattle.merit.proofs.hour.total_lots.Goals as goal

pub loop-item-preserved : goal.loop-item-preserved
loop-item-preserved g c =
    let x = c.item-item.result in
    let inv = c.loop-item.invariant in (
      omega arith,
      omega arith,
      λ q is.
          let z : c.quantity-lots.result ≡ q x = is x c.quantity-lots.result (says_at g.F.Fn c.quantity-lots.ensures refl) in
          let sums = inv.2 q is in
          let bought_is = lots_of Buying _ _ _ c.lots.ensures c.quantity-lots.type_inv z in
          let sold_is = lots_of Selling _ _ _ c.lots-in-loop-item.ensures c.quantity-lots.type_inv z in (
            sum_step (λ y. traded Buying (q y)) c.args.items.now c.loop-item.item-index x c.loop-item-test.true c.item-item.is _ _ sums.0 bought_is,
            sum_step (λ y. traded Selling (q y)) c.args.items.now c.loop-item.item-index x c.loop-item-test.true c.item-item.is _ _ sums.1 sold_is,
          ),
    )
