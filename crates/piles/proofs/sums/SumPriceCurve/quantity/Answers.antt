use Rattle.std.proofs.Common.{◌≡◌, pos, negsuc, ◌+ℤ◌, ap, ◌∙◌, arith, w32, to_z, of_z}
use Rattle.std.specs.Int.{int_max, int_min}
use Rattle.std.proofs.lemmas.Int.{ints}
use Rattle.piles.specs.Laws.{added_is}
use Rattle.piles.proofs.sums.SumPriceCurve.quantity.Goals as goal

pub overflow_add-quantity : goal.overflow_add-quantity
overflow_add-quantity g c =
    let a = g.met.A.PriceCurve.kept c.args.self.now.first in
    let b = g.met.B.PriceCurve.kept c.args.self.now.second in
    let p = c.args.price in
    omega (arith, ints, a.sold_within p, a.bought_within p, a.reach_within, b.sold_within p, b.bought_within p, b.reach_within)

pub returns : goal.returns
returns g c =
    let a = g.met.A.PriceCurve.kept c.args.self.now.first in
    let b = g.met.B.PriceCurve.kept c.args.self.now.second in
    let x = g.A.PriceCurve.meaning c.args.self.now.first c.args.price in
    let y = g.B.PriceCurve.meaning c.args.self.now.second c.args.price in
    let p = c.args.price in
    let one = c.quantity.ensures in
    let two = c.quantity-2.ensures in
    let out : to_z w32 (of_z w32 c.clamp.result) ≡ c.clamp.result = omega (arith, ints) in
    let total : to_z w32 (of_z w32 (to_z w32 (of_z w32 c.quantity.result) +ℤ to_z w32 (of_z w32 c.quantity-2.result))) ≡ x +ℤ y = omega (arith, ints, a.sold_within p, a.bought_within p, a.reach_within, b.sold_within p, b.bought_within p, b.reach_within) in
    out ∙ c.clamp.ensures.value ∙ ap (λ z. int_max (negsuc 999999) (int_min z (pos 1000000))) total
    ∙ added_is _ _ x y (a.sold_within p) (a.bought_within p) (b.sold_within p) (b.bought_within p)
