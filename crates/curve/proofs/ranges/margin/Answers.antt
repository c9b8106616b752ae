use Rattle.std.proofs.Common.{◌≡◌, ◌+◌, true, pos, sym, ap, ◌∙◌, arith, w32, to_z, of_z}
use Rattle.std.specs.Int.{int_max, int_min}
use Rattle.std.proofs.lemmas.Int.{ints}
use Rattle.market.specs.Prices.{within}
use Rattle.curve.specs.Margins.{counted, counted_below}
use Rattle.curve.proofs.Worths.{inside, inside_from, inside_to}
use Rattle.curve.proofs.Parts.{counted_in, counted_out, counted_past, below_in, below_out, margin_buys, margin_sells, margin_none}
use Rattle.curve.proofs.ranges.margin.Goals as goal
use Rattle.curve.proofs.ranges.margin.Goals.{then-price-limits, else-price-limits, then-limits-price, else-limits-price}

pub returns-then-not-contains : goal.returns-then-not-contains
returns-then-not-contains g c =
    let q = g.C.PriceCurve.meaning c.args.curve.now in
    margin_none q c.args.limits c.args.price (counted_out q c.args.limits c.args.price (sym c.if-not-contains.ensures))

pub returns-after-price-limits : goal.returns-after-price-limits
returns-after-price-limits g c =
    let q = g.C.PriceCurve.meaning c.args.curve.now in
    let limits = c.args.limits in
    let p = c.args.price in
    let i : within limits p ≡ true = sym c.if-not-contains.ensures in
    let from = inside_from limits p i in
    let above-is : c.if-price-limits.above ≡ counted q limits (p + 1) = elim c.if-price-limits.branch [
      | then-price-limits w ↦
          let fits : to_z w32 (of_z w32 w.quantity-above.result) ≡ w.quantity-above.result = omega (arith, ints) in
          sym c.if-price-limits.above-is ∙ w.above-is ∙ fits ∙ w.quantity-above.ensures ∙ sym (counted_in q limits (p + 1) (inside limits (p + 1) (omega arith) (omega arith)))
      | else-price-limits w ↦ sym c.if-price-limits.above-is ∙ w.above-is ∙ sym (counted_past q limits (p + 1) (omega arith))
    ] in
    let most-is : to_z w32 (of_z w32 c.quantity-quantity.result) ≡ c.quantity-quantity.result = omega (arith, ints) in
    let max-is : to_z w32 (of_z w32 c.max.result) ≡ c.max.result = omega (arith, ints) in
    margin_buys q limits p i c.quantity-quantity.result c.if-price-limits.above _ _ c.quantity-quantity.ensures (omega (arith, ints)) above-is
    (max-is ∙ c.max.ensures.value ∙ ap (λ x. int_max x (pos 0)) c.if-price-limits.above-is) most-is

pub returns-after-limits-price : goal.returns-after-limits-price
returns-after-limits-price g c =
    let q = g.C.PriceCurve.meaning c.args.curve.now in
    let limits = c.args.limits in
    let p = c.args.price in
    let i : within limits p ≡ true = sym c.if-not-contains.ensures in
    let to = inside_to limits p i in
    let below-is : c.if-limits-price.below ≡ counted_below q limits p = elim c.if-limits-price.branch [
      | then-limits-price w ↦
          let fits : to_z w32 (of_z w32 w.quantity-below.result) ≡ w.quantity-below.result = omega (arith, ints) in
          sym c.if-limits-price.below-is ∙ w.below-is ∙ fits ∙ w.quantity-below.ensures ∙ sym (below_in q limits p (omega arith) to)
      | else-limits-price w ↦ sym c.if-limits-price.below-is ∙ w.below-is ∙ sym (below_out q limits p (omega arith))
    ] in
    let least-is : to_z w32 (of_z w32 c.quantity-quantity.result) ≡ c.quantity-quantity.result = omega (arith, ints) in
    let min-is : to_z w32 (of_z w32 c.min.result) ≡ c.min.result = omega (arith, ints) in
    margin_sells q limits p i c.quantity-quantity.result c.if-limits-price.below _ _ c.quantity-quantity.ensures (omega (arith, ints)) below-is least-is
    (min-is ∙ c.min.ensures.value ∙ ap (λ x. int_min x (pos 0)) c.if-limits-price.below-is)

pub returns-else-quantity-lt0 : goal.returns-else-quantity-lt0
returns-else-quantity-lt0 g c =
    let q = g.C.PriceCurve.meaning c.args.curve.now in
    let limits = c.args.limits in
    let p = c.args.price in
    let i : within limits p ≡ true = sym c.if-not-contains.ensures in
    let e : c.quantity-quantity.result ≡ pos 0 = omega (arith, ints) in
    margin_none q limits p (counted_in q limits p i ∙ sym c.quantity-quantity.ensures ∙ e)
