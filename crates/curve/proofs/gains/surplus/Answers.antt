use Rattle.std.proofs.Common.{◌≡◌, min, pos, ◌-ℤ◌, ◌*ℤ◌, ap, ◌∙◌, arith, w32, w64, to_z, of_z}
use Rattle.std.proofs.lemmas.Int.{ints, to_z-of_z}
use Rattle.curve.specs.Gains.{gain}
use Rattle.curve.proofs.Costs.{Small, cost_small}
use Rattle.curve.proofs.Margins.{greatest_in_margin}
use Rattle.curve.proofs.gains.surplus.Given as given
use Rattle.curve.proofs.gains.surplus.Goals as goal

price_is : (g : given.Over) (c : goal.After-min g) → to_z w64 c.min.result ≡ pos (min c.args.price 10000000)
price_is g c = omega (arith, ints)

matched_is : (g : given.Over) (c : goal.After-min g) → to_z w64 (of_z w64 (to_z w32 (of_z w32 c.args.matched))) ≡ c.args.matched
matched_is g c = omega (arith, ints)

cost_is : (g : given.Over) (c : goal.After-min g) → to_z w64 c.min.result *ℤ to_z w64 (of_z w64 (to_z w32 (of_z w32 c.args.matched))) ≡ pos (min c.args.price 10000000) *ℤ c.args.matched
cost_is g c = ap (λ x. x *ℤ to_z w64 (of_z w64 (to_z w32 (of_z w32 c.args.matched)))) (price_is g c) ∙ ap (λ x. pos (min c.args.price 10000000) *ℤ x) (matched_is g c)

small : (g : given.Over) (c : goal.After-min g) → Small (pos (min c.args.price 10000000) *ℤ c.args.matched)
small g c = cost_small (min c.args.price 10000000) c.args.matched (omega arith) c.ranges.matched

pub overflow_mul-result : goal.overflow_mul-result
overflow_mul-result g c = let e = cost_is g c in let s = small g c in omega (arith, ints)

pub overflow_sub-result : goal.overflow_sub-result
overflow_sub-result g c = let e = cost_is g c in let s = small g c in let b = c.gain.ensures in omega (arith, ints)

pub returns : goal.returns
returns g c =
    let q = g.C.PriceCurve.meaning c.args.curve.now in
    let e = cost_is g c in
    let s = small g c in
    let b = c.gain.ensures in
    let cost = pos (min c.args.price 10000000) *ℤ c.args.matched in
    let net : to_z w64 (of_z w64 (to_z w64 (of_z w64 c.gain.result) -ℤ to_z w64 (of_z w64 (to_z w64 c.min.result *ℤ to_z w64 (of_z w64 (to_z w32 (of_z w32 c.args.matched))))))) ≡ c.gain.result -ℤ cost = omega (arith, ints) in
    record {
      value = net ∙ ap (λ x. x -ℤ cost) b.value ∙ ap (λ x. gain q c.args.limits x -ℤ cost) (to_z-of_z w32 c.args.matched c.ranges.matched);
      greatest = greatest_in_margin q (g.met.C.PriceCurve.kept c.args.curve.now).never_rises c.args.limits c.args.price c.args.matched;
    }
