use Rattle.std.proofs.Common.{◌≡◌, ◌<◌, [], ◌∷◌, length, get_or, ℤ, ap, ◌∙◌, arith, length-append, w32, SFits, to_z, of_z, rules}
use Rattle.std.proofs.lemmas.Int.{ints, to_z-of_z}
use Rattle.std.proofs.lemmas.Slice.Zip.{zip_turn}
use Rattle.curve.specs.Gains.{gain}
use Rattle.merit.proofs.Hours.{gains_more}
use Rattle.merit.proofs.hour.Hour.total_gain.Given as given
use Rattle.merit.proofs.hour.Hour.total_gain.Goals as goal

-- where this turn's curve and match stand
turn : (g : given.Over) (c : goal.After-gain-total g)
    → (length c.loop-curve.yielded < length c.args.self.now.curves.now) × (length c.loop-curve.yielded < length c.args.matched.now)
    × ((d : g.row.C.Denot) → c.in-Some.curve.now ≡ get_or c.args.self.now.curves.now (length c.loop-curve.yielded) d) × ((d : ℤ) → c.in-Some.lots.now ≡ get_or c.args.matched.now (length c.loop-curve.yielded) d)
turn g c = zip_turn c.args.self.now.curves.now c.args.matched.now c.loop-curve.yielded c.into_iter-curve-iterator.result c.loop-curve.curve-iterator c.next.new.self c.next.result (search rules) (search rules) c.loop-curve.yielded_by (c.in-Some.curve, c.in-Some.lots) c.in-Some.is c.next.ensures.steps

pub overflow_add-total : goal.overflow_add-total
overflow_add-total g c = let short = (turn g c).0 in omega (arith, ints)

pub loop-curve-preserved : goal.loop-curve-preserved
loop-curve-preserved g c =
    let q = g.C.PriceCurve.meaning in
    let limits = c.args.self.now.limits in
    let cs = c.args.self.now.curves.now in
    let ms = c.args.matched.now in
    let i = length c.loop-curve.yielded in
    let x = c.in-Some.curve.now in
    let m = c.in-Some.lots.now in
    let here = turn g c in
    let short = here.0 in
    let f : SFits w32 m = search rules in
    let same : c.gain-total.result ≡ gain (q (get_or cs i x)) limits (get_or ms i m) = c.gain-total.ensures.value ∙ ap (λ y. gain (q y) limits (to_z w32 (of_z w32 m))) (here.2 x) ∙ ap (gain (q (get_or cs i x)) limits) (to_z-of_z w32 m f ∙ here.3 m) in
    let more = gains_more q limits cs ms i x m here.0 here.1 in
    let inv = c.loop-curve.invariant in
    rw (length-append c.loop-curve.yielded ((c.in-Some.curve, c.in-Some.lots) ∷ [])) (omega (arith, ints), omega (arith, ints), omega (arith, ints))
