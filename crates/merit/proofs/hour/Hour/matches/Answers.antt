use Rattle.std.proofs.Common.{◌≡◌, ℕ, [], ◌∷◌, ◌++◌, ◌+ℤ◌, ◌-ℤ◌, ◌≤ℤ◌, vec_items, ap, ◌∙◌, arith, w32, w64, SFits, to_z, of_z, rules}
use Rattle.std.proofs.lemmas.Int.{ints, to_z-of_z}
use Rattle.market.specs.declared.limits.Limits.{Limits}
use Rattle.curve.specs.declared.ranges.LotRange.{LotRange}
use Rattle.curve.specs.Margins.{margin}
use Rattle.merit.specs.Hours.{filled}
use Rattle.merit.proofs.Widths.{room_is, lots_is, fills, left_over}
use Rattle.merit.proofs.Falling.{margin_ordered}
use Rattle.merit.proofs.Shares.{step, all_done, each_length}
use Rattle.merit.proofs.hour.Hour.matches.Given as given
use Rattle.merit.proofs.hour.Hour.matches.Goals as goal

abbrev range : (g : given.Over) → Limits → ℕ → g.row.C.Denot → LotRange
range g limits price x = margin (g.C.PriceCurve.meaning x) limits price

upright : (g : given.Over) (limits : Limits) (price : ℕ) (x : g.row.C.Denot) → (range g limits price x).least ≤ℤ (range g limits price x).most
upright g limits price x = margin_ordered (g.C.PriceCurve.meaning x) (g.met.C.PriceCurve.kept x).never_rises limits price

pub clamp-more-requires : goal.clamp-more-requires
clamp-more-requires g c =
    let r = c.margin-range.result in
    let least_fits : SFits w32 r.least = search rules in
    let most_fits : SFits w32 r.most = search rules in
    let room = room_is r.least r.most least_fits most_fits in
    let up = upright g c.args.self.now.limits c.args.price c.curve-item.result in
    let least-is = ap (λ t. t.least) c.margin-range.ensures in
    let most-is = ap (λ t. t.most) c.margin-range.ensures in
    omega (arith, ints)

pub overflow_sub-missing-in-loop-curve : goal.overflow_sub-missing-in-loop-curve
overflow_sub-missing-in-loop-curve g c =
    let r = c.margin-range.result in
    let least_fits : SFits w32 r.least = search rules in
    let most_fits : SFits w32 r.most = search rules in
    let room = room_is r.least r.most least_fits most_fits in
    let more-is = to_z-of_z w64 c.clamp-more.result (record { sfits = c.clamp-more.type_inv }) in
    let inv = c.loop-curve.invariant in
    let low = c.clamp-more.ensures.lower_bound in
    let high = c.clamp-more.ensures.upper_bound in
    omega (arith, ints)

pub loop-curve-preserved : goal.loop-curve-preserved
loop-curve-preserved g c =
    let limits = c.args.self.now.limits in
    let price = c.args.price in
    let x = c.curve-item.result in
    let r = c.margin-range.result in
    let more = c.clamp-more.result in
    let least_fits : SFits w32 r.least = search rules in
    let most_fits : SFits w32 r.most = search rules in
    let more_fits : SFits w64 more = record { sfits = c.clamp-more.type_inv } in
    let room = room_is r.least r.most least_fits most_fits in
    let more-is = to_z-of_z w64 more more_fits in
    let up = upright g limits price x in
    let least-is = ap (λ t. t.least) c.margin-range.ensures in
    let most-is = ap (λ t. t.most) c.margin-range.ensures in
    let low = c.clamp-more.ensures.lower_bound in
    let high = c.clamp-more.ensures.upper_bound in
    let to : more ≤ℤ (r.most -ℤ r.least) = omega (arith, ints) in
    let inv = c.loop-curve.invariant in
    let missing = to_z w64 c.loop-curve.missing-bits in
    let after_fits : SFits w64 (missing -ℤ to_z w64 (of_z w64 more)) = omega (arith, ints) in
    let after = to_z-of_z w64 _ after_fits ∙ ap (λ z. missing -ℤ z) more-is in
    let ordered : r.least ≤ℤ r.most = omega (arith, ints) in
    let lots : r.least +ℤ more ≡ filled r missing = fills r.least r.most missing _ more ordered room c.clamp-more.ensures.value in (
      omega (arith, ints),
      omega (arith, ints),
      step (range g limits price) (upright g limits price) c.args.self.now.curves.now c.loop-curve.curve-index x c.loop-curve-test.true c.curve-item.is (vec_items c.loop-curve.matched) (vec_items c.push.new.self) _ _ (r.least +ℤ more) r inv.2
          c.margin-range.ensures lots (left_over missing r.least more _ after) (c.in_ok-push.ensures.items ∙ ap (λ m. vec_items c.loop-curve.matched ++ m ∷ []) (lots_is r.least r.most more least_fits most_fits low to more_fits)),
    )

pub returns-clause-len : goal.returns-clause-len
returns-clause-len g c =
    let limits = c.args.self.now.limits in
    let price = c.args.price in
    let cs = c.args.self.now.curves.now in
    let done = all_done (range g limits price) (upright g limits price) cs c.loop-curve.curve-index (vec_items c.loop-curve.matched) _ c.loop-curve-test.false c.loop-curve.invariant.2 in
    c.loop-curve.matched.ok.0 ∙ each_length (range g limits price) cs (vec_items c.loop-curve.matched) done.within_each

pub returns-clause-matched : goal.returns-clause-matched
returns-clause-matched g c = all_done (range g c.args.self.now.limits c.args.price) (upright g c.args.self.now.limits c.args.price) c.args.self.now.curves.now c.loop-curve.curve-index (vec_items c.loop-curve.matched) _ c.loop-curve-test.false c.loop-curve.invariant.2
