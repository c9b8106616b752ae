use Rattle.std.proofs.Common.{◌≡◌, pos, ◌+ℤ◌, ◌*ℤ◌, sym, ap, ◌∙◌, subst, arith, w64, to_z, of_z}
use Rattle.std.specs.Int.{int_div_euclid}
use Rattle.std.proofs.lemmas.Int.{ints}
use Rattle.levels.specs.Lines.{nearest, Nearest}
use Rattle.levels.specs.LinesLemmas.{is_nearest}
use Rattle.levels.proofs.line.nearest.Goals as goal

pub returns : goal.returns
returns c =
    let n = c.args.numerator in
    let s = c.args.denominator in
    let m = c.requires.moderate in
    let out : to_z w64 (of_z w64 c.floored.result) ≡ c.floored.result = omega (arith, ints) in
    let top : to_z w64 (of_z w64 (to_z w64 (of_z w64 (pos 2 *ℤ to_z w64 (of_z w64 n))) +ℤ to_z w64 s)) ≡ pos 2 *ℤ n +ℤ pos s = omega (arith, ints) in
    let bottom : to_z w64 (of_z w64 (pos 2 *ℤ to_z w64 s)) ≡ pos 2 *ℤ pos s = omega (arith, ints) in
    let value : to_z w64 (of_z w64 c.floored.result) ≡ nearest n s = out ∙ c.floored.ensures ∙ ap (λ x. int_div_euclid x (to_z w64 (of_z w64 (pos 2 *ℤ to_z w64 s)))) top ∙ ap (int_div_euclid (pos 2 *ℤ n +ℤ pos s)) bottom in
    record { value = value; nearest = subst (Nearest n s) (sym value) (is_nearest n s c.requires.positive) }
