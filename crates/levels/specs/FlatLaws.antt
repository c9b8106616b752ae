-- A flat curve keeps the laws of curves.
use Rattle.std.specs.Prelude.{◌≡◌, ◌≤◌, Bool, true, false, cond, ℤ, pos, negsuc, int_le, unsigned_abs, refl}
use Rattle.std.proofs.Common.{arith}
use Rattle.std.proofs.lemmas.Int.{ints}
use Rattle.std.proofs.lemmas.Bool.{and_parts}
use Rattle.curve.specs.Laws.{CurveLaws}
use Rattle.levels.specs.Flats.{in_bounds, flat_quantity, flat_reach}
use Rattle.levels.specs.Chains.{abs_from, abs_to, abs_within}

constant_laws : (q : ℤ) → unsigned_abs q ≤ 1000000 → CurveLaws (λ p. q) (unsigned_abs q)
constant_laws q h = record {
  never_rises = λ p r l. omega (arith, ints);
  sold_within = λ p. abs_from q;
  bought_within = λ p. abs_to q;
  read_as_highest = λ p. refl;
  reach_within = h;
}

-- a flat curve of any content keeps the laws of curves
pub flat_laws : (z : ℤ) → CurveLaws (λ p. flat_quantity z) (flat_reach z)
flat_laws z = by (in_bounds z) refl
  where
    by : (t : Bool) → in_bounds z ≡ t → CurveLaws (λ p. cond t z (pos 0)) (unsigned_abs (cond t z (pos 0)))
    by true e =
        let l = (and_parts (int_le (negsuc 99999) z) (int_le z (pos 100000)) e).0 in
        let u = (and_parts (int_le (negsuc 99999) z) (int_le z (pos 100000)) e).1 in
        let s = abs_within z 100000 (omega (arith, ints)) (omega (arith, ints)) in
        constant_laws z (omega arith)
    by false e = constant_laws (pos 0) (omega arith)
