-- A cap over a curve and the sum of two curves keep the laws of curves.
use Rattle.std.specs.Prelude.{◌≡◌, ℕ, min, ℤ, pos, negsuc, ◌+ℤ◌, neg_ℤ, ◌≤ℤ◌}
use Rattle.std.proofs.Common.{ap, ◌∙◌, arith}
use Rattle.std.specs.Int.{int_max, int_min}
use Rattle.std.proofs.lemmas.Int.{ints, clamps}
use Rattle.curve.specs.Laws.{CurveLaws}
use Rattle.piles.specs.Piles.{capped, cap_reach, added, sum_reach}

-- ---- a cap, at one price
capped_le : (b s : ℕ) (y z : ℤ) → y ≤ℤ z → capped b s y ≤ℤ capped b s z
capped_le b s y z h = omega (arith, ints, clamps)

capped_from : (b s r : ℕ) (z : ℤ) → neg_ℤ (pos r) ≤ℤ z → neg_ℤ (pos (cap_reach b s r)) ≤ℤ capped b s z
capped_from b s r z h = omega (arith, ints, clamps)

capped_to : (b s r : ℕ) (z : ℤ) → z ≤ℤ pos r → capped b s z ≤ℤ pos (cap_reach b s r)
capped_to b s r z h = omega (arith, ints, clamps)

-- a cap over a curve that keeps the laws keeps them
pub capped_laws : (q : ℕ → ℤ) (b s r : ℕ) → CurveLaws q r → CurveLaws (λ p. capped b s (q p)) (cap_reach b s r)
capped_laws q b s r h = record {
  never_rises = λ p t l. capped_le b s (q t) (q p) (h.never_rises p t l);
  sold_within = λ p. capped_from b s r (q p) (h.sold_within p);
  bought_within = λ p. capped_to b s r (q p) (h.bought_within p);
  read_as_highest = λ p. ap (capped b s) (h.read_as_highest p);
  reach_within = omega arith;
}

-- ---- a sum, at one price
added_le : (a b : ℕ) (x y u v : ℤ) → x ≤ℤ u → y ≤ℤ v → added a b x y ≤ℤ added a b u v
added_le a b x y u v h k = omega (arith, ints, clamps)

added_from : (a b : ℕ) (x y : ℤ) → neg_ℤ (pos (sum_reach a b)) ≤ℤ added a b x y
added_from a b x y = omega (arith, ints, clamps)

added_to : (a b : ℕ) (x y : ℤ) → added a b x y ≤ℤ pos (sum_reach a b)
added_to a b x y = omega (arith, ints, clamps)

-- the sum of two curves that keep the laws keeps them
pub added_laws : (q t : ℕ → ℤ) (a b : ℕ) → CurveLaws q a → CurveLaws t b → CurveLaws (λ p. added a b (q p) (t p)) (sum_reach a b)
added_laws q t a b h k = record {
  never_rises = λ p u l. added_le a b (q u) (t u) (q p) (t p) (h.never_rises p u l) (k.never_rises p u l);
  sold_within = λ p. added_from a b (q p) (t p);
  bought_within = λ p. added_to a b (q p) (t p);
  read_as_highest = λ p. ap (λ x. added a b x (t p)) (h.read_as_highest p) ∙ ap (added a b (q (min p 10000000))) (k.read_as_highest p);
  reach_within = omega arith;
}

-- a sum of quantities within the parts' reaches is cut to 1,000,000 at most
pub added_is : (a b : ℕ) (x y : ℤ) → neg_ℤ (pos a) ≤ℤ x → x ≤ℤ pos a → neg_ℤ (pos b) ≤ℤ y → y ≤ℤ pos b → int_max (negsuc 999999) (int_min (x +ℤ y) (pos 1000000)) ≡ added a b x y
added_is a b x y lx ux ly uy = omega (arith, ints, clamps)
