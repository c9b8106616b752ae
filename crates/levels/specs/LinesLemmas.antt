-- The straight line between two levels, rounded to the nearest lot, never rises and stays between their quantities.
use Rattle.std.specs.Prelude.{◌≡◌, ℕ, zero, suc, ◌+◌, ◌-◌, ◌*◌, ◌/◌, ◌%◌, ◌<◌, ◌≤◌, true, ℤ, pos, negsuc, ◌+ℤ◌, ◌-ℤ◌, ◌*ℤ◌, neg_ℤ, ◌≤ℤ◌, refl}
use Rattle.std.proofs.Common.{ap, ◌∙◌, arith, mul-add, mul_comm, mul_assoc, mul-suc, mul-zero, zero-mul}
use borrow.Author.Differences.{up, down}
use Rattle.std.specs.Int.{int_div_euclid}
use Rattle.std.proofs.lemmas.Nat.{mul-le, div-mul-add, div_below, le-div, div-add-mod', mod_below}
use Rattle.std.proofs.lemmas.Int.{ints}
use Rattle.curve.proofs.Margins.{sides}
use Rattle.levels.specs.declared.level.Level.{Level}
use Rattle.levels.specs.Form.{bounded, follows}
use Rattle.levels.specs.Lines.{span, scaled, nearest, Nearest, between, on_line}
use Rattle.levels.specs.Chains.{next, bounds, Rule}

-- ---- products of whole numbers
-- a product with a sum is the sum of the products
pub times_add : (p : ℕ) (a b : ℤ) → pos p *ℤ (a +ℤ b) ≡ pos p *ℤ a +ℤ pos p *ℤ b
times_add p a b =
    let e : up (a +ℤ b) + (down a + down b) ≡ down (a +ℤ b) + (up a + up b) = omega (arith, ints) in
    let f = simp mul-add at (ap (λ x. p * x) e) in
    omega (arith, ints)

-- a product with a number below 0 is below 0
pub neg_times : (d t : ℕ) → neg_ℤ (pos d) *ℤ pos t ≡ neg_ℤ (pos (d * t))
neg_times zero t = let e = zero-mul t in omega (arith, ints)
neg_times (suc d) t = omega (arith, ints)

times_neg : (p k : ℕ) → pos p *ℤ neg_ℤ (pos k) ≡ neg_ℤ (pos (p * k))
times_neg p zero = let e = mul-zero p in omega (arith, ints)
times_neg p (suc k) = omega (arith, ints)

-- twice a product is the product with twice the number
pub twice : (z : ℤ) (s : ℕ) → pos 2 *ℤ (z *ℤ pos s) ≡ pos (2 * s) *ℤ z
twice (pos n) s = let e = mul_comm n s in let f = mul_assoc 2 s n in omega (arith, ints)
twice (negsuc n) s = let e = mul_comm (suc n) s in let f = mul_assoc 2 s (suc n) in omega (arith, ints)

-- ---- floor division
-- a quotient is known by its remainder
pub div_at : (z : ℤ) (n : ℕ) (d : ℤ) (r : ℕ) → r < n → z ≡ pos n *ℤ d +ℤ pos r → int_div_euclid z (pos n) ≡ d
div_at z n (pos k) r h e =
    let c = mul_comm n k in
    let f : z ≡ pos (k * n + r) = omega (arith, ints) in
    ap (λ x. int_div_euclid x (pos n)) f ∙ ap pos (div-mul-add k n r h)
div_at z n (negsuc k) r h e =
    let c = mul_comm n (suc k) in
    let m = mul-suc n k in
    let c = mul_comm n k in
    let f : z ≡ negsuc (k * n + (n - 1 - r)) = omega (arith, ints) in
    ap (λ x. int_div_euclid x (pos n)) f ∙ ap negsuc (div-mul-add k n (n - 1 - r) (omega arith))

-- a quotient with its remainder
pub record Divided (z : ℤ) (n : ℕ) : Type 0 where
  pub rest : ℕ
  pub below : rest < n
  pub value : z ≡ pos n *ℤ int_div_euclid z (pos n) +ℤ pos rest

-- floor division leaves a remainder from 0 on and below the divisor
pub divided : (z : ℤ) (n : ℕ) → 0 < n → Divided z n
divided (pos a) n h =
    let e = div-add-mod' a n in
    let c = mul_comm n (a / n) in
    record { rest = a % n; below = mod_below a n h; value = omega (arith, ints) }
divided (negsuc a) n h =
    let e = div-add-mod' a n in
    let c = mul_comm n (a / n) in
    let m = mul-suc n (a / n) in
    let b = mod_below a n h in
    record { rest = n - 1 - a % n; below = omega arith; value = omega (arith, ints) }

-- the number computed is the whole number nearest to the quotient, halves upward
pub is_nearest : (n : ℤ) (s : ℕ) → 0 < s → Nearest n s (nearest n s)
is_nearest n s h =
    let d = divided (pos 2 *ℤ n +ℤ pos s) (2 * s) (omega arith) in
    let v = d.value in
    let b = d.below in
    record { at_most = omega (arith, ints); next_more = omega (arith, ints) }

-- ---- the line by how far it has fallen
abbrev pub fallen : ℕ → ℕ → ℕ → ℕ
fallen d t s = (2 * (d * t) + (s - 1)) / (2 * s)

-- how far the quantity falls from the level a to the level b
abbrev pub gap : Level → Level → ℕ
gap a b = up (a.quantity -ℤ b.quantity)

-- where the quantity does not rise, the difference is minus that fall
pub gap_is : (a b : Level) → b.quantity ≤ℤ a.quantity → b.quantity -ℤ a.quantity ≡ neg_ℤ (pos (gap a b))
gap_is a b h = let s = sides (a.quantity -ℤ b.quantity) in omega (arith, ints)

nearest_is : (q : ℤ) (s d t : ℕ) → 0 < s → nearest (q *ℤ pos s +ℤ neg_ℤ (pos (d * t))) s ≡ q -ℤ pos (fallen d t s)
nearest_is q s d t h =
    let x = 2 * (d * t) + (s - 1) in
    let e = div-add-mod' x (2 * s) in
    let b = mod_below x (2 * s) (omega arith) in
    let c = mul_comm (2 * s) (x / (2 * s)) in
    let first = times_add 2 (q *ℤ pos s) (neg_ℤ (pos (d * t))) in
    let second = twice q s in
    let third = times_add (2 * s) q (neg_ℤ (pos (x / (2 * s)))) in
    let fourth = times_neg 2 (d * t) in
    let fifth = times_neg (2 * s) (x / (2 * s)) in
    let minus : q -ℤ pos (x / (2 * s)) ≡ q +ℤ neg_ℤ (pos (x / (2 * s))) = omega (arith, ints) in
    div_at (pos 2 *ℤ (q *ℤ pos s +ℤ neg_ℤ (pos (d * t))) +ℤ pos s) (2 * s) (q -ℤ pos (x / (2 * s))) (2 * s - 1 - x % (2 * s)) (omega arith)
    (rw minus (omega (arith, ints)))

-- between two levels the line is the first quantity less what it has fallen
pub between_is : (a b : Level) (p : ℕ) → follows a b ≡ true → between a b p ≡ a.quantity -ℤ pos (fallen (gap a b) (p - a.price) (span a b))
between_is a b p f =
    let n = next a b f in
    let g = gap_is a b n.quantity_falls in
    let r = n.rises in
    let e : scaled a b p ≡ a.quantity *ℤ pos (span a b) +ℤ neg_ℤ (pos (gap a b * (p - a.price))) = ap (λ x. a.quantity *ℤ pos (span a b) +ℤ x *ℤ pos (p - a.price)) g ∙ ap (λ x. a.quantity *ℤ pos (span a b) +ℤ x) (neg_times (gap a b) (p - a.price)) in
    ap (λ x. nearest x (span a b)) e ∙ nearest_is a.quantity (span a b) (gap a b) (p - a.price) (omega arith)

fallen_le : (d t s : ℕ) → 0 < s → t ≤ s → fallen d t s ≤ d
fallen_le d t s h l =
    let m = mul-le d t d s (omega arith) l in
    let c = mul_comm (d + 1) (2 * s) in
    let a = mul-add (2 * s) d 1 in
    let g = mul_assoc 2 s d in
    let k = mul_comm s d in
    let b = div_below (2 * (d * t) + (s - 1)) (2 * s) (d + 1) (omega arith) (omega arith) in
    omega arith

fallen_rises : (d t u s : ℕ) → 0 < s → t ≤ u → fallen d t s ≤ fallen d u s
fallen_rises d t u s h l =
    let m = mul-le d t d u (omega arith) l in
    let e = div-add-mod' (2 * (d * t) + (s - 1)) (2 * s) in
    le-div (fallen d t s) (2 * (d * u) + (s - 1)) (2 * s) (omega arith) (omega arith)

-- the straight line from level to level is a rule
pub line_rule : Rule on_line
line_rule = record {
  at_end = λ a p. refl;
  not_over = λ a b p k f. let e = between_is a b p f in omega (arith, ints);
  not_under = λ a b p k f l.
      let e = between_is a b p f in
      let n = next a b f in
      let g = gap_is a b n.quantity_falls in
      let r = n.rises in
      let s = fallen_le (gap a b) (p - a.price) (span a b) (omega arith) (omega arith) in
      omega (arith, ints);
  falls = λ a b p r k f l.
      let e = between_is a b p f in
      let i = between_is a b r f in
      let n = next a b f in
      let m = n.rises in
      let s = fallen_rises (gap a b) (p - a.price) (r - a.price) (span a b) (omega arith) (omega arith) in
      omega (arith, ints);
}

-- ---- the sums and products of the line fit
-- a number between minus m and m
pub record Within (m : ℕ) (z : ℤ) : Type 0 where
  pub low : neg_ℤ (pos m) ≤ℤ z
  pub high : z ≤ℤ pos m

product_within : (m : ℕ) (z : ℤ) (s : ℕ) → Within m z → s ≤ 10000000 → Within (m * 10000000) (z *ℤ pos s)
product_within m (pos n) s h l = let k = mul-le n s m 10000000 (omega (arith, ints, h.high)) l in record { low = omega (arith, ints); high = omega (arith, ints) }
product_within m (negsuc n) s h l = let k = mul-le (suc n) s m 10000000 (omega (arith, ints, h.low)) l in record { low = omega (arith, ints); high = omega (arith, ints) }

-- what the sums and products of the line between two levels stay within
pub record Line (a b : Level) (p : ℕ) : Type 0 where
  pub from_within : Within 100000 a.quantity
  pub to_within : Within 100000 b.quantity
  pub rises : a.price < b.price
  pub short : span a b ≤ 10000000
  pub whole : Within 1000000000000 (a.quantity *ℤ pos (span a b))
  pub part : Within 2000000000000 ((b.quantity -ℤ a.quantity) *ℤ pos (p - a.price))
  pub not_over : between a b p ≤ℤ a.quantity
  pub not_under : b.quantity ≤ℤ between a b p

-- at a price below the second level they stay within that
pub line : (a b : Level) (p : ℕ) → bounded a ≡ true → follows a b ≡ true → p < b.price → Line a b p
line a b p k f l =
    let n = next a b f in
    let ba = bounds a k in
    let bb = bounds b n.next_bounded in
    let wa : Within 100000 a.quantity = record { low = omega (arith, ints, ba.quantity_from); high = ba.quantity_to } in
    let wb : Within 100000 b.quantity = record { low = omega (arith, ints, bb.quantity_from); high = bb.quantity_to } in
    let change : Within 200000 (b.quantity -ℤ a.quantity) = record { low = omega (arith, ints, wa.high, wb.low); high = omega (arith, ints, wa.low, wb.high) } in
    record {
      from_within = wa;
      to_within = wb;
      rises = n.rises;
      short = omega (arith, bb.price_to);
      whole = product_within 100000 a.quantity (span a b) wa (omega (arith, bb.price_to));
      part = product_within 200000 (b.quantity -ℤ a.quantity) (p - a.price) change (omega (arith, bb.price_to));
      not_over = line_rule.not_over a b p k f;
      not_under = line_rule.not_under a b p k f l;
    }
