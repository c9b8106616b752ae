-- The margin by the sign of the quantity at its price.
use Rattle.std.proofs.Common.{◌≡◌, ℕ, zero, suc, ◌+◌, ◌-◌, ◌<◌, ◌≤◌, true, false, leb, ℤ, pos, negsuc, ◌<ℤ◌, sym, refl, ap, ◌∙◌, arith}
use Rattle.std.specs.Int.{int_max, int_min}
use Rattle.std.proofs.lemmas.Int.{ints}
use Rattle.std.proofs.lemmas.Bool.{cond-true, cond-false, and_left, and_right, lt-leb}
use Rattle.market.specs.declared.limits.Limits.{Limits}
use Rattle.market.specs.Prices.{within}
use Rattle.curve.specs.Margins.{counted, counted_below, margin_by, margin}
use Rattle.curve.proofs.Worths.{inside}

module _ (q : ℕ → ℤ) (limits : Limits) where
  pub counted_in : (p : ℕ) → within limits p ≡ true → counted q limits p ≡ q p
  counted_in p e = cond-true _ _ _ e

  pub counted_out : (p : ℕ) → within limits p ≡ false → counted q limits p ≡ pos 0
  counted_out p e = cond-false _ _ _ e

  pub counted_past : (p : ℕ) → limits.highest < p → counted q limits p ≡ pos 0
  counted_past p h = counted_out p (and_right (leb limits.lowest p) _ (lt-leb p limits.highest h))

  pub counted_before : (p : ℕ) → p < limits.lowest → counted q limits p ≡ pos 0
  counted_before p h = counted_out p (and_left _ (leb p limits.highest) (lt-leb limits.lowest p h))

  -- ---- one price below
  pub below_in : (p : ℕ) → limits.lowest < p → p ≤ limits.highest → counted_below q limits p ≡ q (p - 1)
  below_in zero from to = absurd (omega arith)
  below_in (suc p) from to =
      let e : p ≡ suc p - 1 = omega arith in
      counted_in p (inside limits p (omega arith) (omega arith)) ∙ ap q e

  pub below_out : (p : ℕ) → p ≤ limits.lowest → counted_below q limits p ≡ pos 0
  below_out zero to = refl
  below_out (suc p) to = counted_before p (omega arith)

buys_by : (here above below : ℤ) → pos 0 <ℤ here → margin_by here above below ≡ record { least = int_max above (pos 0); most = here }
buys_by (pos zero) above below h = absurd (omega (arith, ints))
buys_by (pos (suc n)) above below h = refl
buys_by (negsuc n) above below h = absurd (omega (arith, ints))

sells_by : (here above below : ℤ) → here <ℤ pos 0 → margin_by here above below ≡ record { least = here; most = int_min below (pos 0) }
sells_by (pos n) above below h = absurd (omega (arith, ints))
sells_by (negsuc n) above below h = refl

-- ---- the margin of a buyer, of a seller, and where nothing is traded
module _ (q : ℕ → ℤ) (limits : Limits) (p : ℕ) where
  pub margin_buys : (inside-limits : within limits p ≡ true) (here above l m : ℤ) → here ≡ q p → pos 0 <ℤ here → above ≡ counted q limits (p + 1) → l ≡ int_max above (pos 0) → m ≡ here → record { least = l; most = m } ≡ margin q limits p
  unfolding margin
  margin_buys i here above l m e h a el em =
      let here-is : counted q limits p ≡ here = counted_in q limits p i ∙ sym e in
      let by = buys_by here (counted q limits (p + 1)) (counted_below q limits p) h in
      let first : l ≡ int_max (counted q limits (p + 1)) (pos 0) = el ∙ ap (λ x. int_max x (pos 0)) a in
      rw (here-is, by, el, em, a)

  pub margin_sells : (inside-limits : within limits p ≡ true) (here below l m : ℤ) → here ≡ q p → here <ℤ pos 0 → below ≡ counted_below q limits p → l ≡ here → m ≡ int_min below (pos 0) → record { least = l; most = m } ≡ margin q limits p
  unfolding margin
  margin_sells i here below l m e h a el em =
      let here-is : counted q limits p ≡ here = counted_in q limits p i ∙ sym e in
      let by = sells_by here (counted q limits (p + 1)) (counted_below q limits p) h in
      rw (here-is, by, el, em, a)

  pub margin_none : counted q limits p ≡ pos 0 → record { least = pos 0; most = pos 0 } ≡ margin q limits p
  unfolding margin
  margin_none e = rw e
