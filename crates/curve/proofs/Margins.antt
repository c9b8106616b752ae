-- At a price, a match in the margin has the greatest surplus that a curve offers, and only such a match has it.
use Rattle.std.proofs.Common.{◌≡◌, ℕ, zero, suc, ◌+◌, ◌-◌, ◌<◌, ◌≤◌, min, true, ◌⊎◌, ℤ, pos, negsuc, ◌+ℤ◌, ◌-ℤ◌, ◌*ℤ◌, ◌≤ℤ◌, ◌<ℤ◌, Some, None, Option, unwrap_or, sym, refl, ap, subst, inl, inr, ⊎_elim, arith}
use lib.Signed.{le_z}
use borrow.Author.Differences.{up, down}
use Rattle.std.proofs.lemmas.Int.{ints, clamps}
use Rattle.std.proofs.lemmas.Bool.{cases_lt, and_parts, and_from}
use Rattle.market.specs.declared.limits.Limits.{Limits}
use Rattle.market.specs.declared.sides.Side.TheVariants.{Buying, Selling}
use Rattle.market.specs.Prices.{lawful, within}
use Rattle.market.specs.Lots.{traded}
use Rattle.curve.specs.declared.ranges.LotRange.{LotRange}
use Rattle.curve.specs.Laws.{Falls}
use Rattle.curve.specs.Worth.{WorthIs, worth}
use Rattle.curve.specs.Ranges.{holds}
use Rattle.curve.specs.Margins.{counted, counted_below, margin_by, margin, offered}
use Rattle.curve.specs.Gains.{lot_worth, gain, surplus}
use Rattle.curve.specs.Theorems.{GreatestInMargin}
use Rattle.curve.proofs.Worths.{Ordered, ordered, inside, inside_from, inside_to, worth_found}
use Rattle.curve.proofs.Parts.{counted_in, counted_past, below_in, below_out}
use Rattle.curve.proofs.Hills.{climb, Hill, best_on_hill, bought_net, sold_net}

-- ---- a number is its part above 0 less its part below 0, one of which is 0
pub sides : (z : ℤ) → (up z ≡ 0) ⊎ (down z ≡ 0)
sides (pos n) = inr refl
sides (negsuc n) = inl refl

bought_is : (z : ℤ) → traded Buying z ≡ up z
bought_is (pos n) = refl
bought_is (negsuc n) = refl

sold_is : (z : ℤ) → traded Selling z ≡ down z
sold_is (pos n) = refl
sold_is (negsuc n) = refl

-- ---- a range, by its bounds
pub record Held (range : LotRange) (m : ℤ) : Type 0 where
  pub from_least : range.least ≤ℤ m
  pub to_most : m ≤ℤ range.most

pub held : (range : LotRange) (m : ℤ) → holds range m ≡ true → Held range m
held range m h =
    let l = (and_parts (le_z range.least m) (le_z m range.most) h).0 in
    let u = (and_parts (le_z range.least m) (le_z m range.most) h).1 in
    record { from_least = omega (arith, ints); to_most = omega (arith, ints) }

pub holds_from : (range : LotRange) (m : ℤ) → range.least ≤ℤ m → m ≤ℤ range.most → holds range m ≡ true
holds_from range m l u = and_from (le_z range.least m) (le_z m range.most) (sym (omega (arith, ints))) (sym (omega (arith, ints)))

-- ---- the margin, by the parts of each number
pub record Parts (Q A L m : ℤ) : Type 0 where
  pub bought_from : up A ≤ up m
  pub bought_to : up m ≤ up Q
  pub sold_from : down L ≤ down m
  pub sold_to : down m ≤ down Q

parts_of : (Q A L m : ℤ) → (A ≤ℤ Q) ⊎ (A ≡ pos 0) → (Q ≤ℤ L) ⊎ (L ≡ pos 0) → holds (margin_by Q A L) m ≡ true → Parts Q A L m
parts_of (pos zero) A L m a l h = let b = held (margin_by (pos zero) A L) m h in let from = b.from_least in let to = b.to_most in omega (arith, ints, clamps, sides A, sides L, sides m)
parts_of (pos (suc n)) A L m a l h = let b = held (margin_by (pos (suc n)) A L) m h in let from = b.from_least in let to = b.to_most in omega (arith, ints, clamps, sides A, sides L, sides m)
parts_of (negsuc n) A L m a l h = let b = held (margin_by (negsuc n) A L) m h in let from = b.from_least in let to = b.to_most in omega (arith, ints, clamps, sides A, sides L, sides m)

of_parts : (Q A L m : ℤ) → (A ≤ℤ Q) ⊎ (A ≡ pos 0) → (Q ≤ℤ L) ⊎ (L ≡ pos 0) → Parts Q A L m → holds (margin_by Q A L) m ≡ true
of_parts (pos zero) A L m a l h = holds_from (margin_by (pos zero) A L) m (omega (arith, ints, clamps, sides m)) (omega (arith, ints, clamps, sides m))
of_parts (pos (suc n)) A L m a l h = holds_from (margin_by (pos (suc n)) A L) m (omega (arith, ints, clamps, sides A, sides L, sides m)) (omega (arith, ints, clamps, sides A, sides L, sides m))
of_parts (negsuc n) A L m a l h = holds_from (margin_by (negsuc n) A L) m (omega (arith, ints, clamps, sides A, sides L, sides m)) (omega (arith, ints, clamps, sides A, sides L, sides m))

-- ---- one curve at one price
module _ (q : ℕ → ℤ) (falls : Falls q) (limits : Limits) (p : ℕ) (are_lawful : lawful limits ≡ true) (inside-limits : within limits p ≡ true) where
  abbrev lo : ℕ
  lo = limits.lowest

  abbrev hi : ℕ
  hi = limits.highest

  abbrev A : ℤ
  A = counted q limits (p + 1)

  abbrev L : ℤ
  L = counted_below q limits p

  o : Ordered limits
  o = ordered limits are_lawful

  from : lo ≤ p
  from = inside_from limits p inside-limits

  to : p ≤ hi
  to = inside_to limits p inside-limits

  above_in : p < hi → A ≡ q (p + 1)
  above_in h = let f = from in counted_in q limits (p + 1) (inside limits (p + 1) (omega arith) (omega arith))

  above_out : hi ≤ p → A ≡ pos 0
  above_out h = counted_past q limits (p + 1) (omega arith)

  over : (A ≤ℤ q p) ⊎ (A ≡ pos 0)
  over = ⊎_elim (λ l. inl (rw (above_in l) (falls p (p + 1) (omega arith)))) (λ l. inr (above_out l)) (cases_lt p hi)

  under : (q p ≤ℤ L) ⊎ (L ≡ pos 0)
  under = ⊎_elim (λ l. inl (rw (below_in q limits p l to) (falls (p - 1) p (omega arith)))) (λ l. inr (below_out q limits p l)) (cases_lt lo p)

  pub margin_out : (m : ℤ) → holds (margin q limits p) m ≡ true → Parts (q p) A L m
  unfolding margin
  margin_out m h = parts_of (q p) A L m over under (subst (λ x. holds (margin_by x A L) m ≡ true) (counted_in q limits p inside-limits) h)

  pub margin_in : (m : ℤ) → Parts (q p) A L m → holds (margin q limits p) m ≡ true
  unfolding margin
  margin_in m h = subst (λ x. holds (margin_by x A L) m ≡ true) (sym (counted_in q limits p inside-limits)) (of_parts (q p) A L m over under h)

  pub margin_offered : (m : ℤ) → holds (margin q limits p) m ≡ true → holds (offered q limits) m ≡ true
  margin_offered m h =
      let parts = margin_out m h in
      let up-lo = falls lo p from in
      let down-hi = falls p hi to in
      holds_from (offered q limits) m (omega (arith, ints, clamps, sides m, sides (q p))) (omega (arith, ints, clamps, sides m, sides (q p)))

  -- a lot that the curve trades within the limits has a worth
  bought : (j : ℕ) → 0 < j → j ≤ up (q lo) → WorthIs q limits Buying j (Some (lot_worth q limits Buying j))
  unfolding lot_worth
  bought j counted y = of (worth q limits Buying j) (worth_found q limits Buying j)
    where
      of : (w : Option ℕ) → WorthIs q limits Buying j w → WorthIs q limits Buying j (Some (unwrap_or w 0))
      of None h = let same = bought_is (q lo) in let b = o.below in absurd (h lo (record { are_lawful = are_lawful; counted = counted; inside = inside limits lo (omega arith) (omega arith); enough = omega arith }))
      of (Some w) h = h

  sold : (j : ℕ) → 0 < j → j ≤ down (q hi) → WorthIs q limits Selling j (Some (lot_worth q limits Selling j))
  unfolding lot_worth
  sold j counted y = of (worth q limits Selling j) (worth_found q limits Selling j)
    where
      of : (w : Option ℕ) → WorthIs q limits Selling j w → WorthIs q limits Selling j (Some (unwrap_or w 0))
      of None h = let same = sold_is (q hi) in let b = o.below in absurd (h hi (record { are_lawful = are_lawful; counted = counted; inside = inside limits hi (omega arith) (omega arith); enough = omega arith }))
      of (Some w) h = h

  -- a lot bought is worth more than p as far as it is wanted above p, p as far as it is wanted at p, and less after that
  buying_hill : Hill (λ j. pos (lot_worth q limits Buying j) -ℤ pos p) (up A) (up (q p)) (up (q lo))
  buying_hill = record { rises = rises; stays = stays; falls = after }
    where
      rises : (j : ℕ) → 0 < j → j ≤ up A → pos 0 <ℤ (pos (lot_worth q limits Buying j) -ℤ pos p)
      rises j counted h = ⊎_elim
          (λ l.
          let f = from in
          let e = above_in l in
          let same = bought_is (q (p + 1)) in
          let enough : j ≤ traded Buying (q (p + 1)) = rw (same, ← e) h in
          let more = falls lo (p + 1) (omega arith) in
          let w = bought j counted (omega (arith, ints, sides (q lo), sides (q (p + 1)))) in
          let k = w.1 (p + 1) (record { are_lawful = are_lawful; counted = counted; inside = inside limits (p + 1) (omega arith) (omega arith); enough = enough }) in
          omega (arith, ints))
          (λ l. let none = above_out l in absurd (omega (arith, ints, ap up none)))
          (cases_lt p hi)

      stays : (j : ℕ) → up A < j → j ≤ up (q p) → pos (lot_worth q limits Buying j) -ℤ pos p ≡ pos 0
      stays j past h =
          let f = from in
          let t = to in
          let more = falls lo p from in
          let same = bought_is (q p) in
          let w = bought j (omega arith) (omega (arith, ints, sides (q lo), sides (q p))) in
          let k = w.1 p (record { are_lawful = are_lawful; counted = omega arith; inside = inside-limits; enough = omega arith }) in
          let top = inside_to limits (lot_worth q limits Buying j) w.0.inside in
          let many = w.0.enough in
          let many_is = bought_is (q (lot_worth q limits Buying j)) in
          ⊎_elim
          (λ l.
          let e = above_in (omega arith) in
          let fewer = falls (p + 1) (lot_worth q limits Buying j) (omega arith) in
          let none : up (q (p + 1)) < j = rw (← e) past in
          absurd (omega (arith, ints, sides (q (p + 1)), sides (q (lot_worth q limits Buying j)))))
          (λ l. omega (arith, ints))
          (cases_lt p (lot_worth q limits Buying j))

      after : (j : ℕ) → up (q p) < j → j ≤ up (q lo) → (pos (lot_worth q limits Buying j) -ℤ pos p) <ℤ pos 0
      after j past h =
          let w = bought j (omega arith) h in
          let many = w.0.enough in
          let many_is = bought_is (q (lot_worth q limits Buying j)) in
          ⊎_elim
          (λ l. omega (arith, ints))
          (λ l. let fewer = falls p (lot_worth q limits Buying j) l in absurd (omega (arith, ints, sides (q p), sides (q (lot_worth q limits Buying j)))))
          (cases_lt (lot_worth q limits Buying j) p)

  -- a lot sold is worth less than p as far as it is wanted below p, p as far as it is wanted at p, and more after that
  selling_hill : Hill (λ j. pos p -ℤ pos (lot_worth q limits Selling j)) (down L) (down (q p)) (down (q hi))
  selling_hill = record { rises = rises; stays = stays; falls = after }
    where
      rises : (j : ℕ) → 0 < j → j ≤ down L → pos 0 <ℤ (pos p -ℤ pos (lot_worth q limits Selling j))
      rises j counted h = ⊎_elim
          (λ l.
          let t = to in
          let e = below_in q limits p l to in
          let same = sold_is (q (p - 1)) in
          let enough : j ≤ traded Selling (q (p - 1)) = rw (same, ← e) h in
          let more = falls (p - 1) hi (omega arith) in
          let w = sold j counted (omega (arith, ints, sides (q hi), sides (q (p - 1)))) in
          let k = w.1 (p - 1) (record { are_lawful = are_lawful; counted = counted; inside = inside limits (p - 1) (omega arith) (omega arith); enough = enough }) in
          omega (arith, ints))
          (λ l. let none = below_out q limits p l in absurd (omega (arith, ints, ap down none)))
          (cases_lt lo p)

      stays : (j : ℕ) → down L < j → j ≤ down (q p) → pos p -ℤ pos (lot_worth q limits Selling j) ≡ pos 0
      stays j past h =
          let f = from in
          let t = to in
          let more = falls p hi to in
          let same = sold_is (q p) in
          let w = sold j (omega arith) (omega (arith, ints, sides (q hi), sides (q p))) in
          let k = w.1 p (record { are_lawful = are_lawful; counted = omega arith; inside = inside-limits; enough = omega arith }) in
          let bottom = inside_from limits (lot_worth q limits Selling j) w.0.inside in
          let many = w.0.enough in
          let many_is = sold_is (q (lot_worth q limits Selling j)) in
          ⊎_elim
          (λ l.
          let e = below_in q limits p (omega arith) to in
          let fewer = falls (lot_worth q limits Selling j) (p - 1) (omega arith) in
          let none : down (q (p - 1)) < j = rw (← e) past in
          absurd (omega (arith, ints, sides (q (p - 1)), sides (q (lot_worth q limits Selling j)))))
          (λ l. omega (arith, ints))
          (cases_lt (lot_worth q limits Selling j) p)

      after : (j : ℕ) → down (q p) < j → j ≤ down (q hi) → (pos p -ℤ pos (lot_worth q limits Selling j)) <ℤ pos 0
      after j past h =
          let w = sold j (omega arith) h in
          let many = w.0.enough in
          let many_is = sold_is (q (lot_worth q limits Selling j)) in
          ⊎_elim
          (λ l. omega (arith, ints))
          (λ l. let fewer = falls (lot_worth q limits Selling j) p l in absurd (omega (arith, ints, sides (q p), sides (q (lot_worth q limits Selling j)))))
          (cases_lt p (lot_worth q limits Selling j))

  -- the surplus of a match, by the lots bought and sold
  net : (m : ℤ) → surplus q limits p m ≡ climb (λ j. pos (lot_worth q limits Buying j) -ℤ pos p) (up m) +ℤ climb (λ j. pos p -ℤ pos (lot_worth q limits Selling j)) (down m)
  unfolding climb
  net m = let t = to in let h = o.highest_within in let read : min p 10000000 ≡ p = omega arith in rw read (by m)
    where
      by : (m : ℤ) → gain q limits m -ℤ pos p *ℤ m ≡ climb (λ j. pos (lot_worth q limits Buying j) -ℤ pos p) (up m) +ℤ climb (λ j. pos p -ℤ pos (lot_worth q limits Selling j)) (down m)
      by (pos n) = let e = bought_net (lot_worth q limits Buying) p n in omega (arith, ints)
      by (negsuc n) = let e = sold_net (lot_worth q limits Selling) p (suc n) in omega (arith, ints)

  -- how far n is from the margin
  astray : ℤ → ℕ
  astray n = (up A - up n) + (up n - up (q p)) + ((down L - down n) + (down n - down (q p)))

  best : (m n : ℤ) → holds (margin q limits p) m ≡ true → holds (offered q limits) n ≡ true → (surplus q limits p n +ℤ pos (astray n)) ≤ℤ surplus q limits p m
  unfolding astray
  best m n h offers =
      let parts = margin_out m h in
      let b = held (offered q limits) n offers in
      let most-bought : up n ≤ up (q lo) = omega (arith, ints, clamps, sides n, sides (q lo)) in
      let most-sold : down n ≤ down (q hi) = omega (arith, ints, clamps, sides n, sides (q hi)) in
      let b = best_on_hill _ _ _ _ (up m) (up n) buying_hill parts.bought_from parts.bought_to most-bought in
      let s = best_on_hill _ _ _ _ (down m) (down n) selling_hill parts.sold_from parts.sold_to most-sold in
      let nm = net m in
      let nn = net n in
      omega (arith, ints)

  at_best : (m n : ℤ) → holds (margin q limits p) m ≡ true → holds (offered q limits) n ≡ true → surplus q limits p n ≤ℤ surplus q limits p m
  at_best m n h offers = let b = best m n h offers in omega (arith, ints)

  only_best : (m n : ℤ) → holds (margin q limits p) m ≡ true → holds (offered q limits) n ≡ true → surplus q limits p n ≡ surplus q limits p m → holds (margin q limits p) n ≡ true
  unfolding astray
  only_best m n h offers e =
      let b = best m n h offers in
      let z : astray n ≡ 0 = omega (arith, ints) in
      margin_in n (record { bought_from = omega arith; bought_to = omega arith; sold_from = omega arith; sold_to = omega arith })

  as_best : (m n : ℤ) → holds (margin q limits p) m ≡ true → holds (margin q limits p) n ≡ true → surplus q limits p n ≡ surplus q limits p m
  as_best m n h k =
      let one = at_best m n h (margin_offered n k) in
      let two = at_best n m k (margin_offered m h) in
      omega (arith, ints)

pub greatest_in_margin : (q : ℕ → ℤ) → Falls q → (limits : Limits) (p : ℕ) (m : ℤ) → GreatestInMargin q limits p m
greatest_in_margin q falls limits p m are_lawful inside-limits h = (
  margin_offered q falls limits p are_lawful inside-limits m h,
  λ n offers. (
    at_best q falls limits p are_lawful inside-limits m n h offers,
    (only_best q falls limits p are_lawful inside-limits m n h offers, as_best q falls limits p are_lawful inside-limits m n h),
  ),
)
