-- The totals and the margins of an hour go one way with the price.
use Rattle.std.proofs.Common.{◌≡◌, ℕ, zero, suc, ◌+◌, ◌-◌, ◌<◌, ◌≤◌, max, ◌≢◌, Bool, true, false, List, [], ◌∷◌, ℤ, pos, negsuc, ◌≤ℤ◌, ◌<ℤ◌, sum_by, Some, refl, ap, ◌∙◌, ⊎_elim, arith}
use Rattle.std.specs.Bool.{then_some}
use Rattle.std.specs.Int.{int_max, int_min}
use Rattle.std.proofs.lemmas.Int.{ints, clamps}
use Rattle.std.proofs.lemmas.List.Sums.{sum_by-cons}
use Rattle.std.proofs.lemmas.Bool.{cases_lt}
use Rattle.market.specs.declared.limits.Limits.{Limits}
use Rattle.market.specs.declared.sides.Side.TheVariants.{Buying, Selling}
use Rattle.market.specs.Lots.{traded}
use Rattle.market.specs.Prices.{within}
use Rattle.curve.specs.Laws.{Falls}
use Rattle.curve.specs.Margins.{counted, counted_below, margin_by, margin}
use Rattle.curve.proofs.Bests.{more_bought, more_sold}
use Rattle.curve.proofs.Parts.{counted_in, counted_out, counted_past, below_in, below_out}
use Rattle.curve.proofs.Worths.{inside, inside_from, inside_to}
use Rattle.merit.specs.Hours.{total, totals, NextChange, margins, Even, Balancing}
use Rattle.merit.proofs.Hours.{same_totals}

-- ---- sums of what is less
sum_le : {X : Type 0} (f g : X → ℕ) → ((x : X) → f x ≤ g x) → (xs : List X) → sum_by f xs ≤ sum_by g xs
sum_le f g h [] = omega arith
sum_le f g h (x ∷ xs) = omega (arith, h x, sum_le f g h xs, sum_by-cons f x xs, sum_by-cons g x xs)

pub total_le : {X : Type 0} (f g : X → ℤ) → ((x : X) → f x ≤ℤ g x) → (xs : List X) → total f xs ≤ℤ total g xs
total_le f g h [] = omega (arith, ints)
total_le f g h (x ∷ xs) = let a = h x in let b = total_le f g h xs in omega (arith, ints)

total_none : {X : Type 0} (f : X → ℤ) → ((x : X) → f x ≤ℤ pos 0) → (xs : List X) → total f xs ≤ℤ pos 0
total_none f h [] = omega (arith, ints)
total_none f h (x ∷ xs) = let a = h x in let b = total_none f h xs in omega (arith, ints)

-- ---- the totals between two prices of the same totals are the same
module _ {C : Type 0} (q : C → ℕ → ℤ) (falls : (c : C) → Falls (q c)) (cs : List C) where
  bought_falls : (p r : ℕ) → p ≤ r → (totals q cs r).bought ≤ (totals q cs p).bought
  bought_falls p r h = sum_le (λ c. traded Buying (q c r)) (λ c. traded Buying (q c p)) (λ c. more_bought (q c r) (q c p) (falls c p r h)) cs

  sold_rises : (p r : ℕ) → p ≤ r → (totals q cs p).sold ≤ (totals q cs r).sold
  sold_rises p r h = sum_le (λ c. traded Selling (q c p)) (λ c. traded Selling (q c r)) (λ c. more_sold (q c p) (q c r) (falls c p r h)) cs

  pub between : (p m r : ℕ) → p ≤ m → m ≤ r → totals q cs r ≡ totals q cs p → totals q cs m ≡ totals q cs p
  between p m r from to e =
      let b = ap (λ t. t.bought) e in
      let s = ap (λ t. t.sold) e in
      let b1 = bought_falls p m from in
      let b2 = bought_falls m r to in
      let s1 = sold_rises p m from in
      let s2 = sold_rises m r to in
      same_totals _ _ _ _ (omega arith) (omega arith)

  -- where others hold at the highest price, the totals are the same up to next and others there
  pub changes : (limits : Limits) (p next : ℕ) → p < limits.highest → p < next → next ≤ limits.highest → (p + 1 < next → totals q cs (next - 1) ≡ totals q cs p) → (next < limits.highest → totals q cs next ≢ totals q cs p) → totals q cs limits.highest ≢ totals q cs p → NextChange (totals q cs) limits p (Some next)
  changes limits p next under above to before there top =
      let others : totals q cs next ≢ totals q cs p = ⊎_elim there (λ l e. top (ap (totals q cs) (omega arith) ∙ e)) (cases_lt next limits.highest) in
      (above, to, others, λ m lo hi. ⊎_elim (λ l. between p m (next - 1) lo (omega arith) (before (omega arith))) (λ l. ap (totals q cs) (omega arith)) (cases_lt p m))

-- ---- the margin by the quantities at, above and below a price
least_by : (h a b h' a' b' : ℤ) → h' ≤ℤ h → int_max a' (pos 0) ≤ℤ int_max a (pos 0) → (margin_by h' a' b').least ≤ℤ (margin_by h a b).least
least_by (pos zero) a b (pos zero) a' b' e u = omega (arith, ints)
least_by (pos zero) a b (pos (suc m)) a' b' e u = absurd (omega (arith, ints))
least_by (pos zero) a b (negsuc m) a' b' e u = omega (arith, ints)
least_by (pos (suc n)) a b (pos zero) a' b' e u = omega (arith, ints, clamps)
least_by (pos (suc n)) a b (pos (suc m)) a' b' e u = u
least_by (pos (suc n)) a b (negsuc m) a' b' e u = omega (arith, ints, clamps)
least_by (negsuc n) a b (pos zero) a' b' e u = absurd (omega (arith, ints))
least_by (negsuc n) a b (pos (suc m)) a' b' e u = absurd (omega (arith, ints))
least_by (negsuc n) a b (negsuc m) a' b' e u = e

most_by : (h a b h' a' b' : ℤ) → h' ≤ℤ h → int_min b' (pos 0) ≤ℤ int_min b (pos 0) → (margin_by h' a' b').most ≤ℤ (margin_by h a b).most
most_by (pos zero) a b (pos zero) a' b' e u = omega (arith, ints)
most_by (pos zero) a b (pos (suc m)) a' b' e u = absurd (omega (arith, ints))
most_by (pos zero) a b (negsuc m) a' b' e u = omega (arith, ints, clamps)
most_by (pos (suc n)) a b (pos zero) a' b' e u = omega (arith, ints)
most_by (pos (suc n)) a b (pos (suc m)) a' b' e u = e
most_by (pos (suc n)) a b (negsuc m) a' b' e u = omega (arith, ints, clamps)
most_by (negsuc n) a b (pos zero) a' b' e u = absurd (omega (arith, ints))
most_by (negsuc n) a b (pos (suc m)) a' b' e u = absurd (omega (arith, ints))
most_by (negsuc n) a b (negsuc m) a' b' e u = u

top_by : (h b : ℤ) → (margin_by h (pos 0) b).least ≤ℤ pos 0
top_by (pos zero) b = omega (arith, ints)
top_by (pos (suc n)) b = omega (arith, ints, clamps)
top_by (negsuc n) b = omega (arith, ints)

-- ---- one curve between two prices within the limits
module _ (q : ℕ → ℤ) (falls : Falls q) (limits : Limits) (p r : ℕ) (from : limits.lowest ≤ p) (up_to_lem : p ≤ r) (to : r ≤ limits.highest) where
  here : counted q limits r ≤ℤ counted q limits p
  here = rw (counted_in q limits r (inside limits r (omega arith) to), counted_in q limits p (inside limits p from (omega arith))) (falls p r up_to_lem)

  above : int_max (counted q limits (r + 1)) (pos 0) ≤ℤ int_max (counted q limits (p + 1)) (pos 0)
  above = ⊎_elim
      (λ l.
      let e = falls (p + 1) (r + 1) (omega arith) in
      rw (counted_in q limits (r + 1) (inside limits (r + 1) (omega arith) (omega arith)), counted_in q limits (p + 1) (inside limits (p + 1) (omega arith) (omega arith))) (omega (arith, ints, clamps)))
      (λ l. rw (counted_past q limits (r + 1) (omega arith)) (omega (arith, ints, clamps)))
      (cases_lt r limits.highest)

  below : int_min (counted_below q limits r) (pos 0) ≤ℤ int_min (counted_below q limits p) (pos 0)
  below = ⊎_elim
      (λ l.
      let e = falls (p - 1) (r - 1) (omega arith) in
      rw (below_in q limits r (omega arith) to, below_in q limits p l (omega arith)) (omega (arith, ints, clamps)))
      (λ l. rw (below_out q limits p l) (omega (arith, ints, clamps)))
      (cases_lt limits.lowest p)

  pub margin_least : (margin q limits r).least ≤ℤ (margin q limits p).least
  unfolding margin
  margin_least = least_by _ _ (counted_below q limits p) _ _ (counted_below q limits r) here above

  pub margin_most : (margin q limits r).most ≤ℤ (margin q limits p).most
  unfolding margin
  margin_most = most_by _ (counted q limits (p + 1)) _ _ (counted q limits (r + 1)) _ here below

margin_top : (q : ℕ → ℤ) (limits : Limits) → (margin q limits limits.highest).least ≤ℤ pos 0
unfolding margin
margin_top q limits = rw (counted_past q limits (limits.highest + 1) (omega arith)) (top_by (counted q limits limits.highest) (counted_below q limits limits.highest))

-- ---- all curves
module _ {C : Type 0} (q : C → ℕ → ℤ) (falls : (c : C) → Falls (q c)) (limits : Limits) (cs : List C) where
  pub least_falls : (p r : ℕ) → limits.lowest ≤ p → p ≤ r → r ≤ limits.highest → total (λ c. (margin (q c) limits r).least) cs ≤ℤ total (λ c. (margin (q c) limits p).least) cs
  least_falls p r from up_to_lem to = total_le _ _ (λ c. margin_least (q c) (falls c) limits p r from up_to_lem to) cs

  pub most_falls : (p r : ℕ) → limits.lowest ≤ p → p ≤ r → r ≤ limits.highest → total (λ c. (margin (q c) limits r).most) cs ≤ℤ total (λ c. (margin (q c) limits p).most) cs
  most_falls p r from up_to_lem to = total_le _ _ (λ c. margin_most (q c) (falls c) limits p r from up_to_lem to) cs

  pub least_top : total (λ c. (margin (q c) limits limits.highest).least) cs ≤ℤ pos 0
  least_top = total_none _ (λ c. margin_top (q c) limits) cs

  -- the least totals above 0 below p and not at p, so no lower price balances the hour, and no price does where the most totals below 0 at p
  module _ (p : ℕ) (from : limits.lowest ≤ p) (to : p ≤ limits.highest) (before : limits.lowest < p → pos 0 <ℤ (margins q limits cs (p - 1)).least) (there : (margins q limits cs p).least ≤ℤ pos 0) where
    none_below : (n : ℕ) → within limits n ≡ true → n < p → Even (margins q limits cs n) → ⊥
    none_below n i under even =
        let low = inside_from limits n i in
        let more = least_falls n (p - 1) low (omega arith) (omega arith) in
        let short = before (omega arith) in
        let least = even.0 in
        absurd (omega (arith, ints))

    pub balances : (b : Bool) → (b ≡ true → pos 0 ≤ℤ (margins q limits cs p).most) → (b ≡ false → (margins q limits cs p).most <ℤ pos 0) → Balancing (margins q limits cs) limits (then_some b p)
    balances true enough fewer = (inside limits p from to, (there, enough refl), none_below)
    balances false enough fewer = λ n i even.
        ⊎_elim
        (λ l. none_below n i l even)
        (λ l. let less = most_falls p n from l (inside_to limits n i) in let sells = fewer refl in let most = even.1 in absurd (omega (arith, ints)))
        (cases_lt n p)

-- ---- no margin is upside down
ordered_by : (h a b : ℤ) → int_max a (pos 0) ≤ℤ int_max h (pos 0) → int_min h (pos 0) ≤ℤ int_min b (pos 0) → (margin_by h a b).least ≤ℤ (margin_by h a b).most
ordered_by (pos zero) a b u v = omega (arith, ints)
ordered_by (pos (suc n)) a b u v = omega (arith, ints, clamps)
ordered_by (negsuc n) a b u v = omega (arith, ints, clamps)

module _ (q : ℕ → ℤ) (falls : Falls q) (limits : Limits) (p : ℕ) where
  ordered_in : within limits p ≡ true → (margin q limits p).least ≤ℤ (margin q limits p).most
  unfolding margin
  ordered_in i =
      let from = inside_from limits p i in
      let to = inside_to limits p i in
      let above : int_max (counted q limits (p + 1)) (pos 0) ≤ℤ int_max (q p) (pos 0) =
      ⊎_elim
      (λ l. let e = falls p (p + 1) (omega arith) in rw (counted_in q limits (p + 1) (inside limits (p + 1) (omega arith) (omega arith))) (omega (arith, ints, clamps)))
      (λ l. rw (counted_past q limits (p + 1) (omega arith)) (omega (arith, ints, clamps)))
      (cases_lt p limits.highest) in
      let below : int_min (q p) (pos 0) ≤ℤ int_min (counted_below q limits p) (pos 0) =
      ⊎_elim
      (λ l. let e = falls (p - 1) p (omega arith) in rw (below_in q limits p l to) (omega (arith, ints, clamps)))
      (λ l. rw (below_out q limits p l) (omega (arith, ints, clamps)))
      (cases_lt limits.lowest p) in
      rw (counted_in q limits p i) (ordered_by (q p) (counted q limits (p + 1)) (counted_below q limits p) above below)

  ordered_out : within limits p ≡ false → (margin q limits p).least ≤ℤ (margin q limits p).most
  unfolding margin
  ordered_out o = rw (counted_out q limits p o) (omega (arith, ints))

  pub margin_ordered : (margin q limits p).least ≤ℤ (margin q limits p).most
  margin_ordered = by (within limits p) refl
    where
      by : (b : Bool) → within limits p ≡ b → (margin q limits p).least ≤ℤ (margin q limits p).most
      by true e = ordered_in e
      by false e = ordered_out e
