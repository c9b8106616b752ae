-- Curves that go from level to level keep the laws of curves.
use Rattle.std.specs.Prelude.{◌≡◌, ℕ, ◌<◌, ◌≤◌, min, Bool, true, false, cond, List, [], ◌∷◌, ℤ, pos, negsuc, neg_ℤ, ◌≤ℤ◌, Some, None, Option, int_le, nat_lt, unsigned_abs, refl}
use Rattle.std.proofs.Common.{ap, ⊎_elim, arith}
use Rattle.std.proofs.lemmas.Int.{ints}
use Rattle.std.proofs.lemmas.Bool.{and_parts, leb-true, ltb-true, cases_lt, cond-true, cond-false, lt-ltb, le-ltb}
use Rattle.curve.specs.Laws.{CurveLaws}
use Rattle.levels.specs.declared.level.Level.{Level}
use Rattle.levels.specs.declared.search.Neighbours.{Neighbours}
use Rattle.levels.specs.Form.{bounded, follows, formed_after}
use Rattle.levels.specs.Search.{around_from, around, largest}
use Rattle.levels.specs.Fronts.{Formed}

-- ---- the tests of the form, by their parts
-- the price and the quantity of a level within their bounds
pub record Bounds (a : Level) : Type 0 where
  pub price_to : a.price ≤ 10000000
  pub quantity_from : negsuc 99999 ≤ℤ a.quantity
  pub quantity_to : a.quantity ≤ℤ pos 100000

-- a level that passes the test of its bounds is within them
pub bounds : (a : Level) → bounded a ≡ true → Bounds a
bounds a h =
    let p = and_parts _ _ h in
    let l = (and_parts (int_le (negsuc 99999) a.quantity) (int_le a.quantity (pos 100000)) p.1).0 in
    let u = (and_parts (int_le (negsuc 99999) a.quantity) (int_le a.quantity (pos 100000)) p.1).1 in
    record { price_to = leb-true _ _ p.0; quantity_from = omega (arith, ints); quantity_to = omega (arith, ints) }

-- the level b may follow the level a: it is within its bounds, its price is higher, its quantity no higher
pub record Next (a b : Level) : Type 0 where
  pub next_bounded : bounded b ≡ true
  pub rises : a.price < b.price
  pub quantity_falls : b.quantity ≤ℤ a.quantity

-- a level that passes the test of following may follow
pub next : (a b : Level) → follows a b ≡ true → Next a b
next a b h =
    let p = and_parts _ _ h in
    let r = (and_parts (nat_lt a.price b.price) (int_le b.quantity a.quantity) p.1).0 in
    let f = (and_parts (nat_lt a.price b.price) (int_le b.quantity a.quantity) p.1).1 in
    record { next_bounded = p.0; rises = ltb-true _ _ r; quantity_falls = omega (arith, ints) }

-- ---- the neighbours of a price among levels that keep the form
-- the level after a, where there is one, may follow it and is priced above p
abbrev pub NextIs : Level → Option Level → ℕ → Type 0
NextIs a None p = Unit {0}
NextIs a (Some b) p = (follows a b ≡ true) × (p < b.price)

-- the neighbours of the price p: a level within its bounds, and the one after it priced above p
pub record Neighbouring (n : Neighbours) (p : ℕ) : Type 0 where
  pub at_bounded : bounded n.at ≡ true
  pub next_is : NextIs n.at n.next p

neighbouring_from : (a : Level) (ls : List Level) (p : ℕ) → bounded a ≡ true → formed_after a ls ≡ true → Neighbouring (around_from a ls p) p
neighbouring_from a [] p b f = record { at_bounded = b; next_is = tt }
neighbouring_from a (c ∷ ls) p b f =
    let parts = and_parts (follows a c) (formed_after c ls) f in
    by parts (neighbouring_from c ls p (next a c parts.0).next_bounded parts.1) (nat_lt p c.price) refl
  where
    by : (follows a c ≡ true) × (formed_after c ls ≡ true) → Neighbouring (around_from c ls p) p → (t : Bool) → nat_lt p c.price ≡ t → Neighbouring (cond t (record { at = a; next = Some c }) (around_from c ls p)) p
    by parts rest true e = record { at_bounded = b; next_is = (parts.0, ltb-true _ _ e) }
    by parts rest false e = rest

-- among levels that keep the form every price has such neighbours
pub neighbouring : (ls : List Level) (p : ℕ) → Formed ls → Neighbouring (around ls p) p
neighbouring [] p h = absurd (omega (arith, h.some))
neighbouring (a ∷ ls) p h = let f = and_parts _ _ h.keeps in neighbouring_from a ls p f.0 f.1

-- ---- the size of a number
-- a number is at least minus its size
pub abs_from : (z : ℤ) → neg_ℤ (pos (unsigned_abs z)) ≤ℤ z
abs_from (pos n) = omega (arith, ints)
abs_from (negsuc n) = omega (arith, ints)

-- a number is at most its size
pub abs_to : (z : ℤ) → z ≤ℤ pos (unsigned_abs z)
abs_to (pos n) = omega (arith, ints)
abs_to (negsuc n) = omega (arith, ints)

-- a number between minus m and m has at most the size m
pub abs_within : (z : ℤ) (m : ℕ) → neg_ℤ (pos m) ≤ℤ z → z ≤ℤ pos m → unsigned_abs z ≤ m
abs_within (pos n) m l u = omega (arith, ints)
abs_within (negsuc n) m l u = omega (arith, ints)

-- ---- a rule that gives the quantity by a price's neighbours, from level to level
-- a rule by the level at a price and the one after it: it ends in the last level, stays between the two levels, and never rises
pub record Rule (f : Level → Option Level → ℕ → ℤ) : Type 0 where
  pub at_end : (a : Level) (p : ℕ) → f a None p ≡ a.quantity
  pub not_over : (a b : Level) (p : ℕ) → bounded a ≡ true → follows a b ≡ true → f a (Some b) p ≤ℤ a.quantity
  pub not_under : (a b : Level) (p : ℕ) → bounded a ≡ true → follows a b ≡ true → p < b.price → b.quantity ≤ℤ f a (Some b) p
  pub falls : (a b : Level) (p r : ℕ) → bounded a ≡ true → follows a b ≡ true → p ≤ r → f a (Some b) r ≤ℤ f a (Some b) p

module _ (f : Level → Option Level → ℕ → ℤ) (rule : Rule f) where
  -- the quantity at p among the level a and those after it
  abbrev pub along_from : Level → List Level → ℕ → ℤ
  along_from a ls p = f (around_from a ls p).at (around_from a ls p).next p

  -- the quantity at p among levels
  abbrev pub along : List Level → ℕ → ℤ
  along ls p = f (around ls p).at (around ls p).next p

  -- before the price of the second level the first two levels decide
  pub here : (a b : Level) (ls : List Level) (p : ℕ) → p < b.price → along_from a (b ∷ ls) p ≡ f a (Some b) p
  here a b ls p h = ap (λ n. f n.at n.next p) (cond-true (nat_lt p b.price) (record { at = a; next = Some b }) (around_from b ls p) (lt-ltb _ _ h))

  -- from the price of the second level on the first level does not matter
  pub there : (a b : Level) (ls : List Level) (p : ℕ) → b.price ≤ p → along_from a (b ∷ ls) p ≡ along_from b ls p
  there a b ls p h = ap (λ n. f n.at n.next p) (cond-false (nat_lt p b.price) (record { at = a; next = Some b }) (around_from b ls p) (le-ltb _ _ h))

  -- no quantity is above the first level's
  pub along_top : (a : Level) (ls : List Level) (p : ℕ) → bounded a ≡ true → formed_after a ls ≡ true → along_from a ls p ≤ℤ a.quantity
  along_top a [] p k h = let e = rule.at_end a p in omega (arith, ints)
  along_top a (b ∷ ls) p k h =
      let parts = and_parts (follows a b) (formed_after b ls) h in
      let n = next a b parts.0 in
      ⊎_elim
      (λ l. let e = here a b ls p l in let o = rule.not_over a b p k parts.0 in omega (arith, ints))
      (λ l. let e = there a b ls p l in let o = along_top b ls p n.next_bounded parts.1 in let q = n.quantity_falls in omega (arith, ints))
      (cases_lt p b.price)

  along_falls : (a : Level) (ls : List Level) (p r : ℕ) → bounded a ≡ true → formed_after a ls ≡ true → p ≤ r → along_from a ls r ≤ℤ along_from a ls p
  along_falls a [] p r k h l = let e = rule.at_end a p in let g = rule.at_end a r in omega (arith, ints)
  along_falls a (b ∷ ls) p r k h l =
      let parts = and_parts (follows a b) (formed_after b ls) h in
      let n = next a b parts.0 in
      ⊎_elim
      (λ u. let e = here a b ls p (omega arith) in let g = here a b ls r u in let o = rule.falls a b p r k parts.0 l in omega (arith, ints))
      (λ u. let g = there a b ls r u in
      ⊎_elim
      (λ v. let e = here a b ls p v in let low = rule.not_under a b p k parts.0 v in let o = along_top b ls r n.next_bounded parts.1 in omega (arith, ints))
      (λ v. let e = there a b ls p v in let o = along_falls b ls p r n.next_bounded parts.1 l in omega (arith, ints))
      (cases_lt p b.price))
      (cases_lt r b.price)

  along_from_reach : (a : Level) (ls : List Level) (p : ℕ) → bounded a ≡ true → formed_after a ls ≡ true → neg_ℤ (pos (largest (a ∷ ls))) ≤ℤ along_from a ls p
  along_from_reach a [] p k h = let e = rule.at_end a p in let s = abs_from a.quantity in omega (arith, ints)
  along_from_reach a (b ∷ ls) p k h =
      let parts = and_parts (follows a b) (formed_after b ls) h in
      let n = next a b parts.0 in
      ⊎_elim
      (λ l. let e = here a b ls p l in let low = rule.not_under a b p k parts.0 l in let s = abs_from b.quantity in omega (arith, ints))
      (λ l. let e = there a b ls p l in let o = along_from_reach b ls p n.next_bounded parts.1 in omega (arith, ints))
      (cases_lt p b.price)

  along_to_reach : (a : Level) (ls : List Level) (p : ℕ) → bounded a ≡ true → formed_after a ls ≡ true → along_from a ls p ≤ℤ pos (largest (a ∷ ls))
  along_to_reach a ls p k h = let o = along_top a ls p k h in let s = abs_to a.quantity in omega (arith, ints)

  largest_after : (a : Level) (ls : List Level) → bounded a ≡ true → formed_after a ls ≡ true → largest (a ∷ ls) ≤ 100000
  largest_after a [] k h = let b = bounds a k in let s = abs_within a.quantity 100000 (omega (arith, ints, b.quantity_from)) b.quantity_to in omega arith
  largest_after a (b ∷ ls) k h =
      let parts = and_parts (follows a b) (formed_after b ls) h in
      let n = next a b parts.0 in
      let c = bounds a k in
      let s = abs_within a.quantity 100000 (omega (arith, ints, c.quantity_from)) c.quantity_to in
      let rest = largest_after b ls n.next_bounded parts.1 in
      omega arith

  -- levels that keep the form, with a rule, give a curve that keeps the laws of curves, whose reach is the largest size of a quantity
  pub along_laws : (ls : List Level) → Formed ls → CurveLaws (λ p. along ls (min p 10000000)) (largest ls)
  along_laws [] h = absurd (omega (arith, h.some))
  along_laws (a ∷ ls) h =
      let parts = and_parts (bounded a) (formed_after a ls) h.keeps in
      let least = largest_after a ls parts.0 parts.1 in
      record {
        never_rises = λ p r l. along_falls a ls (min p 10000000) (min r 10000000) parts.0 parts.1 (omega arith);
        sold_within = λ p. along_from_reach a ls (min p 10000000) parts.0 parts.1;
        bought_within = λ p. along_to_reach a ls (min p 10000000) parts.0 parts.1;
        read_as_highest = λ p. let e : min p 10000000 ≡ min (min p 10000000) 10000000 = omega arith in ap (along_from a ls) e;
        reach_within = omega arith;
      }
