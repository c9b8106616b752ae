-- What holds of registers as lists: what a place says of them, and what keeps them lawful.
use Rattle.std.proofs.Common.{◌≡◌, ℕ, zero, suc, ◌+◌, ◌<◌, ◌≤◌, Bool, true, false, cond, ◌||◌, eqb, ltb, List, [], ◌∷◌, length, get_or, is_ok, Ok, Err, Result, sym, refl, ap, ◌∙◌, inl, inr, arith}
use Rattle.std.specs.List.{AllByRecursion, insert, remove}
use Rattle.std.proofs.lemmas.Bool.{and_parts, and_from, or_from, or_parts, or_left, or_right, ltb-true, ltb-false, lt-ltb, le-ltb, leb-true, le-leb, eqb-true, eqb-false, eq-eqb, ne_eqb, cond-true, cond-false, cond_both, cases_lt, cases_Bool}
use Rattle.bids.specs.Kinds.{Kind}
use Rattle.register.specs.Order.{each, stands, tally, entered, without, rising, known, few, ordered, Placed, Ordered}
use Rattle.register.proofs.Steps.{above}
use Rattle.register.proofs.Tallies.{count_cons, count_entered, count_without}

-- what is true of each, as a test and in words
pub each_all : {X : Type 0} (t : X → Bool) (xs : List X) → each t xs ≡ true → AllByRecursion (λ x. t x ≡ true) xs
each_all t [] h = tt
each_all t (x ∷ xs) h = let p = and_parts (t x) (each t xs) h in (p.0, each_all t xs p.1)

pub all_each : {X : Type 0} (t : X → Bool) (xs : List X) → AllByRecursion (λ x. t x ≡ true) xs → each t xs ≡ true
all_each t [] h = refl
all_each t (x ∷ xs) h = and_from _ _ h.0 (all_each t xs h.1)

module _ {B : Type 0} (k : Kind B) where
  stands_yes : (n : ℕ) (xs : List B) (i : ℕ) → i < length xs → ((d : B) → k.number_of (get_or xs i d) ≡ n) → stands k n xs ≡ true
  stands_yes n (x ∷ xs) zero l h = or_left _ _ (eq-eqb (k.number_of x) n (h x))
  stands_yes n (x ∷ xs) (suc i) l h = or_right _ _ (stands_yes n xs i (omega arith) h)
  stands_yes n [] i l h = absurd (omega arith)

  stands_no : (n : ℕ) (xs : List B) → ((j : ℕ) (d : B) → j < length xs → k.number_of (get_or xs j d) ≡ n → ⊥) → stands k n xs ≡ false
  stands_no n [] h = refl
  stands_no n (x ∷ xs) h = or_from _ _ (ne_eqb (k.number_of x) n (h 0 x (omega arith))) (stands_no n xs (λ j d l. h (suc j) d (omega arith)))

  pub stands_is : (n : ℕ) (xs : List B) (r : Result ℕ ℕ) → Placed k n xs r → stands k n xs ≡ is_ok r
  stands_is n xs (Ok i) p = stands_yes n xs i p.0 p.1
  stands_is n xs (Err i) p =
      stands_no n xs (λ j d l e. elim (cases_lt j i) as (λ _. ⊥) [ inl a ↦ let b = p.1 j d a in omega arith | inr a ↦ let b = p.2 j d a l in omega arith ])

  pub entered_is : (b : B) (xs : List B) (i : ℕ) → Placed k (k.number_of b) xs (Err i) → insert xs i b ≡ entered k b xs
  entered_is b [] zero p = refl
  entered_is b [] (suc i) p = let h = p.0 in absurd (omega arith)
  entered_is b (x ∷ xs) zero p =
      let h = p.2 0 x (omega arith) (omega arith) in
      sym (cond-false (ltb (k.number_of x) (k.number_of b)) _ _ (le-ltb _ _ (omega arith)))
  entered_is b (x ∷ xs) (suc i) p =
      let h = p.1 0 x (omega arith) in let l = p.0 in
      let r = entered_is b xs i (omega arith, (λ j d a. p.1 (suc j) d (omega arith)), (λ j d a e. p.2 (suc j) d (omega arith) (omega arith))) in
      ap (λ ys. x ∷ ys) r ∙ sym (cond-true (ltb (k.number_of x) (k.number_of b)) _ _ (lt-ltb _ _ h))

  pub without_is : (m n : ℕ) (xs : List B) (i : ℕ) → rising k m xs ≡ true → Placed k n xs (Ok i) → remove xs i ≡ without k n xs
  without_is m n (x ∷ xs) zero r p = sym (cond-true (eqb (k.number_of x) n) _ _ (eq-eqb _ _ (p.1 x)))
  without_is m n (x ∷ xs) (suc i) r p =
      let l = p.0 in let q = and_parts (ltb m (k.number_of x)) (rising k (k.number_of x) xs) r in
      let a = above k (k.number_of x) xs q.1 i x (omega arith) in let e = p.1 x in
      let t = without_is (k.number_of x) n xs i q.1 (omega arith, p.1) in
      ap (λ ys. x ∷ ys) t ∙ sym (cond-false (eqb (k.number_of x) n) _ _ (ne_eqb _ _ (λ z. omega arith)))
  without_is m n [] i r p = let l = p.0 in absurd (omega arith)

  rising_lower : (m n : ℕ) (xs : List B) → n ≤ m → rising k m xs ≡ true → rising k n xs ≡ true
  rising_lower m n [] l h = refl
  rising_lower m n (x ∷ xs) l h =
      let p = and_parts (ltb m (k.number_of x)) (rising k (k.number_of x) xs) h in
      let a = ltb-true m (k.number_of x) p.0 in
      and_from _ _ (lt-ltb _ _ (omega arith)) p.1

  pub rising_entered : (n : ℕ) (b : B) (xs : List B) → n < k.number_of b → stands k (k.number_of b) xs ≡ false → rising k n xs ≡ true → rising k n (entered k b xs) ≡ true
  rising_entered n b [] l s h = and_from _ _ (lt-ltb _ _ l) refl
  rising_entered n b (x ∷ xs) l s h =
      let p = and_parts (ltb n (k.number_of x)) (rising k (k.number_of x) xs) h in
      let q = or_parts (eqb (k.number_of x) (k.number_of b)) (stands k (k.number_of b) xs) s in
      cond_both (ltb (k.number_of x) (k.number_of b)) (x ∷ entered k b xs) (b ∷ x ∷ xs) (λ ys. rising k n ys ≡ true)
      (λ e. and_from _ _ p.0 (rising_entered (k.number_of x) b xs (ltb-true _ _ e) q.1 p.1))
      (λ e. let ne = eqb-false (k.number_of x) (k.number_of b) q.0 in let le = ltb-false (k.number_of x) (k.number_of b) e in
      let lt : k.number_of b < k.number_of x = omega arith in
      and_from _ _ (lt-ltb _ _ l) (and_from _ _ (lt-ltb _ _ lt) p.1))

  pub all_entered : (P : B → Type 0) (b : B) (xs : List B) → P b → AllByRecursion P xs → AllByRecursion P (entered k b xs)
  all_entered P b [] h a = (h, tt)
  all_entered P b (x ∷ xs) h a = cond_both (ltb (k.number_of x) (k.number_of b)) (x ∷ entered k b xs) (b ∷ x ∷ xs) (AllByRecursion P) (λ e. (a.0, all_entered P b xs h a.1)) (λ e. (h, a))

  pub length_entered : (b : B) (xs : List B) → length (entered k b xs) ≡ length xs + 1
  length_entered b [] = refl
  length_entered b (x ∷ xs) =
      let r = length_entered b xs in
      cond_both (ltb (k.number_of x) (k.number_of b)) (x ∷ entered k b xs) (b ∷ x ∷ xs) (λ ys. length ys ≡ length (x ∷ xs) + 1) (λ e. omega (arith, r)) (λ e. omega arith)

  pub rising_without : (m n : ℕ) (xs : List B) → rising k n xs ≡ true → rising k n (without k m xs) ≡ true
  rising_without m n [] h = refl
  rising_without m n (x ∷ xs) h =
      let p = and_parts (ltb n (k.number_of x)) (rising k (k.number_of x) xs) h in
      let l = ltb-true n (k.number_of x) p.0 in
      cond_both (eqb (k.number_of x) m) xs (x ∷ without k m xs) (λ ys. rising k n ys ≡ true) (λ e. rising_lower (k.number_of x) n xs (omega arith) p.1) (λ e. and_from _ _ p.0 (rising_without m (k.number_of x) xs p.1))

  pub all_without : (P : B → Type 0) (m : ℕ) (xs : List B) → AllByRecursion P xs → AllByRecursion P (without k m xs)
  all_without P m [] a = tt
  all_without P m (x ∷ xs) a = cond_both (eqb (k.number_of x) m) xs (x ∷ without k m xs) (AllByRecursion P) (λ e. a.1) (λ e. (a.0, all_without P m xs a.1))

  pub length_without : (m : ℕ) (xs : List B) → stands k m xs ≡ true → length (without k m xs) + 1 ≡ length xs
  length_without m [] s = absurd cc
  length_without m (x ∷ xs) s =
      cond_both (eqb (k.number_of x) m) xs (x ∷ without k m xs) (λ ys. length ys + 1 ≡ length (x ∷ xs)) (λ e. omega arith)
      (λ e. let r = length_without m xs (sym (ap (λ b. b || stands k m xs) e) ∙ s) in omega (arith, r))

  -- a participant with a bid among xs has few among all
  tally_some : (all : List B) (p : ℕ) (xs : List B) → each (few k all) xs ≡ true → 0 < tally k p xs → tally k p all ≤ k.most_standing
  tally_some all p [] a l = absurd (omega arith)
  tally_some all p (x ∷ xs) a l =
      let q = and_parts (few k all x) (each (few k all) xs) a in
      let c = count_cons (λ y. eqb (k.participant_of y) p) x xs in
      elim (cases_Bool (eqb (k.participant_of x) p)) as (λ _. tally k p all ≤ k.most_standing) [
        | inl e ↦ let i = eqb-true (k.participant_of x) p e in let h = leb-true _ _ q.0 in rw i at h
        | inr e ↦ let t = ap (λ b. cond b 1 0 + tally k p xs) e in tally_some all p xs q.1 (omega (arith, c, t))
      ]

  pub ordered_means : (xs : List B) → ordered k xs ≡ true → Ordered k xs
  ordered_means xs h =
      let p = and_parts (rising k 0 xs) _ h in
      let q = and_parts (each (known k) xs) _ p.1 in
      record {
        rises = p.0;
        knows = each_all (known k) xs q.0;
        few_each = λ w. elim (cases_lt 0 (tally k w xs)) as (λ _. tally k w xs ≤ k.most_standing) [ inl a ↦ tally_some xs w xs q.1 a | inr a ↦ omega arith ];
      }

  few_all : (all : List B) → ((p : ℕ) → tally k p all ≤ k.most_standing) → (xs : List B) → each (few k all) xs ≡ true
  few_all all f [] = refl
  few_all all f (x ∷ xs) = and_from _ _ (le-leb _ _ (f (k.participant_of x))) (few_all all f xs)

  pub ordered_from : (xs : List B) → Ordered k xs → ordered k xs ≡ true
  ordered_from xs h = and_from _ _ h.rises (and_from _ _ (all_each (known k) xs h.knows) (few_all xs h.few_each xs))

  pub ordered_entered : (b : B) (xs : List B) → Ordered k xs → known k b ≡ true → stands k (k.number_of b) xs ≡ false → tally k (k.participant_of b) xs < k.most_standing → Ordered k (entered k b xs)
  ordered_entered b xs h n s t = record {
    rises = rising_entered 0 b xs (ltb-true _ _ (and_parts _ _ n).0) s h.rises;
    knows = all_entered _ b xs n h.knows;
    few_each = λ p. let e = count_entered k (λ y. eqb (k.participant_of y) p) b xs in let f = h.few_each p in
        elim (cases_Bool (eqb (k.participant_of b) p)) as (λ _. tally k p (entered k b xs) ≤ k.most_standing) [
          | inl z ↦ let u = ap (λ b. cond b 1 0 + tally k p xs) z in let i = eqb-true (k.participant_of b) p z in let v : tally k p xs < k.most_standing = rw i at t in omega (arith, e, u)
          | inr z ↦ let u = ap (λ b. cond b 1 0 + tally k p xs) z in omega (arith, e, u)
        ];
  }

  pub ordered_without : (m : ℕ) (xs : List B) → Ordered k xs → Ordered k (without k m xs)
  ordered_without m xs h = record {
    rises = rising_without m 0 xs h.rises;
    knows = all_without _ m xs h.knows;
    few_each = λ p. let e = count_without k (λ y. eqb (k.participant_of y) p) m xs in let f = h.few_each p in omega (arith, e, f);
  }
