-- The hours of hourly bids: what a loop has marked as taken, and what entering and withdrawing leave.
use Rattle.std.proofs.Common.{◌≡◌, ℕ, zero, suc, ◌+◌, ◌*◌, ◌<◌, Bool, true, false, not, ◌&&◌, ◌||◌, eqb, ltb, leb, ◌≢◌, List, [], ◌∷◌, ◌++◌, length, get_or, take, drop, set, replicate, sym, refl, ap, ◌∙◌, subst, inl, inr, arith, length-set, get_or-set_other, get_or-set_same}
use lib.ListN.{length-replicate, get_or-replicate}
use Rattle.std.proofs.lemmas.List.{take_more}
use Rattle.std.proofs.lemmas.List.Folds.{list_any-append}
use Rattle.std.proofs.lemmas.Bool.{and_parts, and_from, and_right, or_parts, or_from, or_left, or_right, leb-true, eqb-true, eq-eqb, ne_eqb, cases_Bool, cases_eq, cond_both, both_ways, not-true, not_from_false}
use Rattle.bids.specs.declared.rows.HourlyBid.{HourlyBid}
use Rattle.bids.specs.Registers.{hourly}
use Rattle.register.specs.Order.{each, known, entered, without}
use Rattle.register.specs.Hours.{in_hour, hour_taken, apart, hour_right, hours_kept}
use Rattle.register.proofs.Laws.{each_all, all_each, all_entered, all_without}
use Rattle.register.proofs.Each.{each_goes, each_at}

eqb_same : (a b : ℕ) → eqb a b ≡ eqb b a
eqb_same a b = elim (cases_eq a b) as (λ _. eqb a b ≡ eqb b a) [ inl e ↦ eq-eqb a b e ∙ sym (eq-eqb b a (sym e)) | inr n ↦ ne_eqb a b n ∙ sym (ne_eqb b a (λ e. n (sym e))) ]

-- the same four tests, in another order
four : (a b c d : Bool) → (not (a || (b || false)) && (c && not d)) ≡ ((not a && c) && not (b || d))
four true b c d = refl
four false true true true = refl
four false true true false = refl
four false true false d = refl
four false false true d = refl
four false false false d = refl

or_none : (a b : Bool) → b ≡ false → (a || b) ≡ a
or_none true b h = refl
or_none false b h = h

module _ {C : Type 0} where
  in_hour_same : (x y : HourlyBid C) → in_hour x.participant x.hour y ≡ in_hour y.participant y.hour x
  in_hour_same x y = ap (λ b. b && eqb y.hour x.hour) (eqb_same y.participant x.participant) ∙ ap (λ b. eqb x.participant y.participant && b) (eqb_same y.hour x.hour)

  apart_push : (ys : List (HourlyBid C)) (x : HourlyBid C) → apart (ys ++ x ∷ []) ≡ (apart ys && not (hour_taken x.participant x.hour ys))
  apart_push [] x = refl
  apart_push (y ∷ ys) x =
      ap (λ b. not b && apart (ys ++ x ∷ [])) (list_any-append (in_hour y.participant y.hour) ys (x ∷ []))
      ∙ ap (λ b. not (hour_taken y.participant y.hour ys || (in_hour y.participant y.hour x || false)) && b) (apart_push ys x)
      ∙ four (hour_taken y.participant y.hour ys) (in_hour y.participant y.hour x) (apart ys) (hour_taken x.participant x.hour ys)
      ∙ ap (λ b. (not (hour_taken y.participant y.hour ys) && apart ys) && not (b || hour_taken x.participant x.hour ys)) (in_hour_same y x)

  taken_front : (p h : ℕ) (xs : List (HourlyBid C)) (i : ℕ) → hour_taken p h xs ≡ false → hour_taken p h (take i xs) ≡ false
  taken_front p h [] zero e = refl
  taken_front p h [] (suc i) e = refl
  taken_front p h (x ∷ xs) zero e = refl
  taken_front p h (x ∷ xs) (suc i) e = let q = or_parts (in_hour p h x) (hour_taken p h xs) e in or_from _ _ q.0 (taken_front p h xs i q.1)

  apart_front : (xs : List (HourlyBid C)) (i : ℕ) → apart xs ≡ true → apart (take i xs) ≡ true
  apart_front [] zero e = refl
  apart_front [] (suc i) e = refl
  apart_front (x ∷ xs) zero e = refl
  apart_front (x ∷ xs) (suc i) e =
      let q = and_parts (not (hour_taken x.participant x.hour xs)) (apart xs) e in
      and_from _ _ (not_from_false _ (taken_front x.participant x.hour xs i (not-true _ q.0))) (apart_front xs i q.1)

  -- the participants of known bids are below 1,000
  pub participant_below : (xs : List (HourlyBid C)) (i : ℕ) (x : HourlyBid C) → each (known hourly) xs ≡ true → i < length xs → x ≡ get_or xs i x → x.participant < 1000
  participant_below xs i x h l e =
      let k = each_at (known hourly) xs i x h l e in
      let p = and_parts (ltb 0 x.number) _ k in let q = and_parts (leb x.number 60000) _ p.1 in let r = and_parts (ltb 0 x.participant) _ q.1 in
      let t = leb-true x.participant 999 r.1 in omega (arith, t)

  -- the first i bids are in hours of the day and apart, and their hours are marked
  pub record Marked (xs : List (HourlyBid C)) (i : ℕ) (taken : List Bool) : Type 0 where
    pub right : each hour_right (drop i xs) ≡ each hour_right xs
    pub so_far : apart (take i xs) ≡ true
    pub marks : (p h : ℕ) → p < 1000 → h < 24 → get_or taken (p * 24 + h) false ≡ hour_taken p h (take i xs)
    pub long : length taken ≡ 24000

  pub marked_none : (xs : List (HourlyBid C)) (n : ℕ) → n ≡ 24000 → Marked xs 0 (replicate n false)
  marked_none xs n e = record {
    right = refl;
    so_far = refl;
    marks = λ p h lp lh. get_or-replicate n (p * 24 + h) false false (omega arith);
    long = length-replicate n false ∙ e;
  }

  module _ (xs : List (HourlyBid C)) (i : ℕ) (taken : List Bool) (s : Marked xs i taken) where
    module _ (x : HourlyBid C) (l : i < length xs) (e : x ≡ get_or xs i x) where
      grown : take (i + 1) xs ≡ take i xs ++ x ∷ []
      grown = take_more xs i x l ∙ ap (λ y. take i xs ++ y ∷ []) (sym e)

      pub stop_taken : x.participant < 1000 → x.hour < 24 → get_or taken (x.participant * 24 + x.hour) false ≡ true → hours_kept xs ≡ false
      stop_taken lp lh m =
          let t : hour_taken x.participant x.hour (take i xs) ≡ true = sym (s.marks x.participant x.hour lp lh) ∙ m in
          let f : apart (take (i + 1) xs) ≡ false = ap apart grown ∙ apart_push (take i xs) x ∙ and_right (apart (take i xs)) _ (ap not t) in
          and_right (each hour_right xs) (apart xs) (elim (cases_Bool (apart xs)) as (λ _. apart xs ≡ false) [ inl a ↦ absurd (both_ways _ f (apart_front xs (i + 1) a)) | inr a ↦ a ])

      pub marked_more : x.participant < 1000 → hour_right x ≡ true → get_or taken (x.participant * 24 + x.hour) false ≡ false → Marked xs (i + 1) (set taken (x.participant * 24 + x.hour) true)
      marked_more lp r m =
          let lh : x.hour < 24 = let q = leb-true x.hour 23 r in omega (arith, q) in
          let t : hour_taken x.participant x.hour (take i xs) ≡ false = sym (s.marks x.participant x.hour lp lh) ∙ m in
          record {
            right = each_goes hour_right xs i x l e r s.right;
            so_far = ap apart grown ∙ apart_push (take i xs) x ∙ and_from _ _ s.so_far (not_from_false _ t);
            marks = λ p h bp bh.
                let g = ap (hour_taken p h) grown ∙ list_any-append (in_hour p h) (take i xs) (x ∷ []) in
                let w = s.marks p h bp bh in
                elim (cases_eq (x.participant * 24 + x.hour) (p * 24 + h)) as (λ _. get_or (set taken (x.participant * 24 + x.hour) true) (p * 24 + h) false ≡ hour_taken p h (take (i + 1) xs)) [
                  | inl z ↦
                      let ep : x.participant ≡ p = omega (arith, z, lh, bh) in
                      let eh : x.hour ≡ h = omega (arith, z, lh, bh) in
                      let here : in_hour p h x ≡ true = and_from _ _ (eq-eqb _ _ ep) (eq-eqb _ _ eh) in
                      let lt : p * 24 + h < length taken = let n = s.long in omega (arith, n) in
                      let st : get_or (set taken (p * 24 + h) true) (p * 24 + h) false ≡ true = rw get_or-set_same in
                      subst (λ j. get_or (set taken j true) (p * 24 + h) false ≡ true) (sym z) st ∙ sym (g ∙ or_right (hour_taken p h (take i xs)) _ (or_left (in_hour p h x) false here))
                  | inr z ↦
                      let ne : p * 24 + h ≢ x.participant * 24 + x.hour = λ y. z (sym y) in
                      let st : get_or (set taken (x.participant * 24 + x.hour) true) (p * 24 + h) false ≡ get_or taken (p * 24 + h) false = rw get_or-set_other in
                      let there : in_hour p h x ≡ false = elim (cases_Bool (in_hour p h x)) as (λ _. in_hour p h x ≡ false) [
                        | inl a ↦
                            let q = and_parts (eqb x.participant p) (eqb x.hour h) a in
                            let ep = eqb-true _ _ q.0 in let eh = eqb-true _ _ q.1 in
                            absurd (z (omega (arith, ep, eh)))
                        | inr a ↦ a
                      ] in
                      st ∙ w ∙ sym (g ∙ or_none (hour_taken p h (take i xs)) _ (or_from _ _ there refl))
                ];
            long = length-set taken (x.participant * 24 + x.hour) true ∙ s.long;
          }

  taken_entered : (p h : ℕ) (b : HourlyBid C) (xs : List (HourlyBid C)) → in_hour p h b ≡ false → hour_taken p h xs ≡ false → hour_taken p h (entered hourly b xs) ≡ false
  taken_entered p h b [] f g = or_from _ _ f refl
  taken_entered p h b (x ∷ xs) f g =
      let q = or_parts (in_hour p h x) (hour_taken p h xs) g in
      cond_both (ltb x.number b.number) (x ∷ entered hourly b xs) (b ∷ x ∷ xs) (λ ys. hour_taken p h ys ≡ false) (λ _. or_from _ _ q.0 (taken_entered p h b xs f q.1)) (λ _. or_from _ _ f g)

  apart_entered : (b : HourlyBid C) (xs : List (HourlyBid C)) → hour_taken b.participant b.hour xs ≡ false → apart xs ≡ true → apart (entered hourly b xs) ≡ true
  apart_entered b [] f a = refl
  apart_entered b (x ∷ xs) f a =
      let q = or_parts (in_hour b.participant b.hour x) (hour_taken b.participant b.hour xs) f in
      let r = and_parts (not (hour_taken x.participant x.hour xs)) (apart xs) a in
      cond_both (ltb x.number b.number) (x ∷ entered hourly b xs) (b ∷ x ∷ xs) (λ ys. apart ys ≡ true)
      (λ _. and_from _ _ (not_from_false _ (taken_entered x.participant x.hour b xs (in_hour_same x b ∙ q.0) (not-true _ r.0))) (apart_entered b xs q.1 r.1))
      (λ _. and_from _ _ (not_from_false _ f) a)

  pub hours_entered : (b : HourlyBid C) (xs : List (HourlyBid C)) → hours_kept xs ≡ true → hour_right b ≡ true → hour_taken b.participant b.hour xs ≡ false → hours_kept (entered hourly b xs) ≡ true
  hours_entered b xs h r f =
      let p = and_parts (each hour_right xs) (apart xs) h in
      and_from _ _ (all_each hour_right _ (all_entered hourly _ b xs r (each_all hour_right xs p.0))) (apart_entered b xs f p.1)

  taken_without : (p h n : ℕ) (xs : List (HourlyBid C)) → hour_taken p h xs ≡ false → hour_taken p h (without hourly n xs) ≡ false
  taken_without p h n [] f = refl
  taken_without p h n (x ∷ xs) f =
      let q = or_parts (in_hour p h x) (hour_taken p h xs) f in
      cond_both (eqb x.number n) xs (x ∷ without hourly n xs) (λ ys. hour_taken p h ys ≡ false) (λ _. q.1) (λ _. or_from _ _ q.0 (taken_without p h n xs q.1))

  apart_without : (n : ℕ) (xs : List (HourlyBid C)) → apart xs ≡ true → apart (without hourly n xs) ≡ true
  apart_without n [] a = refl
  apart_without n (x ∷ xs) a =
      let r = and_parts (not (hour_taken x.participant x.hour xs)) (apart xs) a in
      cond_both (eqb x.number n) xs (x ∷ without hourly n xs) (λ ys. apart ys ≡ true) (λ _. r.1) (λ _. and_from _ _ (not_from_false _ (taken_without x.participant x.hour n xs (not-true _ r.0))) (apart_without n xs r.1))

  pub hours_without : (n : ℕ) (xs : List (HourlyBid C)) → hours_kept xs ≡ true → hours_kept (without hourly n xs) ≡ true
  hours_without n xs h =
      let p = and_parts (each hour_right xs) (apart xs) h in
      and_from _ _ (all_each hour_right _ (all_without hourly _ n xs (each_all hour_right xs p.0))) (apart_without n xs p.1)
