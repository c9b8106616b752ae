-- Bids that were found in order so far, with a count of the standing bids of each participant.
use Rattle.std.proofs.Common.{◌≡◌, ℕ, ◌+◌, ◌<◌, ◌≤◌, Bool, true, false, cond, ◌&&◌, eqb, ltb, leb, ◌≢◌, List, ◌∷◌, length, get_or, take, drop, set, replicate, sym, refl, ap, ◌∙◌, subst, inl, inr, arith, length-set, take_all, get_or-set_other, get_or-set_same}
use lib.ListN.{length-replicate, get_or-replicate}
use Rattle.std.proofs.lemmas.List.{at_drop_all}
use Rattle.std.proofs.lemmas.Bool.{and_parts, and_right, lt-ltb, leb-true, lt-leb, eq-eqb, ne_eqb, cases_eq}
use Rattle.bids.specs.Kinds.{Kind}
use Rattle.register.specs.Order.{each, tally, rising, known, few, ordered}
use Rattle.register.proofs.Each.{next_of, each_stop}
use Rattle.register.proofs.Tallies.{count_more, count_front}
use Rattle.register.proofs.Laws.{each_all, ordered_from}

module _ {B : Type 0} (k : Kind B) where
  -- a bid of the participant p
  abbrev of : ℕ → B → Bool
  of p y = eqb (k.participant_of y) p

  -- the first i bids are in order, the last of them has the number `last`, and each participant has as many as counted
  pub record Counted (xs : List B) (i last : ℕ) (counts : List ℕ) : Type 0 where
    pub rises : rising k last (drop i xs) ≡ rising k 0 xs
    pub knows : each (known k) (drop i xs) ≡ each (known k) xs
    pub counted : (p : ℕ) → p < 1000 → get_or counts p 0 ≡ tally k p (take i xs)
    pub few_each : (p : ℕ) → tally k p (take i xs) ≤ k.most_standing
    pub long : length counts ≡ 1000

  pub counted_none : (xs : List B) → Counted xs 0 0 (replicate 1000 0)
  counted_none xs = record {
    rises = refl;
    knows = refl;
    counted = λ p b. get_or-replicate {A = ℕ} 1000 p 0 0 b;
    few_each = λ p. omega arith;
    long = length-replicate {A = ℕ} 1000 0;
  }

  module _ (xs : List B) (i last : ℕ) (counts : List ℕ) (s : Counted xs i last counts) where
    pub counted_all : length xs ≤ i → ordered k xs ≡ true
    counted_all h = ordered_from k xs (record {
      rises = sym s.rises ∙ at_drop_all (rising k last) xs i h;
      knows = each_all (known k) xs (sym s.knows ∙ at_drop_all (each (known k)) xs i h);
      few_each = λ p. let e = ap (tally k p) (take_all i xs h) in let f = s.few_each p in omega (arith, e, f);
    })

    module _ (x : B) (l : i < length xs) (e : x ≡ get_or xs i x) where
      next : drop i xs ≡ x ∷ drop (i + 1) xs
      next = next_of xs i x l e

      participant_below : known k x ≡ true → k.participant_of x < 1000
      participant_below h =
          let p = and_parts (ltb 0 (k.number_of x)) _ h in let q = and_parts (leb (k.number_of x) 60000) _ p.1 in let r = and_parts (ltb 0 (k.participant_of x)) _ q.1 in
          let t = leb-true (k.participant_of x) 999 r.1 in omega (arith, t)

      pub stop_few : known k x ≡ true → k.most_standing ≤ get_or counts (k.participant_of x) 0 → ordered k xs ≡ false
      stop_few h m =
          let p = k.participant_of x in
          let c = s.counted p (participant_below h) in
          let n = count_more (of p) xs i x l e in
          let o : ◌≡◌ {A = ℕ} (cond (eqb p p) 1 0) 1 = ap (λ b. cond b 1 0) (eq-eqb p p refl) in
          let f = count_front (of p) xs (i + 1) in
          let g : few k xs x ≡ false = lt-leb (tally k p xs) k.most_standing (omega (arith, c, n, o, f, m)) in
          and_right (rising k 0 xs) _ (and_right (each (known k) xs) _ (each_stop (few k xs) xs i x l e g))

      pub counted_more : last < k.number_of x → known k x ≡ true → get_or counts (k.participant_of x) 0 < k.most_standing → Counted xs (i + 1) (k.number_of x) (set counts (k.participant_of x) (get_or counts (k.participant_of x) 0 + 1))
      counted_more h w m =
          let q = k.participant_of x in
          let low = participant_below w in
          record {
            rises = sym (ap (rising k last) next ∙ ap (λ b. b && rising k (k.number_of x) (drop (i + 1) xs)) (lt-ltb last (k.number_of x) h)) ∙ s.rises;
            knows = sym (ap (each (known k)) next ∙ ap (λ b. b && each (known k) (drop (i + 1) xs)) w) ∙ s.knows;
            counted = λ p b. elim (cases_eq q p) as (λ _. get_or (set counts q (get_or counts q 0 + 1)) p 0 ≡ tally k p (take (i + 1) xs)) [
              | inl z ↦
                  let n = count_more (of p) xs i x l e in
                  let o : ◌≡◌ {A = ℕ} (cond (eqb q p) 1 0) 1 = ap (λ b. cond b 1 0) (eq-eqb q p z) in
                  let c = s.counted p b in
                  let r : get_or (set counts q (get_or counts q 0 + 1)) q 0 ≡ get_or counts q 0 + 1 = let lt : q < length counts = let t = s.long in omega (arith, t, low) in rw get_or-set_same in
                  let r2 = subst (λ j. get_or (set counts q (get_or counts q 0 + 1)) j 0 ≡ get_or counts j 0 + 1) z r in
                  omega (arith, n, o, c, r2)
              | inr z ↦
                  let n = count_more (of p) xs i x l e in
                  let o : ◌≡◌ {A = ℕ} (cond (eqb q p) 1 0) 0 = ap (λ b. cond b 1 0) (ne_eqb q p z) in
                  let c = s.counted p b in
                  let r : get_or (set counts q (get_or counts q 0 + 1)) p 0 ≡ get_or counts p 0 = let ne : p ≢ q = λ y. z (sym y) in rw get_or-set_other in
                  omega (arith, n, o, c, r)
            ];
            few_each = λ p.
                let n = count_more (of p) xs i x l e in
                let f = s.few_each p in
                elim (cases_eq q p) as (λ _. tally k p (take (i + 1) xs) ≤ k.most_standing) [
                  | inl z ↦
                      let o : ◌≡◌ {A = ℕ} (cond (eqb q p) 1 0) 1 = ap (λ b. cond b 1 0) (eq-eqb q p z) in
                      let c = s.counted q low in
                      let d = subst (λ j. get_or counts q 0 ≡ tally k j (take i xs)) z c in
                      omega (arith, n, o, d, m)
                  | inr z ↦ let o : ◌≡◌ {A = ℕ} (cond (eqb q p) 1 0) 0 = ap (λ b. cond b 1 0) (ne_eqb q p z) in omega (arith, n, o, f)
                ];
            long = length-set counts q (get_or counts q 0 + 1) ∙ s.long;
          }
