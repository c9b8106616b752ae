-- Blocks whose families were found right so far, with a count of the blocks on each lower level of each family.
use Rattle.std.proofs.Common.{◌≡◌, ℕ, ◌+◌, ◌-◌, ◌*◌, ◌<◌, ◌≤◌, Bool, true, false, cond, ◌&&◌, eqb, leb, ◌≢◌, List, [], ◌∷◌, length, get_or, take, drop, set, replicate, is_some, Some, None, Option, sym, refl, ap, ◌∙◌, subst, inl, inr, arith, length-set, take_all, get_or-set_other, get_or-set_same}
use lib.ListN.{length-replicate, get_or-replicate}
use Rattle.std.proofs.lemmas.List.{at_drop_all}
use Rattle.std.proofs.lemmas.Bool.{false≢true, and_parts, and_from, and_left, and_right, lt-leb, le-leb, eqb-true, eq-eqb, ne_eqb, cases_Bool, cases_eq, cases_lt}
use Rattle.std.proofs.lemmas.Bool.Decides.{nat_tests}
use Rattle.bids.specs.declared.rows.BlockBid.{BlockBid}
use Rattle.register.specs.Order.{each}
use Rattle.register.specs.Families.{rank, is_rank, level_count, parent_kept, family_fits, family_kept, families_kept}
use Rattle.register.specs.declared.families.Rank.{Rank}
use Rattle.register.proofs.Each.{next_of, each_stop}
use Rattle.register.proofs.Tallies.{count_more, count_front}
use Rattle.register.proofs.FamiliesRanks.{rank_bound}

-- a block on the level l below the head of the number h
abbrev at_rank : List BlockBid → ℕ → ℕ → BlockBid → Bool
at_rank all l h x = is_rank l h (rank all x)

-- the places of a family's two counts
place_first : (v g h : ℕ) → 0 < v → v ≤ 2 → eqb (2 * g + v - 1) (2 * h) ≡ (eqb v 1 && eqb g h)
place_first v g h a b = grind (arith, nat_tests)

place_second : (v g h : ℕ) → 0 < v → v ≤ 2 → eqb (2 * g + v - 1) (2 * h + 1) ≡ (eqb v 2 && eqb g h)
place_second v g h a b = grind (arith, nat_tests)

-- a block is on at most one level, on none of the lower two where it is a head, on none of another family, and on one of them below its own head
pub at_most_one : (v : ℕ) (t : Bool) → cond (eqb v 1 && t) 1 0 + cond (eqb v 2 && t) 1 0 ≤ 1
at_most_one v t = grind (arith, nat_tests, cases_Bool t)

pub none_at_top : (v : ℕ) (t : Bool) → v ≡ 0 → (◌≡◌ {A = ℕ} (cond (eqb v 1 && t) 1 0) 0) × (◌≡◌ {A = ℕ} (cond (eqb v 2 && t) 1 0) 0)
none_at_top v t e = (grind (arith, nat_tests), grind (arith, nat_tests))

pub none_elsewhere : (v g h : ℕ) → (g ≡ h → ⊥) → (◌≡◌ {A = ℕ} (cond (eqb v 1 && eqb g h) 1 0) 0) × (◌≡◌ {A = ℕ} (cond (eqb v 2 && eqb g h) 1 0) 0)
none_elsewhere v g h n = (grind (arith, nat_tests), grind (arith, nat_tests))

one_below : (v g : ℕ) → 0 < v → v ≤ 2 → cond (eqb v 1 && eqb g g) 1 0 + cond (eqb v 2 && eqb g g) 1 0 ≡ 1
one_below v g a b = grind (arith, nat_tests)

-- one more is counted at a place
set_more : (counts : List ℕ) (p j : ℕ) → p < length counts → get_or (set counts p (get_or counts p 0 + 1)) j 0 ≡ cond (eqb p j) 1 0 + get_or counts j 0
set_more counts p j b =
    elim (cases_eq p j) as (λ _. get_or (set counts p (get_or counts p 0 + 1)) j 0 ≡ cond (eqb p j) 1 0 + get_or counts j 0) [
      | inl z ↦
          let o : ◌≡◌ {A = ℕ} (cond (eqb p j) 1 0) 1 = ap (λ t. cond t 1 0) (eq-eqb p j z) in
          let r : get_or (set counts p (get_or counts p 0 + 1)) p 0 ≡ get_or counts p 0 + 1 = rw get_or-set_same in
          let s = subst (λ m. get_or (set counts p (get_or counts p 0 + 1)) m 0 ≡ get_or counts m 0 + 1) z r in
          omega (arith, o, s)
      | inr z ↦
          let o : ◌≡◌ {A = ℕ} (cond (eqb p j) 1 0) 0 = ap (λ t. cond t 1 0) (ne_eqb p j z) in
          let r : get_or (set counts p (get_or counts p 0 + 1)) j 0 ≡ get_or counts j 0 = let ne : j ≢ p = λ y. z (sym y) in rw get_or-set_other in
          omega (arith, o, r)
    ]

-- a block is on one of three levels
abbrev pub ranked : List BlockBid → BlockBid → Bool
ranked all x = is_some (rank all x)

-- a family that keeps its limits, by the rank of one of its blocks
abbrev pub kept_by : List BlockBid → Option Rank → Bool
kept_by all o = elim o [ None ↦ false | Some r ↦ family_fits all r.head ]

kept_of : (all : List BlockBid) (o : Option Rank) → is_some o ≡ true → ((h : ℕ) → family_fits all h ≡ true) → kept_by all o ≡ true
kept_of all None e f = absurd (false≢true e)
kept_of all (Some r) e f = f r.head

pub kept_each : (all : List BlockBid) → ((h : ℕ) → family_fits all h ≡ true) → (xs : List BlockBid) → each (ranked all) xs ≡ true → each (family_kept all) xs ≡ true
kept_each all f [] e = refl
kept_each all f (x ∷ xs) e = let p = and_parts (ranked all x) (each (ranked all) xs) e in and_from _ _ (kept_of all (rank all x) p.0 f) (kept_each all f xs p.1)

pub fits_from : (all : List BlockBid) (h : ℕ) → level_count all 1 h all ≤ 3 → level_count all 2 h all ≤ 3 → level_count all 1 h all + level_count all 2 h all ≤ 5 → family_fits all h ≡ true
fits_from all h a b c = and_from _ _ (le-leb _ _ a) (and_from _ _ (le-leb _ _ b) (le-leb _ _ c))

-- a family with a fourth block on a level, or with a seventh block
breaks_first : (all : List BlockBid) (h : ℕ) → 3 < level_count all 1 h all → family_fits all h ≡ false
breaks_first all h a = and_left _ _ (lt-leb _ _ a)

breaks_second : (all : List BlockBid) (h : ℕ) → 3 < level_count all 2 h all → family_fits all h ≡ false
breaks_second all h a = and_right _ _ (and_left _ _ (lt-leb _ _ a))

breaks_whole : (all : List BlockBid) (h : ℕ) → 5 < level_count all 1 h all + level_count all 2 h all → family_fits all h ≡ false
breaks_whole all h a = and_right (leb (level_count all 1 h all) 3) _ (and_right (leb (level_count all 2 h all) 3) _ (lt-leb _ _ a))

-- the first i blocks have parents that fit and a rank, and on each lower level of a family there are as many of them as counted, and few enough
pub record Tallied (all : List BlockBid) (i : ℕ) (counts : List ℕ) : Type 0 where
  pub parents : each (parent_kept all) (drop i all) ≡ each (parent_kept all) all
  pub ranks : each (ranked all) (drop i all) ≡ each (ranked all) all
  pub first : (h : ℕ) → h < 65536 → get_or counts (2 * h) 0 ≡ level_count all 1 h (take i all)
  pub second : (h : ℕ) → h < 65536 → get_or counts (2 * h + 1) 0 ≡ level_count all 2 h (take i all)
  pub low : (h : ℕ) → level_count all 1 h (take i all) ≤ 3
  pub lower : (h : ℕ) → level_count all 2 h (take i all) ≤ 3
  pub few : (h : ℕ) → level_count all 1 h (take i all) + level_count all 2 h (take i all) ≤ 5
  pub long : length counts ≡ 131072

pub tallied_none : (all : List BlockBid) (n : ℕ) → n ≡ 131072 → Tallied all 0 (replicate n 0)
tallied_none all n e = record {
  parents = refl;
  ranks = refl;
  first = λ h b. get_or-replicate {A = ℕ} n (2 * h) 0 0 (omega arith);
  second = λ h b. get_or-replicate {A = ℕ} n (2 * h + 1) 0 0 (omega arith);
  low = λ h. omega arith;
  lower = λ h. omega arith;
  few = λ h. omega arith;
  long = length-replicate {A = ℕ} n 0 ∙ e;
}

module _ (all : List BlockBid) (i : ℕ) (counts : List ℕ) (s : Tallied all i counts) where
  pub tallied_all : length all ≤ i → families_kept all ≡ true
  tallied_all h =
      and_from _ _ (sym s.parents ∙ at_drop_all (each (parent_kept all)) all i h)
      (kept_each all (λ g.
      let a = ap (level_count all 1 g) (take_all i all h) in let b = ap (level_count all 2 g) (take_all i all h) in
      let c = s.low g in let d = s.lower g in let f = s.few g in
      fits_from all g (omega arith) (omega arith) (omega arith)) all (sym s.ranks ∙ at_drop_all (each (ranked all)) all i h))

  module _ (x : BlockBid) (l : i < length all) (e : x ≡ get_or all i x) where
    next : drop i all ≡ x ∷ drop (i + 1) all
    next = next_of all i x l e

    module _ (r : Rank) (told : Some r ≡ rank all x) where
      is : rank all x ≡ Some r
      is = sym told

      more : (m h : ℕ) → level_count all m h (take (i + 1) all) ≡ cond (eqb r.level m && eqb r.head h) 1 0 + level_count all m h (take i all)
      more m h = count_more (at_rank all m h) all i x l e ∙ ap (λ o. cond (is_rank m h o) 1 0 + level_count all m h (take i all)) is

      stop_fits : family_fits all r.head ≡ false → false ≡ families_kept all
      stop_fits h = sym (and_right _ _ (each_stop (family_kept all) all i x l e (ap (kept_by all) is ∙ h)))

      step : (counts2 : List ℕ) → parent_kept all x ≡ true → length counts2 ≡ 131072
          → ((h : ℕ) → h < 65536 → get_or counts2 (2 * h) 0 ≡ cond (eqb r.level 1 && eqb r.head h) 1 0 + get_or counts (2 * h) 0)
          → ((h : ℕ) → h < 65536 → get_or counts2 (2 * h + 1) 0 ≡ cond (eqb r.level 2 && eqb r.head h) 1 0 + get_or counts (2 * h + 1) 0)
          → (r.level ≡ 1 → level_count all 1 r.head (take i all) < 3)
          → (r.level ≡ 2 → level_count all 2 r.head (take i all) < 3)
          → (0 < r.level → level_count all 1 r.head (take i all) + level_count all 2 r.head (take i all) < 5)
          → Tallied all (i + 1) counts2
      step counts2 k n c1 c2 b1 b2 b3 = record {
        parents = sym (ap (each (parent_kept all)) next ∙ ap (λ t. t && each (parent_kept all) (drop (i + 1) all)) k) ∙ s.parents;
        ranks = sym (ap (each (ranked all)) next ∙ ap (λ o. is_some o && each (ranked all) (drop (i + 1) all)) is) ∙ s.ranks;
        first = λ h b. let a = s.first h b in let c = c1 h b in let d = more 1 h in omega arith;
        second = λ h b. let a = s.second h b in let c = c2 h b in let d = more 2 h in omega arith;
        low = λ h.
            let d = more 1 h in let a = s.low h in
            elim (cases_Bool (eqb r.level 1 && eqb r.head h)) as (λ _. level_count all 1 h (take (i + 1) all) ≤ 3) [
              | inl z ↦
                  let p = and_parts (eqb r.level 1) (eqb r.head h) z in
                  let f = subst (λ j. level_count all 1 j (take i all) < 3) (eqb-true _ _ p.1) (b1 (eqb-true _ _ p.0)) in
                  let o : ◌≡◌ {A = ℕ} (cond (eqb r.level 1 && eqb r.head h) 1 0) 1 = ap (λ t. cond t 1 0) z in
                  omega arith
              | inr z ↦ let o : ◌≡◌ {A = ℕ} (cond (eqb r.level 1 && eqb r.head h) 1 0) 0 = ap (λ t. cond t 1 0) z in omega arith
            ];
        lower = λ h.
            let d = more 2 h in let a = s.lower h in
            elim (cases_Bool (eqb r.level 2 && eqb r.head h)) as (λ _. level_count all 2 h (take (i + 1) all) ≤ 3) [
              | inl z ↦
                  let p = and_parts (eqb r.level 2) (eqb r.head h) z in
                  let f = subst (λ j. level_count all 2 j (take i all) < 3) (eqb-true _ _ p.1) (b2 (eqb-true _ _ p.0)) in
                  let o : ◌≡◌ {A = ℕ} (cond (eqb r.level 2 && eqb r.head h) 1 0) 1 = ap (λ t. cond t 1 0) z in
                  omega arith
              | inr z ↦ let o : ◌≡◌ {A = ℕ} (cond (eqb r.level 2 && eqb r.head h) 1 0) 0 = ap (λ t. cond t 1 0) z in omega arith
            ];
        few = λ h.
            let d1 = more 1 h in let d2 = more 2 h in let a = s.few h in
            elim (cases_eq r.head h) as (λ _. level_count all 1 h (take (i + 1) all) + level_count all 2 h (take (i + 1) all) ≤ 5) [
              | inl z ↦
                  elim (cases_lt 0 r.level) as (λ _. level_count all 1 h (take (i + 1) all) + level_count all 2 h (take (i + 1) all) ≤ 5) [
                    | inl v ↦
                        let f = subst (λ j. level_count all 1 j (take i all) + level_count all 2 j (take i all) < 5) z (b3 v) in
                        let o = at_most_one r.level (eqb r.head h) in
                        omega arith
                    | inr v ↦ let o = none_at_top r.level (eqb r.head h) (omega arith) in omega arith
                  ]
              | inr z ↦ let o = none_elsewhere r.level r.head h z in omega arith
            ];
        long = n;
      }

      -- a head needs no count
      pub tallied_head : true ≡ parent_kept all x → r.level ≡ 0 → Tallied all (i + 1) counts
      tallied_head k v =
          step counts (sym k) s.long (λ h b. let o = none_at_top r.level (eqb r.head h) v in omega arith) (λ h b. let o = none_at_top r.level (eqb r.head h) v in omega arith) (λ q. absurd (omega arith)) (λ q. absurd (omega arith)) (λ q. absurd (omega arith))

      module _ (some : 0 < r.level) (small : r.head < 65536) where
        most : r.level ≤ 2
        most = rank_bound 2 all 0 x r is

        place_within : 2 * r.head + r.level - 1 < length counts
        place_within = let m = most in let n = s.long in omega arith

        -- a block on a lower level is counted
        pub tallied_more : true ≡ parent_kept all x → get_or counts (2 * r.head + r.level - 1) 0 < 3 → get_or counts (2 * r.head) 0 + get_or counts (2 * r.head + 1) 0 < 5 → Tallied all (i + 1) (set counts (2 * r.head + r.level - 1) (get_or counts (2 * r.head + r.level - 1) 0 + 1))
        tallied_more k a b =
            let m = most in
            let f = s.first r.head small in let g = s.second r.head small in
            step (set counts (2 * r.head + r.level - 1) (get_or counts (2 * r.head + r.level - 1) 0 + 1)) (sym k) (length-set counts (2 * r.head + r.level - 1) _ ∙ s.long)
            (λ h c. set_more counts (2 * r.head + r.level - 1) (2 * h) place_within ∙ ap (λ t. cond t 1 0 + get_or counts (2 * h) 0) (place_first r.level r.head h some most))
            (λ h c. set_more counts (2 * r.head + r.level - 1) (2 * h + 1) place_within ∙ ap (λ t. cond t 1 0 + get_or counts (2 * h + 1) 0) (place_second r.level r.head h some most))
            (λ q. let p : 2 * r.head + r.level - 1 ≡ 2 * r.head = omega arith in let z = ap (λ j. get_or counts j 0) p in omega arith)
            (λ q. let p : 2 * r.head + r.level - 1 ≡ 2 * r.head + 1 = omega arith in let z = ap (λ j. get_or counts j 0) p in omega arith)
            (λ q. omega arith)

        -- a fourth on its level
        pub stop_level : 3 ≤ get_or counts (2 * r.head + r.level - 1) 0 → false ≡ families_kept all
        stop_level a =
            let m = most in
            elim (cases_eq r.level 1) as (λ _. false ≡ families_kept all) [
              | inl v ↦
                  let p : 2 * r.head + r.level - 1 ≡ 2 * r.head = omega arith in let z = ap (λ j. get_or counts j 0) p in
                  let f = s.first r.head small in let d = more 1 r.head in let u = count_front (at_rank all 1 r.head) all (i + 1) in
                  let o : ◌≡◌ {A = ℕ} (cond (eqb r.level 1 && eqb r.head r.head) 1 0) 1 = ap (λ t. cond t 1 0) (and_from _ _ (eq-eqb _ _ v) (eq-eqb r.head r.head refl)) in
                  stop_fits (breaks_first all r.head (omega arith))
              | inr v ↦
                  let p : 2 * r.head + r.level - 1 ≡ 2 * r.head + 1 = omega arith in let z = ap (λ j. get_or counts j 0) p in
                  let f = s.second r.head small in let d = more 2 r.head in let u = count_front (at_rank all 2 r.head) all (i + 1) in
                  let w : r.level ≡ 2 = omega arith in
                  let o : ◌≡◌ {A = ℕ} (cond (eqb r.level 2 && eqb r.head r.head) 1 0) 1 = ap (λ t. cond t 1 0) (and_from _ _ (eq-eqb _ _ w) (eq-eqb r.head r.head refl)) in
                  stop_fits (breaks_second all r.head (omega arith))
            ]

        -- a sixth below its head
        pub stop_few : 5 ≤ get_or counts (2 * r.head) 0 + get_or counts (2 * r.head + 1) 0 → false ≡ families_kept all
        stop_few a =
            let m = most in
            let f = s.first r.head small in let d = more 1 r.head in let u = count_front (at_rank all 1 r.head) all (i + 1) in
            let f2 = s.second r.head small in let d2 = more 2 r.head in let u2 = count_front (at_rank all 2 r.head) all (i + 1) in
            let o = one_below r.level r.head some most in
            stop_fits (breaks_whole all r.head (omega arith))
