-- What keeps the families of blocks right: a block that may join is entered, and a block without child is withdrawn.
use Rattle.std.proofs.Common.{◌≡◌, ℕ, zero, suc, ◌+◌, ◌<◌, ◌≤◌, Bool, true, false, cond, ◌&&◌, ◌||◌, eqb, ltb, leb, List, [], ◌∷◌, is_some, Some, None, Option, sym, refl, ap, ◌∙◌, subst, inl, inr, arith}
use Rattle.std.specs.List.{AllByRecursion}
use Rattle.std.proofs.lemmas.Bool.{false≢true, and_parts, and_from, or_cases, or_parts, lt-leb, leb-true, ltb-true, eqb-true, eqb-false, ne_eqb, cond-true, cond-false, cond_both, cases_Bool, cases_eq, cases_lt}
use Rattle.std.proofs.ByRecursion.{All-get_or, All-weaker}
use Rattle.bids.specs.Kinds.{Kind}
use Rattle.bids.specs.declared.rows.BlockBid.{BlockBid}
use Rattle.bids.specs.Registers.{block}
use Rattle.register.specs.Order.{each, stands, standing_as, entered, without}
use Rattle.register.specs.Families.{rank, rank_from, is_rank, level_count, parent_kept, family_fits, family_kept, families_kept, may_join, names_parent, child_stands}
use Rattle.register.specs.Ancestors.{ancestor, NoOwnAncestor}
use Rattle.register.specs.declared.families.Rank.{Rank}
use Rattle.register.proofs.Laws.{each_all, all_each, all_entered, all_without}
use Rattle.register.proofs.Tallies.{count_cons, count_entered, count_without}
use Rattle.register.proofs.FamiliesRanks.{cases_some, some_not_none, kept_parent, kept_found, rank_head, rank_low, rank_gone, rank_up, rank_bound, kept_gone, names_some, names_none}
use Rattle.register.proofs.FamiliesCounted.{ranked, kept_by, kept_each, fits_from, at_most_one, none_at_top, none_elsewhere}

-- two facts of each
pub all_both : {X : Type 0} (P Q : X → Type 0) (xs : List X) → AllByRecursion P xs → AllByRecursion Q xs → AllByRecursion (λ x. P x × Q x) xs
all_both P Q [] a b = tt
all_both P Q (x ∷ xs) a b = ((a.0, b.0), all_both P Q xs a.1 b.1)

-- the bid that stands under a number, by what holds of all, by one entered and by one withdrawn
module _ {B : Type 0} (k : Kind B) where
  pub standing_all : (P : B → Type 0) (n : ℕ) (xs : List B) (y : B) → AllByRecursion P xs → standing_as k n xs ≡ Some y → P y
  standing_all P n [] y a e = absurd (some_not_none {X = B} None y refl e)
  standing_all P n (x ∷ xs) y a e =
      elim (cases_Bool (eqb (k.number_of x) n)) as (λ _. P y) [
        | inl z ↦ let s : x ≡ y = same_some x y (sym (cond-true (eqb (k.number_of x) n) (Some x) (standing_as k n xs) z) ∙ e) in subst P s a.0
        | inr z ↦ standing_all P n xs y a.1 (sym (cond-false (eqb (k.number_of x) n) (Some x) (standing_as k n xs) z) ∙ e)
      ]
    where
      same_some : (x y : B) → ◌≡◌ {A = Option B} (Some x) (Some y) → x ≡ y
      same_some x y e = cc

  pub standing_none : (n : ℕ) (xs : List B) → stands k n xs ≡ false → standing_as k n xs ≡ None
  standing_none n [] s = refl
  standing_none n (x ∷ xs) s = let q = or_parts (eqb (k.number_of x) n) (stands k n xs) s in cond-false (eqb (k.number_of x) n) (Some x) (standing_as k n xs) q.0 ∙ standing_none n xs q.1

  pub standing_entered : (m : ℕ) (b : B) (xs : List B) → (m ≡ k.number_of b → ⊥) → standing_as k m (entered k b xs) ≡ standing_as k m xs
  standing_entered m b [] n = cond-false (eqb (k.number_of b) m) (Some b) None (ne_eqb _ _ (λ z. n (sym z)))
  standing_entered m b (x ∷ xs) n =
      cond_both (ltb (k.number_of x) (k.number_of b)) (x ∷ entered k b xs) (b ∷ x ∷ xs) (λ ys. standing_as k m ys ≡ standing_as k m (x ∷ xs))
      (λ e. ap (λ o. cond (eqb (k.number_of x) m) (Some x) o) (standing_entered m b xs n))
      (λ e. cond-false (eqb (k.number_of b) m) (Some b) (standing_as k m (x ∷ xs)) (ne_eqb _ _ (λ z. n (sym z))))

  pub standing_without : (m n : ℕ) (xs : List B) → (m ≡ n → ⊥) → standing_as k m (without k n xs) ≡ standing_as k m xs
  standing_without m n [] h = refl
  standing_without m n (x ∷ xs) h =
      cond_both (eqb (k.number_of x) n) xs (x ∷ without k n xs) (λ ys. standing_as k m ys ≡ standing_as k m (x ∷ xs))
      (λ e. sym (cond-false (eqb (k.number_of x) m) (Some x) (standing_as k m xs) (ne_eqb _ _ (λ z. h (sym z ∙ eqb-true _ _ e)))))
      (λ e. ap (λ o. cond (eqb (k.number_of x) m) (Some x) o) (standing_without m n xs h))

-- two lists of blocks with the same bid under each number but n, where none of the first names n as its parent
pub record Alike (n : ℕ) (xs ys : List BlockBid) : Type 0 where
  pub same : (m : ℕ) → (m ≡ n → ⊥) → standing_as block m ys ≡ standing_as block m xs
  pub no_child : AllByRecursion (λ x. names_parent n x ≡ false) xs

module _ (n : ℕ) (xs ys : List BlockBid) (a : Alike n xs ys) where
  named_other : (b : BlockBid) (p : ℕ) → names_parent n b ≡ false → b.parent ≡ Some p → p ≡ n → ⊥
  named_other b p h e = eqb-false p n (sym (names_some n b p e) ∙ h)

  -- a block that does not name n has the same parent and the same rank in both
  pub kept_alike : (b : BlockBid) → names_parent n b ≡ false → parent_kept ys b ≡ parent_kept xs b
  kept_alike b h =
      elim (cases_some b.parent) as (λ _. parent_kept ys b ≡ parent_kept xs b) [
        | inl z ↦ ap (kept_parent ys b) z ∙ sym (ap (kept_parent xs b) z)
        | inr z ↦ ap (kept_parent ys b) z.1 ∙ ap (kept_found b) (a.same z.0 (named_other b z.0 h z.1)) ∙ sym (ap (kept_parent xs b) z.1)
      ]

  from_alike : (m l : ℕ) (b : BlockBid) → names_parent n b ≡ false → rank_from m ys l b ≡ rank_from m xs l b
  from_alike zero l b h = refl
  from_alike (suc m) l b h =
      elim (cases_some b.parent) as (λ _. rank_from (suc m) ys l b ≡ rank_from (suc m) xs l b) [
        | inl z ↦ rank_head (suc m) ys l b z ∙ sym (rank_head (suc m) xs l b z)
        | inr z ↦
            let s = a.same z.0 (named_other b z.0 h z.1) in
            elim (cases_some (standing_as block z.0 xs)) as (λ _. rank_from (suc m) ys l b ≡ rank_from (suc m) xs l b) [
              | inl o ↦ rank_gone (suc m) ys l b z.0 z.1 (s ∙ o) ∙ sym (rank_gone (suc m) xs l b z.0 z.1 o)
              | inr o ↦
                  let c = standing_all block (λ x. names_parent n x ≡ false) z.0 xs o.0 a.no_child o.1 in
                  rank_up m ys l b z.0 o.0 z.1 (s ∙ o.1) ∙ from_alike m (l + 1) o.0 c ∙ sym (rank_up m xs l b z.0 o.0 z.1 o.1)
            ]
      ]

  pub rank_alike : (b : BlockBid) → names_parent n b ≡ false → rank ys b ≡ rank xs b
  rank_alike b h = from_alike 2 0 b h

  -- so each level has the same blocks of xs
  levels_alike : (l h : ℕ) (zs : List BlockBid) → AllByRecursion (λ x. names_parent n x ≡ false) zs → level_count ys l h zs ≡ level_count xs l h zs
  levels_alike l h [] c = refl
  levels_alike l h (x ∷ zs) c =
      let r = levels_alike l h zs c.1 in
      let q = ap (λ o. cond (is_rank l h o) 1 0 + level_count ys l h zs) (rank_alike x c.0) in
      let a = count_cons (λ z. is_rank l h (rank ys z)) x zs in
      let b = count_cons (λ z. is_rank l h (rank xs z)) x zs in
      omega (arith, r, q, a, b)

  pub level_alike : (l h : ℕ) → level_count ys l h xs ≡ level_count xs l h xs
  level_alike l h = levels_alike l h xs a.no_child

-- the families of blocks are right, in words: each parent fits, each block has a rank, and no family is too large
pub record Families (xs : List BlockBid) : Type 0 where
  pub parents : AllByRecursion (λ x. parent_kept xs x ≡ true) xs
  pub ranks : AllByRecursion (λ x. ranked xs x ≡ true) xs
  pub fits : (h : ℕ) → family_fits xs h ≡ true

kept_ranked : (all : List BlockBid) (o : Option Rank) → kept_by all o ≡ true → is_some o ≡ true
kept_ranked all None e = e
kept_ranked all (Some r) e = refl

kept_fits : (all : List BlockBid) (l h : ℕ) (o : Option Rank) → kept_by all o ≡ true → is_rank l h o ≡ true → family_fits all h ≡ true
kept_fits all l h None e i = absurd (false≢true i)
kept_fits all l h (Some r) e i = let p = and_parts (eqb r.level l) (eqb r.head h) i in subst (λ g. family_fits all g ≡ true) (eqb-true _ _ p.1) e

-- a family with a block among xs is not too large
level_some : (all : List BlockBid) (l h : ℕ) (xs : List BlockBid) → each (family_kept all) xs ≡ true → 0 < level_count all l h xs → family_fits all h ≡ true
level_some all l h [] a b = absurd (omega arith)
level_some all l h (x ∷ xs) a b =
    let q = and_parts (family_kept all x) (each (family_kept all) xs) a in
    let c = count_cons (λ y. is_rank l h (rank all y)) x xs in
    elim (cases_Bool (is_rank l h (rank all x))) as (λ _. family_fits all h ≡ true) [
      | inl e ↦ kept_fits all l h (rank all x) q.0 e
      | inr e ↦ let t = ap (λ v. cond v 1 0 + level_count all l h xs) e in level_some all l h xs q.1 (omega (arith, c, t))
    ]

pub families_means : (xs : List BlockBid) → families_kept xs ≡ true → Families xs
families_means xs h =
    let p = and_parts (each (parent_kept xs) xs) (each (family_kept xs) xs) h in
    record {
      parents = each_all (parent_kept xs) xs p.0;
      ranks = All-weaker (λ x. family_kept xs x ≡ true) (λ x. ranked xs x ≡ true) (λ x e. kept_ranked xs (rank xs x) e) xs (each_all (family_kept xs) xs p.1);
      fits = λ g.
          elim (cases_lt 0 (level_count xs 1 g xs)) as (λ _. family_fits xs g ≡ true) [
            | inl a ↦ level_some xs 1 g xs p.1 a
            | inr a ↦
                elim (cases_lt 0 (level_count xs 2 g xs)) as (λ _. family_fits xs g ≡ true) [
                  | inl b ↦ level_some xs 2 g xs p.1 b
                  | inr b ↦ fits_from xs g (omega arith) (omega arith) (omega arith)
                ]
          ];
    }

pub families_from : (xs : List BlockBid) → Families xs → families_kept xs ≡ true
families_from xs f = and_from _ _ (all_each (parent_kept xs) xs f.parents) (kept_each xs f.fits xs (all_each (ranked xs) xs f.ranks))

-- a family that fits has at most three blocks on each lower level and at most six in all
pub fits_first : (xs : List BlockBid) (h : ℕ) → family_fits xs h ≡ true → (level_count xs 1 h xs ≤ 3) × (level_count xs 2 h xs ≤ 3) × (level_count xs 1 h xs + level_count xs 2 h xs ≤ 5)
fits_first xs h e =
    let p = and_parts (leb (level_count xs 1 h xs) 3) _ e in
    let q = and_parts (leb (level_count xs 2 h xs) 3) (leb (level_count xs 1 h xs + level_count xs 2 h xs) 5) p.1 in
    (leb-true _ _ p.0, leb-true _ _ q.0, leb-true _ _ q.1)

-- no child stands, in words
no_child_all : (n : ℕ) (xs : List BlockBid) → child_stands n xs ≡ false → AllByRecursion (λ x. names_parent n x ≡ false) xs
no_child_all n [] h = tt
no_child_all n (x ∷ xs) h = let q = or_parts (names_parent n x) (child_stands n xs) h in (q.0, no_child_all n xs q.1)

pub families_without : (n : ℕ) (xs : List BlockBid) → families_kept xs ≡ true → child_stands n xs ≡ false → families_kept (without block n xs) ≡ true
families_without n xs k c =
    let f = families_means xs k in
    let a : Alike n xs (without block n xs) = record { same = λ m h. standing_without block m n xs h; no_child = no_child_all n xs c } in
    families_from (without block n xs) (record {
      parents = all_without block _ n xs (All-weaker (λ x. (names_parent n x ≡ false) × (parent_kept xs x ≡ true)) (λ x. parent_kept (without block n xs) x ≡ true) (λ x h. kept_alike n xs (without block n xs) a x h.0 ∙ h.1) xs (all_both _ _ xs a.no_child f.parents));
      ranks = all_without block _ n xs (All-weaker (λ x. (names_parent n x ≡ false) × (ranked xs x ≡ true)) (λ x. ranked (without block n xs) x ≡ true) (λ x h. ap is_some (rank_alike n xs (without block n xs) a x h.0) ∙ h.1) xs (all_both _ _ xs a.no_child f.ranks));
      fits = λ h.
          let u = level_alike n xs (without block n xs) a 1 h in let v = level_alike n xs (without block n xs) a 2 h in
          let s = count_without block (λ y. is_rank 1 h (rank (without block n xs) y)) n xs in let t = count_without block (λ y. is_rank 2 h (rank (without block n xs) y)) n xs in
          let o = fits_first xs h (f.fits h) in
          fits_from (without block n xs) h (omega (arith, u, s, o)) (omega (arith, v, t, o)) (omega (arith, u, v, s, t, o));
    })

-- no block whose parent stands names a number that does not stand
not_named : (n : ℕ) (xs : List BlockBid) (b : BlockBid) → standing_as block n xs ≡ None → parent_kept xs b ≡ true → names_parent n b ≡ false
not_named n xs b s k =
    elim (cases_some b.parent) as (λ _. names_parent n b ≡ false) [
      | inl z ↦ names_none n b z
      | inr z ↦ names_some n b z.0 z.1 ∙ ne_eqb z.0 n (λ e. false≢true (sym (kept_gone xs b z.0 z.1 (subst (λ m. standing_as block m xs ≡ None) (sym e) s)) ∙ k))
    ]

-- a block that may join has a rank: it is a head, or there is room on its level and in its family
abbrev joins_by : List BlockBid → Option Rank → Bool
joins_by xs o = elim o [ None ↦ false | Some r ↦ leb r.level 0 || (ltb (level_count xs r.level r.head xs) 3 && ltb (level_count xs 1 r.head xs + level_count xs 2 r.head xs) 5) ]

-- a block below a head may join where its level and its family have a place left
pub joins_below : (xs : List BlockBid) (b : BlockBid) (r : Rank) (here : ℕ) → Some r ≡ rank xs b → 0 < r.level → (r.level ≡ 1 → here ≡ level_count xs 1 r.head xs) → ((r.level ≡ 1 → ⊥) → here ≡ level_count xs 2 r.head xs) → may_join xs b ≡ (ltb here 3 && ltb (level_count xs 1 r.head xs + level_count xs 2 r.head xs) 5)
joins_below xs b r here e z one two =
    let t = rank_bound 2 xs 0 b r (sym e) in
    let h : here ≡ level_count xs r.level r.head xs = elim (cases_eq r.level 1) as (λ _. here ≡ level_count xs r.level r.head xs) [
      | inl v ↦ one v ∙ ap (λ l. level_count xs l r.head xs) (sym v)
      | inr v ↦ let w : r.level ≡ 2 = omega (arith, t, z) in two v ∙ ap (λ l. level_count xs l r.head xs) (sym w)
    ] in
    ap (joins_by xs) (sym e) ∙ ap (λ o. o || (ltb (level_count xs r.level r.head xs) 3 && ltb (level_count xs 1 r.head xs + level_count xs 2 r.head xs) 5)) (lt-leb r.level 0 z) ∙ ap (λ n. ltb n 3 && ltb (level_count xs 1 r.head xs + level_count xs 2 r.head xs) 5) (sym h)

-- with such a block no family is too large
joined_fits : (xs : List BlockBid) (r : Rank) → ((h : ℕ) → family_fits xs h ≡ true) → joins_by xs (Some r) ≡ true → (h : ℕ)
    → (cond (is_rank 1 h (Some r)) 1 0 + level_count xs 1 h xs ≤ 3) × (cond (is_rank 2 h (Some r)) 1 0 + level_count xs 2 h xs ≤ 3)
    × ((cond (is_rank 1 h (Some r)) 1 0 + level_count xs 1 h xs) + (cond (is_rank 2 h (Some r)) 1 0 + level_count xs 2 h xs) ≤ 5)
joined_fits xs r f j h =
    let o = fits_first xs h (f h) in
    elim (cases_eq r.head h) as (λ _. (cond (eqb r.level 1 && eqb r.head h) 1 0 + level_count xs 1 h xs ≤ 3) × (cond (eqb r.level 2 && eqb r.head h) 1 0 + level_count xs 2 h xs ≤ 3) × ((cond (eqb r.level 1 && eqb r.head h) 1 0 + level_count xs 1 h xs) + (cond (eqb r.level 2 && eqb r.head h) 1 0 + level_count xs 2 h xs) ≤ 5)) [
      | inl z ↦
          elim (or_cases (leb r.level 0) _ j) as (λ _. (cond (eqb r.level 1 && eqb r.head h) 1 0 + level_count xs 1 h xs ≤ 3) × (cond (eqb r.level 2 && eqb r.head h) 1 0 + level_count xs 2 h xs ≤ 3) × ((cond (eqb r.level 1 && eqb r.head h) 1 0 + level_count xs 1 h xs) + (cond (eqb r.level 2 && eqb r.head h) 1 0 + level_count xs 2 h xs) ≤ 5)) [
            | inl v ↦ let t = leb-true r.level 0 v in let q = none_at_top r.level (eqb r.head h) (omega arith) in (omega (arith, o, q), omega (arith, o, q), omega (arith, o, q))
            | inr v ↦
                let p = and_parts (ltb (level_count xs r.level r.head xs) 3) (ltb (level_count xs 1 r.head xs + level_count xs 2 r.head xs) 5) v in
                let room = subst (λ g. level_count xs r.level g xs < 3) z (ltb-true _ _ p.0) in
                let whole = subst (λ g. level_count xs 1 g xs + level_count xs 2 g xs < 5) z (ltb-true _ _ p.1) in
                let q = at_most_one r.level (eqb r.head h) in
                (one_more 1 room o.0, one_more 2 room o.1, omega (arith, whole, q))
          ]
      | inr z ↦ let q = none_elsewhere r.level r.head h z in (omega (arith, o, q), omega (arith, o, q), omega (arith, o, q))
    ]
  where
    one_more : (l : ℕ) → level_count xs r.level h xs < 3 → level_count xs l h xs ≤ 3 → cond (eqb r.level l && eqb r.head h) 1 0 + level_count xs l h xs ≤ 3
    one_more l room most =
        elim (cases_Bool (eqb r.level l && eqb r.head h)) as (λ _. cond (eqb r.level l && eqb r.head h) 1 0 + level_count xs l h xs ≤ 3) [
          | inl e ↦
              let p = and_parts (eqb r.level l) (eqb r.head h) e in
              let here = subst (λ m. level_count xs m h xs < 3) (eqb-true _ _ p.0) room in
              let t = ap (λ v. cond v 1 0 + level_count xs l h xs) e in
              omega (arith, here, t)
          | inr e ↦ let t = ap (λ v. cond v 1 0 + level_count xs l h xs) e in omega (arith, most, t)
        ]

pub families_entered : (b : BlockBid) (xs : List BlockBid) → families_kept xs ≡ true → stands block b.number xs ≡ false → parent_kept xs b ≡ true → may_join xs b ≡ true → families_kept (entered block b xs) ≡ true
families_entered b xs k s p j =
    let f = families_means xs k in
    let none = standing_none block b.number xs s in
    let own = not_named b.number xs b none p in
    let a : Alike b.number xs (entered block b xs) = record { same = λ m h. standing_entered block m b xs h; no_child = All-weaker (λ x. parent_kept xs x ≡ true) (λ x. names_parent b.number x ≡ false) (λ x h. not_named b.number xs x none h) xs f.parents } in
    let rest = rank_alike b.number xs (entered block b xs) a in
    elim (cases_some (rank xs b)) as (λ _. families_kept (entered block b xs) ≡ true) [
      | inl z ↦ absurd (false≢true (sym (ap (joins_by xs) z) ∙ j))
      | inr z ↦
          families_from (entered block b xs) (record {
            parents = all_entered block _ b xs (kept_alike b.number xs (entered block b xs) a b own ∙ p) (All-weaker (λ x. (names_parent b.number x ≡ false) × (parent_kept xs x ≡ true)) (λ x. parent_kept (entered block b xs) x ≡ true) (λ x h. kept_alike b.number xs (entered block b xs) a x h.0 ∙ h.1) xs (all_both _ _ xs a.no_child f.parents));
            ranks = all_entered block _ b xs (ap is_some (rest b own ∙ z.1)) (All-weaker (λ x. (names_parent b.number x ≡ false) × (ranked xs x ≡ true)) (λ x. ranked (entered block b xs) x ≡ true) (λ x h. ap is_some (rest x h.0) ∙ h.1) xs (all_both _ _ xs a.no_child f.ranks));
            fits = λ h.
                let o = joined_fits xs z.0 f.fits (sym (ap (joins_by xs) z.1) ∙ j) h in
                let u = count_entered block (λ y. is_rank 1 h (rank (entered block b xs) y)) b xs ∙ ap (λ o. cond (is_rank 1 h o) 1 0 + level_count (entered block b xs) 1 h xs) (rest b own ∙ z.1) in
                let v = count_entered block (λ y. is_rank 2 h (rank (entered block b xs) y)) b xs ∙ ap (λ o. cond (is_rank 2 h o) 1 0 + level_count (entered block b xs) 2 h xs) (rest b own ∙ z.1) in
                let s = level_alike b.number xs (entered block b xs) a 1 h in let t = level_alike b.number xs (entered block b xs) a 2 h in
                fits_from (entered block b xs) h (omega (arith, u, s, o)) (omega (arith, v, t, o)) (omega (arith, u, v, s, t, o));
          })
    ]

-- the block above, by what a block names as its parent, and by what stands there
abbrev above_found : List BlockBid → ℕ → Option BlockBid → Option BlockBid
above_found xs k o = elim o [ None ↦ None | Some y ↦ ancestor xs k y ]

abbrev above_parent : List BlockBid → ℕ → Option ℕ → Option BlockBid
above_parent xs k o = elim o [ None ↦ None | Some p ↦ above_found xs k (standing_as block p xs) ]

above_up : (xs : List BlockBid) (k : ℕ) (b : BlockBid) (p : ℕ) (y : BlockBid) → b.parent ≡ Some p → standing_as block p xs ≡ Some y → ancestor xs (suc k) b ≡ ancestor xs k y
above_up xs k b p y e s = ap (above_parent xs k) e ∙ ap (above_found xs k) s

-- the ancestors of an ancestor are ancestors
above_above : (xs : List BlockBid) (j k : ℕ) (b y : BlockBid) → ancestor xs j b ≡ Some y → ancestor xs (k + j) b ≡ ancestor xs k y
above_above xs zero k b y e =
    let n : k + 0 ≡ k = omega arith in
    ap (λ m. ancestor xs m b) n ∙ ap (above_found xs k) e
above_above xs (suc j) k b y e =
    let n : k + suc j ≡ suc (k + j) = omega arith in
    elim (cases_some b.parent) as (λ _. ancestor xs (k + suc j) b ≡ ancestor xs k y) [
      | inl z ↦ absurd (some_not_none _ y (ap (above_parent xs j) z) e)
      | inr z ↦
          elim (cases_some (standing_as block z.0 xs)) as (λ _. ancestor xs (k + suc j) b ≡ ancestor xs k y) [
            | inl s ↦ absurd (some_not_none _ y (ap (above_parent xs j) z.1 ∙ ap (above_found xs j) s) e)
            | inr s ↦ ap (λ m. ancestor xs m b) n ∙ above_up xs (k + j) b z.0 s.0 z.1 s.1 ∙ above_above xs j k s.0 y (sym (above_up xs j b z.0 s.0 z.1 s.1) ∙ e)
          ]
    ]

-- a block whose family has its head at most n parents up has nothing more than n parents up
above_none : (n : ℕ) (xs : List BlockBid) (l : ℕ) (b : BlockBid) (r : Rank) → rank_from n xs l b ≡ Some r → (k : ℕ) → n < k → ancestor xs k b ≡ None
above_none n xs l b r e zero h = absurd (omega arith)
above_none zero xs l b r e (suc k) h =
    elim (cases_some b.parent) as (λ _. ancestor xs (suc k) b ≡ None) [
      | inl z ↦ ap (above_parent xs k) z
      | inr z ↦ absurd (some_not_none _ r (rank_low xs l b z.0 z.1) e)
    ]
above_none (suc n) xs l b r e (suc k) h =
    elim (cases_some b.parent) as (λ _. ancestor xs (suc k) b ≡ None) [
      | inl z ↦ ap (above_parent xs k) z
      | inr z ↦
          elim (cases_some (standing_as block z.0 xs)) as (λ _. ancestor xs (suc k) b ≡ None) [
            | inl s ↦ ap (above_parent xs k) z.1 ∙ ap (above_found xs k) s
            | inr s ↦ above_up xs k b z.0 s.0 z.1 s.1 ∙ above_none n xs (l + 1) s.0 r (sym (rank_up n xs l b z.0 s.0 z.1 s.1) ∙ e) k (omega arith)
          ]
    ]

-- where the families are right no block is its own ancestor: going up three times as far would come to it again, and that far up there is nothing
pub no_own_ancestor : (xs : List BlockBid) → families_kept xs ≡ true → NoOwnAncestor xs
no_own_ancestor xs k b m i l e own =
    let f = families_means xs k in
    let s = subst (λ x. ranked xs x ≡ true) (sym e) (All-get_or (λ x. ranked xs x ≡ true) xs i b l f.ranks) in
    let two = above_above xs (m + 1) (m + 1) b b own ∙ own in
    let three = above_above xs (m + 1 + (m + 1)) (m + 1) b b two ∙ own in
    elim (cases_some (rank xs b)) as (λ _. ⊥) [
      | inl z ↦ false≢true (sym (ap is_some z) ∙ s)
      | inr z ↦ some_not_none _ b (above_none 2 xs 0 b z.0 z.1 (m + 1 + (m + 1 + (m + 1))) (omega arith)) three
    ]

-- no blocks, no families
pub families_none : families_kept [] ≡ true
families_none = refl
