-- Lawful registers, as they are tested and in words.
use Rattle.std.proofs.Common.{◌≡◌, ℕ, zero, suc, ◌+◌, ◌<◌, ◌≤◌, Bool, true, false, not, ◌&&◌, eqb, ltb, leb, ◌↔◌, List, [], ◌∷◌, is_some as option_is_some, Some, None, Ok, Option, sym, refl, ap, ◌∙◌, subst, inl, inr, arith}
use Rattle.std.proofs.lemmas.List.{get_or_default}
use Rattle.std.proofs.lemmas.Bool.{and_parts, and_from, or_parts, or_from, ltb-true, lt-ltb, leb-true, le-leb, eqb-true, eq-eqb, not-true, not_from_false, cases_Bool, both_ways}
use Rattle.market.specs.Prices.{within}
use Rattle.market.specs.declared.limits.Limits.{Limits}
use Rattle.bids.specs.Kinds.{Kind}
use Rattle.bids.specs.Registers.{hourly, block, flexible}
use Rattle.bids.specs.Checks.{first_of}
use Rattle.bids.specs.Blocks.{block_fault, block_profile, block_quantity}
use Rattle.bids.specs.Flexibles.{flexible_fault, flexible_profile}
use Rattle.bids.specs.Quantities.{one_side}
use Rattle.bids.specs.declared.rows.HourlyBid.{HourlyBid}
use Rattle.bids.specs.declared.rows.BlockBid.{BlockBid}
use Rattle.bids.specs.declared.rows.FlexibleBid.{FlexibleBid}
use Rattle.bids.proofs.Checks.{kept_form, no_fault}
use Rattle.register.specs.Order.{each, known, rising, ordered, standing_as}
use Rattle.register.specs.Hours.{in_hour, hour_taken, apart, hour_right, hours_kept}
use Rattle.register.specs.Families.{rank, level_count, parent_fits, parent_kept, family_fits, families_kept}
use Rattle.register.specs.Lawful.{Tables, hourly_kept, block_alone, blocks_kept, flexible_alone, flexible_kept, register_rules}
use Rattle.register.specs.Words.{OfEach, OfTwo, InOrder, LawfulHourly, ParentOf, LawfulBlocks, LawfulFlexible, LawfulRegisters}
use Rattle.register.specs.declared.families.Rank.{Rank}
use Rattle.register.specs.declared.lawful.Counts.{Counts}
use Rattle.register.proofs.Steps.{apart as rising_apart}
use Rattle.register.proofs.Laws.{each_all, all_each, ordered_means, ordered_from}
use Rattle.register.proofs.Each.{each_at}
use Rattle.register.proofs.FamiliesCounted.{ranked}
use Rattle.register.proofs.FamilyLaws.{families_means, families_from, fits_first, no_own_ancestor}
use Rattle.register.proofs.Guards.{guarded, guard_passes}

-- ---- by places
module _ {X : Type 0} where
  pub places_each : (t : X → Bool) (xs : List X) → OfEach xs (λ b. t b ≡ true) → each t xs ≡ true
  places_each t [] f = refl
  places_each t (x ∷ xs) f = and_from _ _ (f 0 x (omega arith) refl) (places_each t xs (λ i b l e. f (suc i) b (omega arith) e))

-- ---- bids in order
module _ {B : Type 0} (k : Kind B) where
  known_parts : (b : B) → known k b ≡ true → ((1 ≤ k.number_of b) × (k.number_of b ≤ 60000)) × ((1 ≤ k.participant_of b) × (k.participant_of b ≤ 999))
  known_parts b h =
      let p = and_parts (ltb 0 (k.number_of b)) _ h in
      let q = and_parts (leb (k.number_of b) 60000) _ p.1 in
      let r = and_parts (ltb 0 (k.participant_of b)) _ q.1 in
      let x = ltb-true 0 (k.number_of b) p.0 in let y = ltb-true 0 (k.participant_of b) r.0 in
      ((omega (arith, x), leb-true _ _ q.0), (omega (arith, y), leb-true _ _ r.1))

  known_from : (b : B) → (1 ≤ k.number_of b) × (k.number_of b ≤ 60000) → (1 ≤ k.participant_of b) × (k.participant_of b ≤ 999) → known k b ≡ true
  known_from b n p =
      let x = n.0 in let y = p.0 in
      and_from _ _ (lt-ltb 0 _ (omega (arith, x))) (and_from _ _ (le-leb _ _ n.1) (and_from _ _ (lt-ltb 0 _ (omega (arith, y))) (le-leb _ _ p.1)))

  rising_from : (n : ℕ) (xs : List B) → OfEach xs (λ b. n < k.number_of b) → OfTwo xs (λ b d. k.number_of b < k.number_of d) → rising k n xs ≡ true
  rising_from n [] f g = refl
  rising_from n (x ∷ xs) f g =
      and_from _ _ (lt-ltb _ _ (f 0 x (omega arith) refl))
      (rising_from (k.number_of x) xs (λ i b l e. g 0 (suc i) x b (omega arith) (omega arith) refl e) (λ i j b d l m e h. g (suc i) (suc j) b d (omega arith) (omega arith) e h))

  pub in_order_means : (xs : List B) → ordered k xs ≡ true → InOrder k xs
  in_order_means xs h =
      let o = ordered_means k xs h in
      let a = all_each (known k) xs o.knows in
      record {
        rise = λ i j b d l m e f.
            let r = rising_apart k 0 xs o.rises i j b l m in
            let x = ap k.number_of e in
            let y = ap k.number_of (f ∙ get_or_default xs j d b m) in
            omega (arith, r, x, y);
        numbers = λ i b l e. (known_parts b (each_at (known k) xs i b a l e)).0;
        participants = λ i b l e. (known_parts b (each_at (known k) xs i b a l e)).1;
        few_each = o.few_each;
      }

  pub in_order_from : (xs : List B) → InOrder k xs → ordered k xs ≡ true
  in_order_from xs w = ordered_from k xs (record {
    rises = rising_from 0 xs (λ i b l e. let n = (w.numbers i b l e).0 in omega (arith, n)) w.rise;
    knows = each_all (known k) xs (places_each (known k) xs (λ i b l e. known_from b (w.numbers i b l e) (w.participants i b l e)));
    few_each = w.few_each;
  })

-- ---- hourly bids
module _ {C : Type 0} where
  not_taken_at : (p h : ℕ) (xs : List (HourlyBid C)) → hour_taken p h xs ≡ false → OfEach xs (λ d. in_hour p h d ≡ false)
  not_taken_at p h (x ∷ xs) f zero d l e = ap (in_hour p h) e ∙ (or_parts (in_hour p h x) (hour_taken p h xs) f).0
  not_taken_at p h (x ∷ xs) f (suc i) d l e = not_taken_at p h xs (or_parts (in_hour p h x) (hour_taken p h xs) f).1 i d (omega arith) e
  not_taken_at p h [] f i d l e = absurd (omega arith)

  not_taken_from : (p h : ℕ) (xs : List (HourlyBid C)) → OfEach xs (λ d. in_hour p h d ≡ false) → hour_taken p h xs ≡ false
  not_taken_from p h [] f = refl
  not_taken_from p h (x ∷ xs) f = or_from _ _ (f 0 x (omega arith) refl) (not_taken_from p h xs (λ i d l e. f (suc i) d (omega arith) e))

  same_hour : (b d : HourlyBid C) → in_hour b.participant b.hour d ≡ false → b.participant ≡ d.participant → b.hour ≡ d.hour → ⊥
  same_hour b d f x y = both_ways _ f (and_from _ _ (eq-eqb _ _ (sym x)) (eq-eqb _ _ (sym y)))

  other_hour : (b d : HourlyBid C) → (b.participant ≡ d.participant → b.hour ≡ d.hour → ⊥) → in_hour b.participant b.hour d ≡ false
  other_hour b d f =
      elim (cases_Bool (in_hour b.participant b.hour d)) as (λ _. in_hour b.participant b.hour d ≡ false) [
        | inl a ↦ let q = and_parts (eqb d.participant b.participant) (eqb d.hour b.hour) a in absurd (f (sym (eqb-true _ _ q.0)) (sym (eqb-true _ _ q.1)))
        | inr a ↦ a
      ]

  apart_means : (xs : List (HourlyBid C)) → apart xs ≡ true → OfTwo xs (λ b d. b.participant ≡ d.participant → b.hour ≡ d.hour → ⊥)
  apart_means (x ∷ xs) a zero (suc j) b d l m e f =
      let q = and_parts (not (hour_taken x.participant x.hour xs)) (apart xs) a in
      let n = not_taken_at x.participant x.hour xs (not-true _ q.0) j d (omega arith) f in
      same_hour b d (subst (λ z. in_hour z.participant z.hour d ≡ false) (sym e) n)
  apart_means (x ∷ xs) a (suc i) (suc j) b d l m e f = apart_means xs (and_parts (not (hour_taken x.participant x.hour xs)) (apart xs) a).1 i j b d (omega arith) (omega arith) e f
  apart_means (x ∷ xs) a i zero b d l m e f = absurd (omega arith)
  apart_means [] a i j b d l m e f = absurd (omega arith)

  apart_from : (xs : List (HourlyBid C)) → OfTwo xs (λ b d. b.participant ≡ d.participant → b.hour ≡ d.hour → ⊥) → apart xs ≡ true
  apart_from [] g = refl
  apart_from (x ∷ xs) g =
      and_from _ _ (not_from_false _ (not_taken_from x.participant x.hour xs (λ i d l e. other_hour x d (g 0 (suc i) x d (omega arith) (omega arith) refl e))))
      (apart_from xs (λ i j b d l m e f. g (suc i) (suc j) b d (omega arith) (omega arith) e f))

  pub hourly_means : (xs : List (HourlyBid C)) → hourly_kept xs ≡ true → LawfulHourly xs
  hourly_means xs h =
      let p = and_parts (ordered hourly xs) (hours_kept xs) h in
      let q = and_parts (each hour_right xs) (apart xs) p.1 in
      record { in_order = in_order_means hourly xs p.0; hours = λ i b l e. leb-true _ _ (each_at hour_right xs i b q.0 l e); apart_each = apart_means xs q.1 }

  pub hourly_from : (xs : List (HourlyBid C)) → LawfulHourly xs → hourly_kept xs ≡ true
  hourly_from xs w = and_from _ _ (in_order_from hourly xs w.in_order) (and_from _ _ (places_each hour_right xs (λ i b l e. le-leb _ _ (w.hours i b l e))) (apart_from xs w.apart_each))

-- ---- the form of a bid
is_none : (o : Option ℕ) → not (option_is_some o) ≡ true → o ≡ None
is_none None h = refl
is_none (Some k) h = absurd (both_ways _ refl h)

-- ---- families
fits_words : (b : BlockBid) (q : Option BlockBid) → elim q [ None ↦ false | Some y ↦ parent_fits b y ] ≡ true → (y : BlockBid) × (q ≡ Some y) × (y.participant ≡ b.participant) × (one_side (block_quantity y 0) (block_quantity b 0) ≡ true)
fits_words b None h = absurd (both_ways _ refl h)
fits_words b (Some y) h = let p = and_parts (eqb y.participant b.participant) (one_side (block_quantity y 0) (block_quantity b 0)) h in (y, refl, eqb-true _ _ p.0, p.1)

parent_words : (xs : List BlockBid) (b : BlockBid) (o : Option ℕ) → elim o [ None ↦ true | Some p ↦ elim (standing_as block p xs) [ None ↦ false | Some y ↦ parent_fits b y ] ] ≡ true → (p : ℕ) → o ≡ Some p → ParentOf xs b p
parent_words xs b None h p e = absurd cc
parent_words xs b (Some q) h p e = let z : q ≡ p = cc in subst (λ n. ParentOf xs b n) z (fits_words b (standing_as block q xs) h)

words_parent : (xs : List BlockBid) (b : BlockBid) (o : Option ℕ) → ((p : ℕ) → o ≡ Some p → ParentOf xs b p) → elim o [ None ↦ true | Some p ↦ elim (standing_as block p xs) [ None ↦ false | Some y ↦ parent_fits b y ] ] ≡ true
words_parent xs b None f = refl
words_parent xs b (Some p) f =
    let w = f p refl in
    ap (λ q. elim q [ None ↦ false | Some y ↦ parent_fits b y ]) w.1 ∙ and_from _ _ (eq-eqb _ _ w.2) w.3

some_of : (o : Option Rank) → option_is_some o ≡ true → (r : Rank) × (o ≡ Some r)
some_of None h = absurd (both_ways _ refl h)
some_of (Some r) h = (r, refl)

is_some : (o : Option Rank) → (r : Rank) × (o ≡ Some r) → option_is_some o ≡ true
is_some o s = ap option_is_some s.1

words_family : (xs : List BlockBid) (h : ℕ) → (level_count xs 1 h xs ≤ 3) × (level_count xs 2 h xs ≤ 3) × (level_count xs 1 h xs + level_count xs 2 h xs ≤ 5) → family_fits xs h ≡ true
words_family xs h w = and_from _ _ (le-leb _ _ w.0) (and_from _ _ (le-leb _ _ w.1) (le-leb _ _ w.2))

pub blocks_means : (l : Limits) (xs : List BlockBid) → blocks_kept l xs ≡ true → LawfulBlocks l xs
blocks_means l xs h =
    let p = and_parts (ordered block xs) (each (block_alone l) xs && families_kept xs) h in
    let q = and_parts (each (block_alone l) xs) (families_kept xs) p.1 in
    let f = families_means xs q.1 in
    let parts : OfEach xs (λ b. (block_fault b ≡ None) × (within l b.price ≡ true)) = λ i b n e. let r = and_parts (not (option_is_some (block_fault b))) (within l b.price) (each_at (block_alone l) xs i b q.0 n e) in (is_none _ r.0, r.1) in
    record {
      in_order = in_order_means block xs p.0;
      forms = λ i b n e. kept_form (block_profile b) (parts i b n e).0;
      prices = λ i b n e. (parts i b n e).1;
      parents = λ i b n e. parent_words xs b b.parent (each_at (parent_kept xs) xs i b (all_each (parent_kept xs) xs f.parents) n e);
      levels = λ i b n e. some_of (rank xs b) (each_at (ranked xs) xs i b (all_each (ranked xs) xs f.ranks) n e);
      ancestors = no_own_ancestor xs q.1;
      few_on_level = λ g. fits_first xs g (f.fits g);
    }

pub blocks_from : (l : Limits) (xs : List BlockBid) → LawfulBlocks l xs → blocks_kept l xs ≡ true
blocks_from l xs w =
    and_from _ _ (in_order_from block xs w.in_order) (and_from _ _
    (places_each (block_alone l) xs (λ i b n e. and_from _ _ (ap (λ o. not (option_is_some o)) (no_fault (block_profile b) (w.forms i b n e))) (w.prices i b n e)))
    (families_from xs (record {
      parents = each_all (parent_kept xs) xs (places_each (parent_kept xs) xs (λ i b n e. words_parent xs b b.parent (w.parents i b n e)));
      ranks = each_all (ranked xs) xs (places_each (ranked xs) xs (λ i b n e. is_some (rank xs b) (w.levels i b n e)));
      fits = λ g. words_family xs g (w.few_on_level g);
    })))

-- ---- flexible bids
pub flexible_means : (l : Limits) (xs : List FlexibleBid) → flexible_kept l xs ≡ true → LawfulFlexible l xs
flexible_means l xs h =
    let p = and_parts (ordered flexible xs) (each (flexible_alone l) xs) h in
    let parts : OfEach xs (λ b. (flexible_fault b ≡ None) × (within l b.price ≡ true)) = λ i b n e. let r = and_parts (not (option_is_some (flexible_fault b))) (within l b.price) (each_at (flexible_alone l) xs i b p.1 n e) in (is_none _ r.0, r.1) in
    record { in_order = in_order_means flexible xs p.0; forms = λ i b n e. kept_form (flexible_profile b) (parts i b n e).0; prices = λ i b n e. (parts i b n e).1 }

pub flexible_from : (l : Limits) (xs : List FlexibleBid) → LawfulFlexible l xs → flexible_kept l xs ≡ true
flexible_from l xs w =
    and_from _ _ (in_order_from flexible xs w.in_order)
    (places_each (flexible_alone l) xs (λ i b n e. and_from _ _ (ap (λ o. not (option_is_some o)) (no_fault (flexible_profile b) (w.forms i b n e))) (w.prices i b n e)))

-- ---- the three registers
module _ {C : Type 0} (l : Limits) (n : Counts) (t : Tables C) where
  registers_mean : first_of (register_rules l n t) ≡ Ok tt → LawfulRegisters l n t
  registers_mean h =
      let g = guarded l n t h in
      record {
        hourly_places = g.hourly_within;
        hourly_bids = hourly_means _ g.hourly_right;
        block_places = g.blocks_within;
        block_bids = blocks_means l _ g.blocks_right;
        flexible_places = g.flexible_within;
        flexible_bids = flexible_means l _ g.flexible_right;
      }

  registers_from : LawfulRegisters l n t → first_of (register_rules l n t) ≡ Ok tt
  registers_from w =
      guard_passes l n t (record {
        hourly_within = w.hourly_places;
        blocks_within = w.block_places;
        flexible_within = w.flexible_places;
        hourly_right = hourly_from _ w.hourly_bids;
        blocks_right = blocks_from l _ w.block_bids;
        flexible_right = flexible_from l _ w.flexible_bids;
      })

  -- the registers pass exactly where they are lawful in words
  pub registers_in_words : (first_of (register_rules l n t) ≡ Ok tt) ↔ LawfulRegisters l n t
  registers_in_words = (registers_mean, registers_from)
