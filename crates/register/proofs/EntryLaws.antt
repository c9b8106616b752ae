-- Bids that may be entered or withdrawn leave lawful registers.
use Rattle.std.proofs.Common.{◌≡◌, ℕ, ◌<◌, min, Bool, true, false, not, ◌&&◌, ◌||◌, ltb, leb, List, [], ◌∷◌, ◌++◌, length, is_some, None, Ok, Option, refl, ap, arith}
use Rattle.std.proofs.lemmas.Bool.{and_parts, and_from, or_parts, leb-false, ltb-false, le-leb, not-false}
use Rattle.market.specs.Prices.{within}
use Rattle.market.specs.declared.limits.Limits.{Limits}
use Rattle.market.specs.declared.refusals.Refusal.{Refusal}
use Rattle.market.specs.declared.refusals.Rule.{Rule}
use Rattle.market.specs.declared.refusals.Rule.TheVariants as rules
use Rattle.bids.specs.Kinds.{Kind}
use Rattle.bids.specs.Registers.{hourly, block, flexible}
use Rattle.bids.specs.Checks.{broken, first_of}
use Rattle.bids.specs.Blocks.{block_form, block_profile}
use Rattle.bids.specs.Flexibles.{flexible_form, flexible_profile}
use Rattle.bids.specs.declared.rows.HourlyBid.{HourlyBid}
use Rattle.bids.specs.declared.rows.BlockBid.{BlockBid}
use Rattle.bids.specs.declared.rows.FlexibleBid.{FlexibleBid}
use Rattle.bids.proofs.Checks.{passed, form_passed}
use Rattle.register.specs.Order.{each, known, stands, tally, entered, without, ordered}
use Rattle.register.specs.Hours.{hour_taken, hours_kept}
use Rattle.register.specs.Families.{parent_kept, may_join, child_stands, families_kept}
use Rattle.register.specs.Entries.{identity_rule, fresh_rules, room_rule, standing_rule, price_rule, hour_rule, family_rules, enter_hourly, enter_block, enter_flexible, withdraw_block}
use Rattle.register.specs.Lawful.{hourly_kept, block_alone, blocks_kept, flexible_alone, flexible_kept}
use Rattle.register.proofs.Laws.{each_all, all_each, all_entered, all_without, ordered_means, ordered_from, ordered_entered, ordered_without}
use Rattle.register.proofs.HourLaws.{hours_entered, hours_without}
use Rattle.register.proofs.FamilyLaws.{families_entered, families_without}

-- a call goes on only where its first rule is not broken
pub unbroken : (t : Bool) (r : Rule) (p : ℕ) (rest : List (Option Refusal)) → first_of (broken t r p ∷ rest) ≡ Ok tt → (t ≡ false) × (first_of rest ≡ Ok tt)
unbroken true r p rest h = absurd cc
unbroken false r p rest h = (refl, h)

module _ {B : Type 0} (k : Kind B) where
  -- in order with a bid that is known and fresh
  enters_ordered : (xs : List B) (b : B) → ordered k xs ≡ true → first_of (identity_rule k b) ≡ Ok tt → first_of (fresh_rules k xs b) ≡ Ok tt → (ordered k (entered k b xs) ≡ true) × (stands k (k.number_of b) xs ≡ false)
  enters_ordered xs b o i f =
      let n = unbroken (not (known k b)) _ _ [] i in
      let s = unbroken (stands k (k.number_of b) xs) _ _ _ f in
      let t = unbroken (leb k.most_standing (tally k (k.participant_of b) xs)) _ _ [] s.1 in
      (ordered_from k _ (ordered_entered k b xs (ordered_means k xs o) (not-false _ n.0) s.0 (leb-false _ _ t.0)), s.0)

  leaves_ordered : (n : ℕ) (xs : List B) → ordered k xs ≡ true → ordered k (without k n xs) ≡ true
  leaves_ordered n xs o = ordered_from k _ (ordered_without k n xs (ordered_means k xs o))

  -- a place is free
  pub room_free : (room : ℕ) (xs : List B) (b : B) → first_of (room_rule k room xs b) ≡ Ok tt → length xs < room
  room_free room xs b h =
      let t = unbroken (leb (min room k.most_places) (length xs)) _ _ [] h in
      let l = leb-false (min room k.most_places) (length xs) t.0 in
      omega (arith, l)

  each_entered : (t : B → Bool) (b : B) (xs : List B) → t b ≡ true → each t xs ≡ true → each t (entered k b xs) ≡ true
  each_entered t b xs h a = all_each t _ (all_entered k _ b xs h (each_all t xs a))

  each_without : (t : B → Bool) (n : ℕ) (xs : List B) → each t xs ≡ true → each t (without k n xs) ≡ true
  each_without t n xs a = all_each t _ (all_without k _ n xs (each_all t xs a))

within_limits : (l : Limits) (p n : ℕ) → first_of (price_rule l p n) ≡ Ok tt → within l p ≡ true
within_limits l p n h = not-false _ (unbroken (not (within l p)) _ _ [] h).0

-- ---- hourly bids
module _ {C : Type 0} where
  pub hourly_enters : (room : ℕ) (xs : List (HourlyBid C)) (b : HourlyBid C) → hourly_kept xs ≡ true → first_of (enter_hourly room xs b) ≡ Ok tt → hourly_kept (entered hourly b xs) ≡ true
  hourly_enters room xs b h g =
      let a = and_parts (ordered hourly xs) (hours_kept xs) h in
      let p = passed (identity_rule hourly b) (fresh_rules hourly xs b ++ (hour_rule xs b ++ room_rule hourly room xs b)) g in
      let q = passed (fresh_rules hourly xs b) (hour_rule xs b ++ room_rule hourly room xs b) p.1 in
      let r = passed (hour_rule xs b) (room_rule hourly room xs b) q.1 in
      let u = unbroken (ltb 23 b.hour || hour_taken b.participant b.hour xs) _ _ [] r.0 in
      let v = or_parts (ltb 23 b.hour) (hour_taken b.participant b.hour xs) u.0 in
      and_from _ _ (enters_ordered hourly xs b a.0 p.0 q.0).0 (hours_entered b xs a.1 (le-leb _ _ (ltb-false _ _ v.0)) v.1)

  pub hourly_leaves : (n : ℕ) (xs : List (HourlyBid C)) → hourly_kept xs ≡ true → hourly_kept (without hourly n xs) ≡ true
  hourly_leaves n xs h =
      let a = and_parts (ordered hourly xs) (hours_kept xs) h in
      and_from _ _ (leaves_ordered hourly n xs a.0) (hours_without n xs a.1)

-- ---- blocks
alone : (o : Option ℕ) (w : Bool) → o ≡ None → w ≡ true → (not (is_some o) && w) ≡ true
alone o w e h = and_from _ _ (ap (λ z. not (is_some z)) e) h

pub block_enters : (l : Limits) (room : ℕ) (xs : List BlockBid) (b : BlockBid) → blocks_kept l xs ≡ true → first_of (enter_block l room xs b) ≡ Ok tt → blocks_kept l (entered block b xs) ≡ true
block_enters l room xs b h g =
    let a = and_parts (ordered block xs) (each (block_alone l) xs && families_kept xs) h in
    let d = and_parts (each (block_alone l) xs) (families_kept xs) a.1 in
    let rest = fresh_rules block xs b ++ (room_rule block room xs b ++ family_rules xs b) in
    let p = passed (identity_rule block b) (block_form b ++ (price_rule l b.price b.number ++ rest)) g in
    let q = passed (block_form b) (price_rule l b.price b.number ++ rest) p.1 in
    let r = passed (price_rule l b.price b.number) rest q.1 in
    let s = passed (fresh_rules block xs b) (room_rule block room xs b ++ family_rules xs b) r.1 in
    let t = passed (room_rule block room xs b) (family_rules xs b) s.1 in
    let u = unbroken (not (parent_kept xs b)) _ _ _ t.1 in
    let v = unbroken (not (may_join xs b)) _ _ [] u.1 in
    let o = enters_ordered block xs b a.0 p.0 s.0 in
    and_from _ _ o.0 (and_from _ _
    (each_entered block (block_alone l) b xs (alone _ _ (form_passed (block_profile b) q.0) (within_limits l b.price b.number r.0)) d.0)
    (families_entered b xs d.1 o.1 (not-false _ u.0) (not-false _ v.0)))

pub block_leaves : (l : Limits) (n : ℕ) (xs : List BlockBid) → blocks_kept l xs ≡ true → first_of (withdraw_block xs n) ≡ Ok tt → blocks_kept l (without block n xs) ≡ true
block_leaves l n xs h g =
    let a = and_parts (ordered block xs) (each (block_alone l) xs && families_kept xs) h in
    let d = and_parts (each (block_alone l) xs) (families_kept xs) a.1 in
    let p = passed (standing_rule block xs n) (broken (child_stands n xs) rules.ChildStands n ∷ []) g in
    let u = unbroken (child_stands n xs) _ _ [] p.1 in
    and_from _ _ (leaves_ordered block n xs a.0) (and_from _ _ (each_without block (block_alone l) n xs d.0) (families_without n xs d.1 u.0))

-- ---- flexible bids
pub flexible_enters : (l : Limits) (room : ℕ) (xs : List FlexibleBid) (b : FlexibleBid) → flexible_kept l xs ≡ true → first_of (enter_flexible l room xs b) ≡ Ok tt → flexible_kept l (entered flexible b xs) ≡ true
flexible_enters l room xs b h g =
    let a = and_parts (ordered flexible xs) (each (flexible_alone l) xs) h in
    let rest = fresh_rules flexible xs b ++ room_rule flexible room xs b in
    let p = passed (identity_rule flexible b) (flexible_form b ++ (price_rule l b.price b.number ++ rest)) g in
    let q = passed (flexible_form b) (price_rule l b.price b.number ++ rest) p.1 in
    let r = passed (price_rule l b.price b.number) rest q.1 in
    let s = passed (fresh_rules flexible xs b) (room_rule flexible room xs b) r.1 in
    and_from _ _ (enters_ordered flexible xs b a.0 p.0 s.0).0
    (each_entered flexible (flexible_alone l) b xs (alone _ _ (form_passed (flexible_profile b) q.0) (within_limits l b.price b.number r.0)) a.1)

pub flexible_leaves : (l : Limits) (n : ℕ) (xs : List FlexibleBid) → flexible_kept l xs ≡ true → flexible_kept l (without flexible n xs) ≡ true
flexible_leaves l n xs h =
    let a = and_parts (ordered flexible xs) (each (flexible_alone l) xs) h in
    and_from _ _ (leaves_ordered flexible n xs a.0) (each_without flexible (flexible_alone l) n xs a.1)
