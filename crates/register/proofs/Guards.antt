-- The three registers together: what a check of them that goes on says, and when it goes on.
use Rattle.std.proofs.Common.{◌≡◌, ◌≤◌, Bool, true, not, leb, [], ◌∷◌, length, take, Ok, ap, ◌∙◌}
use Rattle.std.proofs.lemmas.Bool.{and_parts, and_from, leb-true, le-leb, not-false}
use Rattle.market.specs.declared.limits.Limits.{Limits}
use Rattle.market.specs.declared.refusals.Rule.TheVariants as rules
use Rattle.bids.specs.Checks.{first_of, broken}
use Rattle.register.specs.Entries.{Rules}
use Rattle.register.specs.Lawful.{Tables, hourly_kept, blocks_kept, flexible_kept, lawful_table, register_rules}
use Rattle.register.specs.declared.lawful.Counts.{Counts}
use Rattle.register.proofs.EntryLaws.{unbroken}

-- three registers that are lawful break no rule
three_lawful : (a b c : Bool) → a ≡ true → b ≡ true → c ≡ true → first_of (broken (not a) rules.Register 1 ∷ broken (not b) rules.Register 2 ∷ broken (not c) rules.Register 3 ∷ []) ≡ Ok tt
three_lawful a b c x y z =
    let f : Bool → Bool → Bool → Rules = λ a b c. broken (not a) rules.Register 1 ∷ broken (not b) rules.Register 2 ∷ broken (not c) rules.Register 3 ∷ [] in
    ap (λ w. first_of (f w b c)) x ∙ ap (λ w. first_of (f true w c)) y ∙ ap (λ w. first_of (f true true w)) z

module _ {C : Type 0} (l : Limits) (n : Counts) (t : Tables C) where
  -- the bids in the first places may stand together, and the tables are long enough
  pub record Guarded : Type 0 where
    pub hourly_within : n.hourly ≤ length t.hourly
    pub blocks_within : n.blocks ≤ length t.blocks
    pub flexible_within : n.flexible ≤ length t.flexible
    pub hourly_right : hourly_kept (take n.hourly t.hourly) ≡ true
    pub blocks_right : blocks_kept l (take n.blocks t.blocks) ≡ true
    pub flexible_right : flexible_kept l (take n.flexible t.flexible) ≡ true

  pub guarded : first_of (register_rules l n t) ≡ Ok tt → Guarded
  guarded h =
      let p = unbroken (not (lawful_table hourly_kept n.hourly t.hourly)) _ _ _ h in
      let q = unbroken (not (lawful_table (blocks_kept l) n.blocks t.blocks)) _ _ _ p.1 in
      let r = unbroken (not (lawful_table (flexible_kept l) n.flexible t.flexible)) _ _ [] q.1 in
      let a = and_parts (leb n.hourly (length t.hourly)) (hourly_kept (take n.hourly t.hourly)) (not-false _ p.0) in
      let b = and_parts (leb n.blocks (length t.blocks)) (blocks_kept l (take n.blocks t.blocks)) (not-false _ q.0) in
      let c = and_parts (leb n.flexible (length t.flexible)) (flexible_kept l (take n.flexible t.flexible)) (not-false _ r.0) in
      record {
        hourly_within = leb-true _ _ a.0;
        blocks_within = leb-true _ _ b.0;
        flexible_within = leb-true _ _ c.0;
        hourly_right = a.1;
        blocks_right = b.1;
        flexible_right = c.1;
      }

  pub guard_passes : Guarded → first_of (register_rules l n t) ≡ Ok tt
  guard_passes g =
      three_lawful (lawful_table hourly_kept n.hourly t.hourly) (lawful_table (blocks_kept l) n.blocks t.blocks) (lawful_table (flexible_kept l) n.flexible t.flexible)
      (and_from _ _ (le-leb _ _ g.hourly_within) g.hourly_right)
      (and_from _ _ (le-leb _ _ g.blocks_within) g.blocks_right)
      (and_from _ _ (le-leb _ _ g.flexible_within) g.flexible_right)
