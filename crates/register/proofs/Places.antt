-- What entering and withdrawing make of the first places of a table.
use Rattle.std.proofs.Common.{◌≡◌, ℕ, ◌+◌, ◌-◌, ◌<◌, ◌≤◌, true, leb, List, ◌++◌, length, take, drop, Ok, Err, ap, ◌∙◌, subst, arith, length-take}
use Rattle.std.specs.List.{insert, remove}
use Rattle.std.proofs.lemmas.List.{take_at}
use Rattle.std.proofs.lemmas.List.Edits.{length-insert}
use Rattle.std.proofs.lemmas.Bool.{and_parts, leb-true}
use Rattle.market.specs.declared.limits.Limits.{Limits}
use Rattle.bids.specs.Kinds.{Kind}
use Rattle.bids.specs.Checks.{first_of}
use Rattle.bids.proofs.Checks.{passed}
use Rattle.register.specs.Order.{rising, ordered, entered, without, Placed}
use Rattle.register.specs.Entries.{identity_rule, fresh_rules, room_rule}
use Rattle.register.specs.Lawful.{lawful_table}
use Rattle.register.specs.Demands.{Demands, enter_by}
use Rattle.register.proofs.Laws.{entered_is, without_is}
use Rattle.register.proofs.EntryLaws.{room_free}

-- the part `&s[0..n]` as the checker reads it
pub whole_part : {X : Type 0} (P : List X → Type 0) (n : ℕ) (xs : List X) → P (take (n - 0) xs) → P (take n xs)
whole_part P n xs h = let e : n - 0 ≡ n = omega arith in subst (λ m. P (take m xs)) e h

module _ {B : Type 0} (k : Kind B) (n : ℕ) (table : List B) where
  -- what an insert leaves in the first places
  pub enters : (table' : List B) (b : B) (at : ℕ) → n < length table → Placed k (k.number_of b) (take n table) (Err at) → table' ≡ insert (take n table) at b ++ drop (n + 1) table → take (n + 1) table' ≡ entered k b (take n table)
  enters table' b at room p e =
      let t = length-take n table in
      let m = length-insert (take n table) at b p.0 in
      let s : length (insert (take n table) at b) ≡ n + 1 = omega arith in
      ap (take (n + 1)) e ∙ take_at (insert (take n table) at b) (drop (n + 1) table) (n + 1) s ∙ entered_is k b (take n table) at p

  -- what a remove leaves in the first places
  pub leaves : (table' : List B) (m at : ℕ) → rising k 0 (take n table) ≡ true → Placed k m (take n table) (Ok at) → take (n - 1) table' ≡ remove (take n table) at → take (n - 1) table' ≡ without k m (take n table)
  leaves table' m at r p e = e ∙ without_is k 0 m (take n table) at r p

  module _ (in_order : lawful_table (ordered k) n table ≡ true) where
    -- the first places are places of the table
    pub within : n ≤ length table
    within = leb-true _ _ (and_parts (leb n (length table)) (ordered k (take n table)) in_order).0

    -- the numbers in them rise
    pub rises : rising k 0 (take n table) ≡ true
    rises = (and_parts (rising k 0 (take n table)) _ (and_parts (leb n (length table)) (ordered k (take n table)) in_order).1).0

    -- where a bid may be entered, a place is free
    pub room_for : (d : Demands B) (limits : Limits) (b : B) → first_of (enter_by k d limits (length table) (take n table) b) ≡ Ok tt → n < length table
    room_for d limits b h =
        let xs = take n table in
        let room = length table in
        let joins = d.joining xs b in
        let p = passed (identity_rule k b) (d.alone limits b ++ (fresh_rules k xs b ++ (d.beside xs b ++ (room_rule k room xs b ++ joins)))) h in
        let q = passed (d.alone limits b) (fresh_rules k xs b ++ (d.beside xs b ++ (room_rule k room xs b ++ joins))) p.1 in
        let r = passed (fresh_rules k xs b) (d.beside xs b ++ (room_rule k room xs b ++ joins)) q.1 in
        let s = passed (d.beside xs b) (room_rule k room xs b ++ joins) r.1 in
        let t = passed (room_rule k room xs b) joins s.1 in
        let f = room_free k room xs b t.0 in
        let w = within in
        let e = length-take n table in
        omega (arith, f, w, e)

  -- after a judgement that goes on, a place is free, and an insert there enters the bid
  pub judged : (in_order : lawful_table (ordered k) n table ≡ true) (d : Demands B) (limits : Limits) (b : B) (at : ℕ) → (first_of (enter_by k d limits (length table) (take (n - 0) table) b) ≡ Ok tt) × Placed k (k.number_of b) (take (n - 0) table) (Err at) → (n < length table) × ((table' : List B) → table' ≡ insert (take n table) at b ++ drop (n + 1) table → take (n + 1) table' ≡ entered k b (take n table))
  judged in_order d limits b at g =
      let h = whole_part (λ xs. (first_of (enter_by k d limits (length table) xs b) ≡ Ok tt) × Placed k (k.number_of b) xs (Err at)) n table g in
      let room = room_for in_order d limits b h.0 in
      (room, λ table' e. enters table' b at room h.1 e)
