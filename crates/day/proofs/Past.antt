-- The law over runs: one more call.
use Rattle.std.proofs.Common.{◌≡◌, true, false, cond, ◌||◌, List, [], ◌∷◌, ◌++◌, is_ok, Ok, Err, Result, sym, refl, ap, ◌∙◌, subst}
use Rattle.std.proofs.lemmas.Bool.{cond_both}
use Rattle.market.specs.declared.limits.Limits.{Limits}
use Rattle.market.specs.declared.refusals.Refusal.{Refusal}
use Rattle.bids.specs.Checks.{Answer, first_of}
use Rattle.bids.proofs.Checks.{goes}
use Rattle.register.specs.Lawful.{Tables, hourly_kept, blocks_kept, flexible_kept, register_rules}
use Rattle.register.specs.declared.lawful.Counts.{Counts}
use Rattle.register.proofs.EntryLaws.{hourly_enters, hourly_leaves, block_enters, block_leaves, flexible_enters, flexible_leaves}
use Rattle.register.proofs.FamilyLaws.{families_none}
use Rattle.day.specs.declared.calls.Call.{Call}
use Rattle.day.specs.declared.calls.Call.TheVariants as calls
use Rattle.day.specs.declared.states.OpenDay.{OpenDay}
use Rattle.day.specs.declared.states.ClosedDay.{ClosedDay}
use Rattle.day.specs.Book.{Book, opening, call_rules, after_call, closes, answer, next, Entry, after, Answered}
use Rattle.day.specs.Days.{places_of, standing, Within, day_rules, Done, Closed, Told, noted, TellsOn, TellsOnClosed}
use Rattle.register.proofs.Guards.{Guarded, guard_passes}

-- bids that may stand together, of all three kinds
record AllKept {C : Type 0} (l : Limits) (x : Tables C) : Type 0 where
  pub hourly_right : hourly_kept x.hourly ≡ true
  pub blocks_right : blocks_kept l x.blocks ≡ true
  pub flexible_right : flexible_kept l x.flexible ≡ true

is_done : (r : Answer) → is_ok r ≡ true → r ≡ Ok tt
is_done (Ok tt) h = refl
is_done (Err e) h = absurd cc

module _ {C : Type 0} where
  pub after_push : (m : Book C) (past : List (Entry C)) (e : Entry C) → after m (past ++ e ∷ []) ≡ next e.places (after m past) e.call
  after_push m [] e = refl
  after_push m (x ∷ past) e = after_push (next x.places m x.call) past e

  answered_push : (m : Book C) (past : List (Entry C)) (e : Entry C) → Answered m past → (after m past).closed ≡ false → e.answered ≡ answer e.places (after m past) e.call → Answered m (past ++ e ∷ [])
  answered_push m [] e a o h = (o, h, tt)
  answered_push m (x ∷ past) e a o h = (a.0, a.1, answered_push (next x.places m x.call) past e a.2 o h)

  limits_next : (places : Counts) (m : Book C) (c : Call C) → (next places m c).limits ≡ m.limits
  limits_next places m c = cond_both (is_ok (answer places m c)) _ m (λ z. z.limits ≡ m.limits) (λ _. refl) (λ _. refl)

  limits_after : (m : Book C) (past : List (Entry C)) → (after m past).limits ≡ m.limits
  limits_after m [] = refl
  limits_after m (x ∷ past) = limits_after (next x.places m x.call) past ∙ limits_next x.places m x.call

  -- bids that may stand together still may after a call that succeeds
  kept_call : (l : Limits) (places : Counts) (x : Tables C) (c : Call C) → AllKept l x → first_of (call_rules l places x c) ≡ Ok tt → AllKept l (after_call x c)
  kept_call l places x (calls.EnterHourly b) k h = record { hourly_right = hourly_enters places.hourly x.hourly b k.hourly_right h; blocks_right = k.blocks_right; flexible_right = k.flexible_right }
  kept_call l places x (calls.EnterBlock b) k h = record { hourly_right = k.hourly_right; blocks_right = block_enters l places.blocks x.blocks b k.blocks_right h; flexible_right = k.flexible_right }
  kept_call l places x (calls.EnterFlexible b) k h = record { hourly_right = k.hourly_right; blocks_right = k.blocks_right; flexible_right = flexible_enters l places.flexible x.flexible b k.flexible_right h }
  kept_call l places x (calls.WithdrawHourly n) k h = record { hourly_right = hourly_leaves n x.hourly k.hourly_right; blocks_right = k.blocks_right; flexible_right = k.flexible_right }
  kept_call l places x (calls.WithdrawBlock n) k h = record { hourly_right = k.hourly_right; blocks_right = block_leaves l n x.blocks k.blocks_right h; flexible_right = k.flexible_right }
  kept_call l places x (calls.WithdrawFlexible n) k h = record { hourly_right = k.hourly_right; blocks_right = k.blocks_right; flexible_right = flexible_leaves l n x.flexible k.flexible_right }
  kept_call l places x calls.Close k h = k

  kept_next : (places : Counts) (m : Book C) (c : Call C) → AllKept m.limits m.bids → AllKept m.limits (next places m c).bids
  kept_next places m c k =
      cond_both (is_ok (answer places m c)) _ m (λ z. AllKept m.limits z.bids) (λ e. kept_call m.limits places m.bids c k (is_done _ e)) (λ _. k)

  -- whatever was called, the bids of the book may stand together
  kept_after : (m : Book C) (past : List (Entry C)) → AllKept m.limits m.bids → AllKept m.limits (after m past).bids
  kept_after m [] k = k
  kept_after m (x ∷ past) k =
      let e = limits_next x.places m x.call in
      let j = subst (λ l. AllKept l (next x.places m x.call).bids) (sym e) (kept_next x.places m x.call k) in
      subst (λ l. AllKept l (after (next x.places m x.call) past).bids) e (kept_after (next x.places m x.call) past j)

  none_kept : (l : Limits) → AllKept {C = C} l (record { hourly = []; blocks = []; flexible = [] })
  none_kept l = record { hourly_right = refl; blocks_right = families_none; flexible_right = refl }

  -- the book after a call that is answered so
  next_done : (places : Counts) (m : Book C) (c : Call C) → answer places m c ≡ Ok tt → next places m c ≡ record { limits = m.limits; bids = after_call m.bids c; closed = closes c || m.closed }
  next_done places m c h = ap (λ r. cond (is_ok r) (record { limits = m.limits; bids = after_call m.bids c; closed = closes c || m.closed }) m) h

  next_refused : (places : Counts) (m : Book C) (c : Call C) (e : Refusal) → answer places m c ≡ Err e → next places m c ≡ m
  next_refused places m c e h = ap (λ r. cond (is_ok r) (record { limits = m.limits; bids = after_call m.bids c; closed = closes c || m.closed }) m) h

  module _ (l : Limits) (past : List (Entry C)) (limits : Limits) (n : Counts) (t : Tables C) (s : Told l past false limits n t) where
    -- the registers of a day that tells its past are lawful
    guard : Guarded limits n t
    guard =
        let k = kept_after (opening l) past (none_kept l) in
        let j : AllKept limits (standing n t) = subst (λ z. AllKept limits z) (sym s.same_bids) (subst (λ z. AllKept z (after (opening l) past).bids) (sym s.same_limits) k) in
        let w = s.within in
        record { hourly_within = w.0; blocks_within = w.1; flexible_within = w.2; hourly_right = j.hourly_right; blocks_right = j.blocks_right; flexible_right = j.flexible_right }

    -- such a day answers as the book
    pub answers_as : (c : Call C) → first_of (day_rules limits n t c) ≡ answer (places_of t) (after (opening l) past) c
    answers_as c =
        goes (register_rules limits n t) (call_rules limits (places_of t) (standing n t) c) (guard_passes limits n t guard)
        ∙ ap (λ z. first_of (call_rules z (places_of t) (standing n t) c)) (s.same_limits ∙ sym (limits_after (opening l) past))
        ∙ ap (λ x. first_of (call_rules (after (opening l) past).limits (places_of t) x c)) s.same_bids

    -- one more call that succeeds
    pub told_done : (c : Call C) (limits' : Limits) (n' : Counts) (t' : Tables C) → first_of (day_rules limits n t c) ≡ Ok tt → limits' ≡ limits → standing n' t' ≡ after_call (standing n t) c → Within n' t' → Told l (noted past t c (Ok tt)) (closes c || false) limits' n' t'
    told_done c limits' n' t' h e b w =
        let entry : Entry C = record { places = places_of t; call = c; answered = Ok tt } in
        let a = sym (answers_as c) ∙ h in
        let p = after_push (opening l) past entry ∙ next_done (places_of t) (after (opening l) past) c a in
        record {
          lawful_limits = s.lawful_limits;
          answers = answered_push (opening l) past entry s.answers s.state (sym a);
          same_limits = e ∙ s.same_limits;
          same_bids = b ∙ ap (λ x. after_call x c) s.same_bids ∙ sym (ap (λ z. z.bids) p);
          within = w;
          state = ap (λ z. z.closed) p ∙ ap (λ z. closes c || z) s.state;
        }

    -- one more call that is refused
    pub told_refused : (c : Call C) (e : Refusal) → first_of (day_rules limits n t c) ≡ Err e → Told l (noted past t c (Err e)) false limits n t
    told_refused c e h =
        let entry : Entry C = record { places = places_of t; call = c; answered = Err e } in
        let a = sym (answers_as c) ∙ h in
        let p = after_push (opening l) past entry ∙ next_refused (places_of t) (after (opening l) past) c e a in
        record {
          lawful_limits = s.lawful_limits;
          answers = answered_push (opening l) past entry s.answers s.state (sym a);
          same_limits = s.same_limits;
          same_bids = s.same_bids ∙ sym (ap (λ z. z.bids) p);
          within = s.within;
          state = ap (λ z. z.closed) p ∙ s.state;
        }

  -- a call that does not close the day keeps what the day tells
  pub tells_on : (c : Call C) (day : OpenDay C) (t : Tables C) (r : Answer) (day' : OpenDay C) (t' : Tables C) → closes c ≡ false → Done c day t r day' t' → TellsOn c day t r day' t'
  tells_on c day t (Ok tt) day' t' o d l past s =
      subst (λ z. Told l (noted past t c (Ok tt)) (z || false) day'.limits day'.counts t') o (told_done l past day.limits day.counts t s c day'.limits day'.counts t' d.passes d.limits d.bids d.within)
  tells_on c day t (Err e) day' t' o d l past s =
      subst (λ z. Told l (noted past t c (Err e)) false z.limits z.counts t') (sym d.1)
      (subst (λ z. Told l (noted past t c (Err e)) false day.limits day.counts z) (sym d.2) (told_refused l past day.limits day.counts t s c e d.0))

  -- closing keeps what the day tells
  pub tells_on_closed : (day : OpenDay C) (t : Tables C) (r : Result (ClosedDay C) (OpenDay C × Refusal)) → Closed day t r → TellsOnClosed day t r
  tells_on_closed day t (Ok d) h = λ l past s.
      told_done l past day.limits day.counts t s calls.Close d.limits d.counts t h.0 h.1 (ap (λ n. standing n t) h.2) (subst (λ n. Within n t) (sym h.2) s.within)
  tells_on_closed day t (Err e) h = λ l past s.
      subst (λ z. Told l (noted past t calls.Close (Err e.1)) false z.limits z.counts t) (sym h.1) (told_refused l past day.limits day.counts t s calls.Close e.1 h.0)
