-- What a call leaves of a day whose registers are lawful, where it changes one of them.
use Rattle.std.proofs.Common.{◌≡◌, ℕ, false, ◌≤◌, List, length, take, IsErrAnd, OnOk, OnErr, Ok, Err, sym, refl, ap, ◌∙◌}
use Rattle.std.proofs.lemmas.Result.{err_from_is_err_and}
use Rattle.market.specs.declared.refusals.Refusal.{Refusal}
use Rattle.bids.specs.Checks.{Answer, first_of}
use Rattle.bids.specs.declared.rows.HourlyBid.{HourlyBid}
use Rattle.bids.specs.declared.rows.BlockBid.{BlockBid}
use Rattle.bids.specs.declared.rows.FlexibleBid.{FlexibleBid}
use Rattle.bids.proofs.Checks.{goes, stops}
use Rattle.register.specs.Lawful.{Tables, register_rules}
use Rattle.register.specs.declared.lawful.Counts.{Counts}
use Rattle.register.proofs.Guards.{guarded}
use Rattle.day.specs.declared.calls.Call.{Call}
use Rattle.day.specs.declared.states.OpenDay.{OpenDay}
use Rattle.day.specs.Book.{call_rules, after_call, closes}
use Rattle.day.specs.Days.{places_of, standing, Within, Done, TellsOn}
use Rattle.day.proofs.Past.{tells_on}

-- one of the three registers: its count among the counts, and its table among the tables
pub record Part (C B : Type 0) : Type 0 where
  pub count : Counts → ℕ
  pub counted : Counts → ℕ → Counts
  pub table : Tables C → List B
  pub tabled : Tables C → List B → Tables C
  pub same_count : (n : Counts) → counted n (count n) ≡ n
  pub same_table : (t : Tables C) → tabled t (table t) ≡ t
  pub stands : (n : Counts) (t : Tables C) (m : ℕ) (xs : List B) → standing (counted n m) (tabled t xs) ≡ tabled (standing n t) (take m xs)
  pub within : (n : Counts) (t : Tables C) (m : ℕ) (xs : List B) → Within n t → m ≤ length xs → Within (counted n m) (tabled t xs)
  pub places : (t : Tables C) (xs : List B) → length xs ≡ length (table t) → places_of (tabled t xs) ≡ places_of t

abbrev pub hourly_part : {C : Type 0} → Part C (HourlyBid C)
hourly_part = record {
  count = λ n. n.hourly;
  counted = λ n m. record n { hourly = m };
  table = λ t. t.hourly;
  tabled = λ t xs. record t { hourly = xs };
  same_count = λ n. refl;
  same_table = λ t. refl;
  stands = λ n t m xs. refl;
  within = λ n t m xs w h. (h, w.1, w.2);
  places = λ t xs e. ap (λ z. record (places_of t) { hourly = z }) e;
}

abbrev pub block_part : {C : Type 0} → Part C BlockBid
block_part = record {
  count = λ n. n.blocks;
  counted = λ n m. record n { blocks = m };
  table = λ t. t.blocks;
  tabled = λ t xs. record t { blocks = xs };
  same_count = λ n. refl;
  same_table = λ t. refl;
  stands = λ n t m xs. refl;
  within = λ n t m xs w h. (w.0, h, w.2);
  places = λ t xs e. ap (λ z. record (places_of t) { blocks = z }) e;
}

abbrev pub flexible_part : {C : Type 0} → Part C FlexibleBid
flexible_part = record {
  count = λ n. n.flexible;
  counted = λ n m. record n { flexible = m };
  table = λ t. t.flexible;
  tabled = λ t xs. record t { flexible = xs };
  same_count = λ n. refl;
  same_table = λ t. refl;
  stands = λ n t m xs. refl;
  within = λ n t m xs w h. (w.0, w.1, h);
  places = λ t xs e. ap (λ z. record (places_of t) { flexible = z }) e;
}

module _ {C : Type 0} (day : OpenDay C) (t : Tables C) (c : Call C) (stays : closes c ≡ false) where
  -- a call at registers that are not lawful alters nothing
  pub stopped : (r : Answer) (e : Refusal) → IsErrAnd r (λ y. y ≡ e) → Err e ≡ first_of (register_rules day.limits day.counts t) → Done c day t r day t × TellsOn c day t r day t
  stopped r e s h =
      let d : Done c day t (Err e) day t = (stops (register_rules day.limits day.counts t) (call_rules day.limits (places_of t) (standing day.counts t) c) e (sym h), refl, refl) in
      let both : Done c day t (Err e) day t × TellsOn c day t (Err e) day t = (d, tells_on c day t (Err e) day t stays d) in
      let p = err_from_is_err_and r s in
      rw (p.1, p.2) both

  -- a call at lawful registers is answered by its own rules, and leaves the bids of one register as they are after it, or alters nothing
  pub made : {B : Type 0} (p : Part C B) (bids : List B) (r : Answer) (n : ℕ) (xs : List B)
      → p.tabled (standing day.counts t) bids ≡ after_call (standing day.counts t) c
      → Ok tt ≡ first_of (register_rules day.limits day.counts t)
      → r ≡ first_of (call_rules day.limits (places_of t) (standing day.counts t) c)
      → OnOk r (take n xs ≡ bids)
      → n ≤ length xs
      → length xs ≡ length (p.table t)
      → OnErr r (n ≡ p.count day.counts)
      → OnErr r (xs ≡ p.table t)
      → Done c day t r (record day { counts = p.counted day.counts n }) (p.tabled t xs)
  made p bids (Ok tt) n xs a h v b w s e f =
      let g = guarded day.limits day.counts t (sym h) in
      record {
        passes = goes (register_rules day.limits day.counts t) (call_rules day.limits (places_of t) (standing day.counts t) c) (sym h) ∙ sym v;
        limits = refl;
        bids = p.stands day.counts t n xs ∙ ap (p.tabled (standing day.counts t)) b ∙ a;
        within = p.within day.counts t n xs (g.hourly_within, g.blocks_within, g.flexible_within) w;
        places = p.places t xs s;
      }
  made p bids (Err x) n xs a h v b w s e f =
      (goes (register_rules day.limits day.counts t) (call_rules day.limits (places_of t) (standing day.counts t) c) (sym h) ∙ sym v, ap (λ m. record day { counts = p.counted day.counts m }) e ∙ ap (λ m. record day { counts = m }) (p.same_count day.counts), ap (p.tabled t) f ∙ p.same_table t)

  -- and keeps what the day tells
  pub answered : {B : Type 0} (p : Part C B) (bids : List B) (r : Answer) (n : ℕ) (xs : List B)
      → p.tabled (standing day.counts t) bids ≡ after_call (standing day.counts t) c
      → Ok tt ≡ first_of (register_rules day.limits day.counts t)
      → r ≡ first_of (call_rules day.limits (places_of t) (standing day.counts t) c)
      → OnOk r (take n xs ≡ bids)
      → n ≤ length xs
      → length xs ≡ length (p.table t)
      → OnErr r (n ≡ p.count day.counts)
      → OnErr r (xs ≡ p.table t)
      → Done c day t r (record day { counts = p.counted day.counts n }) (p.tabled t xs) × TellsOn c day t r (record day { counts = p.counted day.counts n }) (p.tabled t xs)
  answered p bids r n xs a h v b w s e f =
      let d = made p bids r n xs a h v b w s e f in
      (d, tells_on c day t r (record day { counts = p.counted day.counts n }) (p.tabled t xs) stays d)
