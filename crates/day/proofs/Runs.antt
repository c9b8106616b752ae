-- The law over whole runs: a list of calls, one after the other.
use Rattle.std.proofs.Common.{◌≡◌, ℕ, ◌+◌, ◌<◌, Bool, true, false, cond, List, [], ◌∷◌, ◌++◌, length, get_or, take, drop, set, Some, None, Ok, Err, Option, sym, refl, ap, ◌∙◌, subst, append_assoc, arith, drop-set-lt}
use Rattle.std.proofs.lemmas.List.{take_more_set, drop_more}
use Rattle.std.proofs.lemmas.Bool.{cond-false}
use Rattle.market.specs.Prices.{lawful}
use Rattle.market.specs.declared.limits.Limits.{Limits}
use Rattle.bids.specs.Checks.{Answer, first_of}
use Rattle.register.specs.Lawful.{Tables}
use Rattle.register.specs.declared.lawful.Counts.{Counts}
use Rattle.day.specs.declared.calls.Call.{Call}
use Rattle.day.specs.declared.calls.Step.{Step}
use Rattle.day.specs.declared.states.OpenDay.{OpenDay}
use Rattle.day.specs.declared.states.Day.{Day}
use Rattle.day.specs.declared.states.Day.TheVariants as days
use Rattle.day.specs.Book.{Book, opening, answer, next, Entry, after}
use Rattle.day.specs.Days.{TellsOn, places_of, day_rules, Done, Since, noted}
use Rattle.day.specs.Runs.{SinceDay, outcome_by, moved, played, past_of, noted_if_made, MovesOn}
use Rattle.day.proofs.Past.{after_push, answers_as}

module _ {C : Type 0} where
  -- a call on an open day becomes what it answered
  pub moves : (c : Call C) (day : OpenDay C) (t : Tables C) (r : Answer) (day' : Day C) (t' : Tables C) → first_of (day_rules day.limits day.counts t c) ≡ r → places_of t' ≡ places_of t → ((l : Limits) (past : List (Entry C)) → Since l past day t → SinceDay l (noted past t c r) day' t') → MovesOn c (days.Open day) t (Some r) day' t'
  moves c day t r day' t' h p f = λ l past s.
      let m = after (opening l) past in
      let a : answer (places_of t) m c ≡ r = sym (answers_as l past day.limits day.counts t s c) ∙ h in
      record {
        outcome = sym (cond-false m.closed None (Some (answer (places_of t) m c)) s.state ∙ ap Some a);
        places = p;
        tells = subst (λ z. SinceDay l z day' t') (sym (cond-false m.closed past _ s.state ∙ ap (λ z. noted past t c z) a)) (f l past s);
      }

  -- a call that does not close the day
  pub moves_open : (c : Call C) (day : OpenDay C) (t : Tables C) (r : Answer) (day' : OpenDay C) (t' : Tables C) → Done c day t r day' t' → TellsOn c day t r day' t' → MovesOn c (days.Open day) t (Some r) (days.Open day') t'
  moves_open c day t (Ok tt) day' t' d f = moves c day t (Ok tt) (days.Open day') t' d.passes d.places f
  moves_open c day t (Err e) day' t' d f = moves c day t (Err e) (days.Open day') t' d.0 (ap places_of d.2) f

  -- ---- lists of calls
  -- the book after one more call of a list
  after_noted : (m : Book C) (past : List (Entry C)) (e : Entry C) (b : Bool) → after m (cond b past (past ++ e ∷ [])) ≡ cond b (after m past) (next e.places (after m past) e.call)
  after_noted m past e true = refl
  after_noted m past e false = after_push m past e

  -- the past with one more call, and with those that are left
  past_left : (left : Book C → List (Entry C)) (m n : Book C) (past : List (Entry C)) (e : Entry C) (b : Bool) → cond b past (past ++ e ∷ []) ++ left (cond b m n) ≡ past ++ cond b (left m) (e ∷ left n)
  past_left left m n past e true = refl
  past_left left m n past e false = append_assoc past (e ∷ []) (left n)

  -- a run so far: the first i steps have what became of them, and with what becomes of those that are left by the book they are the steps played; the calls made so far, with those that are left, are the past of all
  pub record Running (l : Limits) (places : Counts) (before : List (Step C)) (i : ℕ) (day : Day C) (t : Tables C) (steps : List (Step C)) : Type 0 where
    pub past : List (Entry C)
    pub lawful_limits : lawful l ≡ true
    pub same_places : places_of t ≡ places
    pub tells : SinceDay l past day t
    pub answers : take i steps ++ played places (after (opening l) past) (drop i steps) ≡ played places (opening l) before
    pub made : past ++ past_of places (after (opening l) past) (drop i steps) ≡ past_of places (opening l) before

  pub running_none : (l : Limits) (before : List (Step C)) (day : OpenDay C) (t : Tables C) → Since l [] day t → Running l (places_of t) before 0 (days.Open day) t before
  running_none l before day t s = record { past = []; lawful_limits = s.lawful_limits; same_places = refl; tells = s; answers = refl; made = refl }

  pub running_more : (l : Limits) (places : Counts) (before : List (Step C)) (i : ℕ) (day : Day C) (t : Tables C) (steps : List (Step C)) (d : Step C) (o : Option Answer) (day' : Day C) (t' : Tables C) → Running l places before i day t steps → i < length steps → MovesOn (get_or steps i d).call day t o day' t' → Running l places before (i + 1) day' t' (set steps i (record { call = (get_or steps i d).call; outcome = o }))
  running_more l places before i day t steps d o day' t' r h f =
      let m = after (opening l) r.past in
      let s = get_or steps i d in
      let v : Step C = record { call = s.call; outcome = o } in
      let e : Entry C = record { places = places_of t; call = s.call; answered = answer (places_of t) m s.call } in
      let rest = drop (i + 1) steps in
      let g = f l r.past r.tells in
      let left : drop (i + 1) (set steps i v) ≡ rest = drop-set-lt (i + 1) steps i v (omega arith) in
      let book : after (opening l) (noted_if_made r.past m t s.call) ≡ moved places m s.call = after_noted (opening l) r.past e m.closed ∙ ap (λ p. moved p m s.call) r.same_places in
      let out : o ≡ outcome_by places m s.call = g.outcome ∙ ap (λ p. outcome_by p m s.call) r.same_places in
      record {
        past = noted_if_made r.past m t s.call;
        lawful_limits = r.lawful_limits;
        same_places = g.places ∙ r.same_places;
        tells = g.tells;
        answers =
            ap (λ z. z ++ played places (after (opening l) (noted_if_made r.past m t s.call)) (drop (i + 1) (set steps i v))) (take_more_set steps i v h)
            ∙ ap (λ z. (take i steps ++ v ∷ []) ++ played places z (drop (i + 1) (set steps i v))) book
            ∙ ap (λ z. (take i steps ++ v ∷ []) ++ played places (moved places m s.call) z) left
            ∙ append_assoc (take i steps) (v ∷ []) (played places (moved places m s.call) rest)
            ∙ ap (λ z. take i steps ++ record { call = s.call; outcome = z } ∷ played places (moved places m s.call) rest) out
            ∙ ap (λ z. take i steps ++ played places m z) (sym (drop_more steps i d h))
            ∙ r.answers;
        made =
            ap (λ z. noted_if_made r.past m t s.call ++ past_of places (after (opening l) (noted_if_made r.past m t s.call)) z) left
            ∙ ap (λ z. noted_if_made r.past m t s.call ++ past_of places z rest) book
            ∙ ap (λ p. cond m.closed r.past (r.past ++ record { places = p; call = s.call; answered = answer p m s.call } ∷ []) ++ past_of places (moved places m s.call) rest) r.same_places
            ∙ past_left (λ z. past_of places z rest) m (next places m s.call) r.past (record { places = places; call = s.call; answered = answer places m s.call }) m.closed
            ∙ ap (λ z. r.past ++ past_of places m z) (sym (drop_more steps i d h))
            ∙ r.made;
      }
