-- Whole runs of calls.
use Rattle.std.specs.Prelude.{◌≡◌, true, false, cond, List, [], ◌∷◌, ◌++◌, Some, None, Ok, Err, Option, Result}
use Rattle.market.specs.Prices.{lawful}
use Rattle.market.specs.declared.limits.Limits.{Limits}
use Rattle.market.specs.declared.refusals.Refusal.{Refusal}
use Rattle.market.specs.declared.refusals.Rule.TheVariants as rules
use Rattle.bids.specs.Checks.{Answer}
use Rattle.register.specs.Lawful.{Tables}
use Rattle.register.specs.declared.lawful.Counts.{Counts}
use Rattle.day.specs.declared.calls.Call.{Call}
use Rattle.day.specs.declared.calls.Step.{Step}
use Rattle.day.specs.declared.states.Day.{Day}
use Rattle.day.specs.declared.states.Day.TheVariants.{Open, Closed}
use Rattle.day.specs.Book.{Book, opening, answer, next, Entry, after}
use Rattle.day.specs.Days.{Since, SinceClosed, places_of}

-- a day in any state tells its past
abbrev pub SinceDay : {C : Type 0} → Limits → List (Entry C) → Day C → Tables C → Type 0
SinceDay l past (Open day) t = Since l past day t
SinceDay l past (Closed day) t = SinceClosed l past day t

-- what becomes of a call by the book: it is not made where the day is closed, and else answered
abbrev pub outcome_by : {C : Type 0} → Counts → Book C → Call C → Option Answer
outcome_by places m c = cond m.closed None (Some (answer places m c))

-- the book after a call of a list
abbrev pub moved : {C : Type 0} → Counts → Book C → Call C → Book C
moved places m c = cond m.closed m (next places m c)

-- the steps of a list with what becomes of each by the book
abbrev pub played : {C : Type 0} → Counts → Book C → List (Step C) → List (Step C)
played places m [] = []
played places m (s ∷ steps) = record { call = s.call; outcome = outcome_by places m s.call } ∷ played places (moved places m s.call) steps

-- the calls of a list that are made, with their answers
abbrev pub past_of : {C : Type 0} → Counts → Book C → List (Step C) → List (Entry C)
past_of places m [] = []
past_of places m (s ∷ steps) = cond m.closed (past_of places m steps) (record { places = places; call = s.call; answered = answer places m s.call } ∷ past_of places (next places m s.call) steps)

-- a whole run: the limits are lawful, each step has what becomes of it by the book, and the day tells the past of all calls that were made
pub record Ran {C : Type 0} (l : Limits) (steps steps' : List (Step C)) (t t' : Tables C) (day : Day C) : Type 0 where
  pub lawful_limits : lawful l ≡ true
  pub answers : steps' ≡ played (places_of t) (opening l) steps
  pub tells : SinceDay l (past_of (places_of t) (opening l) steps) day t'

-- what a run of a list of calls gives: the day at its end, or the refusal of its limits, and then nothing is altered
abbrev pub Runs : {C : Type 0} → Limits → List (Step C) → List (Step C) → Tables C → Tables C → Result (Day C) Refusal → Type 0
Runs l steps steps' t t' (Ok day) = Ran l steps steps' t t' day
Runs l steps steps' t t' (Err e) = (lawful l ≡ false) × (e ≡ record { rule = rules.Limits; place = 0 }) × (steps' ≡ steps) × (t' ≡ t)

-- the past with one more call of a list: noted where it was made
abbrev pub noted_if_made : {C : Type 0} → List (Entry C) → Book C → Tables C → Call C → List (Entry C)
noted_if_made past m t c = cond m.closed past (past ++ record { places = places_of t; call = c; answered = answer (places_of t) m c } ∷ [])

-- a call of a list keeps what the day tells: whatever its past was, the outcome is the book's, the tables keep their lengths, and the day then tells the past with this call if it was made
pub record Moved {C : Type 0} (l : Limits) (past : List (Entry C)) (c : Call C) (t : Tables C) (o : Option Answer) (day' : Day C) (t' : Tables C) : Type 0 where
  pub outcome : o ≡ outcome_by (places_of t) (after (opening l) past) c
  pub places : places_of t' ≡ places_of t
  pub tells : SinceDay l (noted_if_made past (after (opening l) past) t c) day' t'

-- the same, of any past
abbrev pub MovesOn : {C : Type 0} → Call C → Day C → Tables C → Option Answer → Day C → Tables C → Type 0
MovesOn {C} c day t o day' t' = (l : Limits) (past : List (Entry C)) → SinceDay l past day t → Moved l past c t o day' t'
