-- What each call of a day does, at any tables, and what a day tells of its past.
use Rattle.std.specs.Prelude.{◌≡◌, ◌≤◌, Bool, true, false, List, [], ◌∷◌, ◌++◌, length, take, Ok, Err, Result}
use Rattle.market.specs.Prices.{lawful}
use Rattle.market.specs.declared.limits.Limits.{Limits}
use Rattle.market.specs.declared.refusals.Refusal.{Refusal}
use Rattle.market.specs.declared.refusals.Rule.TheVariants as rules
use Rattle.bids.specs.Checks.{Answer, first_of}
use Rattle.register.specs.Entries.{Rules}
use Rattle.register.specs.Lawful.{Tables, register_rules}
use Rattle.register.specs.declared.lawful.Counts.{Counts}
use Rattle.day.specs.declared.calls.Call.{Call}
use Rattle.day.specs.declared.calls.Call.TheVariants as calls
use Rattle.day.specs.declared.states.OpenDay.{OpenDay}
use Rattle.day.specs.declared.states.ClosedDay.{ClosedDay}
use Rattle.day.specs.Book.{opening, call_rules, after_call, Entry, after, Answered}

-- how many places the tables have
abbrev pub places_of : {C : Type 0} → Tables C → Counts
places_of t = record { hourly = length t.hourly; blocks = length t.blocks; flexible = length t.flexible }

-- the bids in the first places of the tables
abbrev pub standing : {C : Type 0} → Counts → Tables C → Tables C
standing n t = record { hourly = take n.hourly t.hourly; blocks = take n.blocks t.blocks; flexible = take n.flexible t.flexible }

-- the tables have at least as many places as bids are counted
abbrev pub Within : {C : Type 0} → Counts → Tables C → Type 0
Within n t = (n.hourly ≤ length t.hourly) × (n.blocks ≤ length t.blocks) × (n.flexible ≤ length t.flexible)

-- the rules by which a day answers a call: its registers are lawful, then the call's own
abbrev pub day_rules : {C : Type 0} → Limits → Counts → Tables C → Call C → Rules
day_rules l n t c = register_rules l n t ++ call_rules l (places_of t) (standing n t) c

-- a call that succeeds: no rule is broken, the limits stay, and the bids are those after the call
pub record Made {C : Type 0} (call : Call C) (day : OpenDay C) (t : Tables C) (day' : OpenDay C) (t' : Tables C) : Type 0 where
  pub passes : first_of (day_rules day.limits day.counts t call) ≡ Ok tt
  pub limits : day'.limits ≡ day.limits
  pub bids : standing day'.counts t' ≡ after_call (standing day.counts t) call
  pub within : Within day'.counts t'
  pub places : places_of t' ≡ places_of t

-- what a call does to a day and its tables: it succeeds, or it is refused by the first rule that is broken and alters nothing
abbrev pub Done : {C : Type 0} → Call C → OpenDay C → Tables C → Answer → OpenDay C → Tables C → Type 0
Done c day t (Ok _) day' t' = Made c day t day' t'
Done c day t (Err e) day' t' = (first_of (day_rules day.limits day.counts t c) ≡ Err e) × (day' ≡ day) × (t' ≡ t)

-- a day closes with its limits and bids, or comes back as it was
abbrev pub Closed : {C : Type 0} → OpenDay C → Tables C → Result (ClosedDay C) (OpenDay C × Refusal) → Type 0
Closed day t (Ok d) = (first_of (day_rules day.limits day.counts t calls.Close) ≡ Ok tt) × (d.limits ≡ day.limits) × (d.counts ≡ day.counts)
Closed day t (Err e) = (first_of (day_rules day.limits day.counts t calls.Close) ≡ Err e.1) × (e.0 ≡ day)

-- what a day with these limits, counts and tables tells of its past since it was opened: its limits are lawful, every call was answered as the plain book answers it, and the bids in the first places of its tables are exactly the book's
pub record Told {C : Type 0} (opened : Limits) (past : List (Entry C)) (closed : Bool) (limits : Limits) (counts : Counts) (t : Tables C) : Type 0 where
  pub lawful_limits : lawful opened ≡ true
  pub answers : Answered (opening opened) past
  pub same_limits : limits ≡ opened
  pub same_bids : standing counts t ≡ (after (opening opened) past).bids
  pub within : Within counts t
  pub state : (after (opening {C = C} opened) past).closed ≡ closed

-- an open day tells its past
abbrev pub Since : {C : Type 0} → Limits → List (Entry C) → OpenDay C → Tables C → Type 0
Since l past day t = Told l past false day.limits day.counts t

-- a closed day tells its past
abbrev pub SinceClosed : {C : Type 0} → Limits → List (Entry C) → ClosedDay C → Tables C → Type 0
SinceClosed l past day t = Told l past true day.limits day.counts t

-- the past with one more call, lent these tables, and its answer
abbrev pub noted : {C : Type 0} → List (Entry C) → Tables C → Call C → Answer → List (Entry C)
noted past t c r = past ++ record { places = places_of t; call = c; answered = r } ∷ []

-- the call keeps what the day tells: whatever its past was, it then tells the past with this call and its answer
abbrev pub TellsOn : {C : Type 0} → Call C → OpenDay C → Tables C → Answer → OpenDay C → Tables C → Type 0
TellsOn {C} c day t r day' t' = (l : Limits) (past : List (Entry C)) → Since l past day t → Since l (noted past t c r) day' t'

-- the same of closing, where the day may be another after it
abbrev pub TellsOnClosed : {C : Type 0} → OpenDay C → Tables C → Result (ClosedDay C) (OpenDay C × Refusal) → Type 0
TellsOnClosed {C} day t (Ok d) = (l : Limits) (past : List (Entry C)) → Since l past day t → SinceClosed l (noted past t calls.Close (Ok tt)) d t
TellsOnClosed {C} day t (Err e) = (l : Limits) (past : List (Entry C)) → Since l past day t → Since l (noted past t calls.Close (Err e.1)) e.0 t

-- what opening gives: a day without bids under the limits where they are lawful, and else the refusal at place 0
abbrev pub Opened : {C : Type 0} → Limits → Result (OpenDay C) Refusal → Type 0
Opened l (Ok day) = (lawful l ≡ true) × (day.limits ≡ l) × (day.counts ≡ record { hourly = 0; blocks = 0; flexible = 0 })
Opened l (Err e) = (lawful l ≡ false) × (e ≡ record { rule = rules.Limits; place = 0 })

-- a day that was opened tells the empty past, whatever lies in the tables
abbrev pub TellsNone : {C : Type 0} → Limits → Result (OpenDay C) Refusal → Type 0
TellsNone {C} l (Ok day) = (t : Tables C) → Since l [] day t
TellsNone l (Err e) = Unit {0}
