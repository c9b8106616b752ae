-- What the lines of a day are answered.
use Rattle.std.specs.Prelude.{ℕ, zero, suc, Bool, cond, List, [], ◌∷◌, Some, None, Option, Result, Ok, Err}
use Rattle.bids.specs.Checks as checks
use Rattle.day.specs.declared.calls.Step.{Step}
use Rattle.docket.specs.declared.answers.Hindrance.TheVariants.{DayOpen, DayClosed, NotCleared, NotJudged}
use Rattle.docket.specs.declared.answers.Denial.{Denial}
use Rattle.docket.specs.declared.answers.Denial.TheVariants.{Refused, NotAllowed}
use Rattle.docket.specs.declared.agenda.Subject.{Subject}
use Rattle.docket.specs.declared.agenda.Subject.TheVariants as subjects

-- what a call is answered: success, or why it did not succeed
abbrev pub Answer : Type 0
Answer = Result (Unit {0}) Denial

-- the answer to a call that a day was given; only a closed day does not have every such call
abbrev pub told : Option checks.Answer → Answer
told None = Err (NotAllowed DayClosed)
told (Some (Ok _)) = Ok tt
told (Some (Err r)) = Err (Refused r)

-- what became of the call of the step at i; a call of no step was not made
abbrev pub became : {C : Type 0} → List (Step C) → ℕ → Option checks.Answer
became [] i = None
became (s ∷ ss) zero = s.outcome
became (s ∷ ss) (suc i) = became ss i

-- the answer to what a line asks for, by the steps of its day and whether the day is closed by then
abbrev pub answered : {C : Type 0} → List (Step C) → Subject → Bool → Answer
answered ss (subjects.RefusedOpening r) closed = Err (Refused r)
answered ss (subjects.RefusedCurve r) closed = Err (cond closed (NotAllowed DayClosed) (Refused r))
answered ss (subjects.Step i) closed = told (became ss i)
answered ss (subjects.Close i) closed = told (became ss i)
answered ss subjects.Verdict closed = Err (NotAllowed (cond closed NotJudged DayOpen))
answered ss subjects.Settlement closed = Err (NotAllowed NotCleared)
