-- The plain book of a day: what each call answers, and what stands after it, from the calls alone.
use Rattle.std.specs.Prelude.{◌≡◌, Bool, true, false, cond, ◌||◌, List, [], ◌∷◌, is_ok}
use Rattle.market.specs.declared.limits.Limits.{Limits}
use Rattle.bids.specs.Checks.{Answer, first_of}
use Rattle.bids.specs.Registers.{hourly, block, flexible}
use Rattle.register.specs.Order.{entered, without}
use Rattle.register.specs.Entries.{Rules, enter_hourly, enter_block, enter_flexible, standing_rule, withdraw_block}
use Rattle.register.specs.Lawful.{Tables}
use Rattle.register.specs.declared.lawful.Counts.{Counts}
use Rattle.day.specs.declared.calls.Call.{Call}
use Rattle.day.specs.declared.calls.Call.TheVariants as calls

-- the book: the limits of the opening, the bids by rising number, and whether the day was closed
pub record Book (C : Type 0) : Type 0 where
  pub limits : Limits
  pub bids : Tables C
  pub closed : Bool

-- the book at the opening: no bids
abbrev pub opening : {C : Type 0} → Limits → Book C
opening l = record { limits = l; bids = record { hourly = []; blocks = []; flexible = [] }; closed = false }

-- the rules by which a call is answered, with tables of so many places, on these bids
abbrev pub call_rules : {C : Type 0} → Limits → Counts → Tables C → Call C → Rules
call_rules l places x (calls.EnterHourly b) = enter_hourly places.hourly x.hourly b
call_rules l places x (calls.EnterBlock b) = enter_block l places.blocks x.blocks b
call_rules l places x (calls.EnterFlexible b) = enter_flexible l places.flexible x.flexible b
call_rules l places x (calls.WithdrawHourly n) = standing_rule hourly x.hourly n
call_rules l places x (calls.WithdrawBlock n) = withdraw_block x.blocks n
call_rules l places x (calls.WithdrawFlexible n) = standing_rule flexible x.flexible n
call_rules l places x calls.Close = []

-- the bids after a call that succeeds
abbrev pub after_call : {C : Type 0} → Tables C → Call C → Tables C
after_call x (calls.EnterHourly b) = record { hourly = entered hourly b x.hourly; blocks = x.blocks; flexible = x.flexible }
after_call x (calls.EnterBlock b) = record { hourly = x.hourly; blocks = entered block b x.blocks; flexible = x.flexible }
after_call x (calls.EnterFlexible b) = record { hourly = x.hourly; blocks = x.blocks; flexible = entered flexible b x.flexible }
after_call x (calls.WithdrawHourly n) = record { hourly = without hourly n x.hourly; blocks = x.blocks; flexible = x.flexible }
after_call x (calls.WithdrawBlock n) = record { hourly = x.hourly; blocks = without block n x.blocks; flexible = x.flexible }
after_call x (calls.WithdrawFlexible n) = record { hourly = x.hourly; blocks = x.blocks; flexible = without flexible n x.flexible }
after_call x calls.Close = x

-- whether a call closes the day
abbrev pub closes : {C : Type 0} → Call C → Bool
closes (calls.EnterHourly b) = false
closes (calls.EnterBlock b) = false
closes (calls.EnterFlexible b) = false
closes (calls.WithdrawHourly n) = false
closes (calls.WithdrawBlock n) = false
closes (calls.WithdrawFlexible n) = false
closes calls.Close = true

-- what the book answers a call that is lent tables of so many places: the refusal by the first rule that is broken, or done
abbrev pub answer : {C : Type 0} → Counts → Book C → Call C → Answer
answer places m c = first_of (call_rules m.limits places m.bids c)

-- the book after a call: a refused one changes nothing
abbrev pub next : {C : Type 0} → Counts → Book C → Call C → Book C
next places m c = cond (is_ok (answer places m c)) (record { limits = m.limits; bids = after_call m.bids c; closed = closes c || m.closed }) m

-- one call that was made, with how many places the tables had that it was lent, and what it answered
pub record Entry (C : Type 0) : Type 0 where
  pub places : Counts
  pub call : Call C
  pub answered : Answer

-- the book after the calls of a past
abbrev pub after : {C : Type 0} → Book C → List (Entry C) → Book C
after m [] = m
after m (e ∷ past) = after (next e.places m e.call) past

-- every call of a past was one that the state of the day has, and was answered as the book answers it at that point
abbrev pub Answered : {C : Type 0} → Book C → List (Entry C) → Type 0
Answered m [] = Unit {0}
Answered m (e ∷ past) = (m.closed ≡ false) × (e.answered ≡ answer e.places m e.call) × Answered (next e.places m e.call) past
