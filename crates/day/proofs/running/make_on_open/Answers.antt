use Rattle.std.proofs.Common.{refl}
use Rattle.day.specs.declared.calls.Call.TheVariants as calls
use Rattle.day.proofs.Runs.{moves, moves_open}
use Rattle.day.proofs.running.make_on_open.Goals as goal

pub returns-in-Err : goal.returns-in-Err
returns-in-Err g c = rw c.in-Close.is (moves calls.Close _ _ _ _ _ c.in-Err.ensures.exact.0 refl c.in-Err.ensures.since)

pub returns-in-EnterHourly : goal.returns-in-EnterHourly
returns-in-EnterHourly g c = rw c.in-EnterHourly.is (moves_open (calls.EnterHourly c.in-EnterHourly.bid) _ _ _ _ _ c.enter_hourly-answer.ensures.exact c.enter_hourly-answer.ensures.since)

pub returns-in-EnterBlock : goal.returns-in-EnterBlock
returns-in-EnterBlock g c = rw c.in-EnterBlock.is (moves_open (calls.EnterBlock c.in-EnterBlock.bid) _ _ _ _ _ c.enter_block-answer.ensures.exact c.enter_block-answer.ensures.since)

pub returns-in-EnterFlexible : goal.returns-in-EnterFlexible
returns-in-EnterFlexible g c = rw c.in-EnterFlexible.is (moves_open (calls.EnterFlexible c.in-EnterFlexible.bid) _ _ _ _ _ c.enter_flexible-answer.ensures.exact c.enter_flexible-answer.ensures.since)

pub returns-in-WithdrawHourly : goal.returns-in-WithdrawHourly
returns-in-WithdrawHourly g c = rw c.in-WithdrawHourly.is (moves_open (calls.WithdrawHourly c.in-WithdrawHourly.number) _ _ _ _ _ c.withdraw_hourly-answer.ensures.exact c.withdraw_hourly-answer.ensures.since)

pub returns-in-WithdrawBlock : goal.returns-in-WithdrawBlock
returns-in-WithdrawBlock g c = rw c.in-WithdrawBlock.is (moves_open (calls.WithdrawBlock c.in-WithdrawBlock.number) _ _ _ _ _ c.withdraw_block-answer.ensures.exact c.withdraw_block-answer.ensures.since)

pub returns-in-WithdrawFlexible : goal.returns-in-WithdrawFlexible
returns-in-WithdrawFlexible g c = rw c.in-WithdrawFlexible.is (moves_open (calls.WithdrawFlexible c.in-WithdrawFlexible.number) _ _ _ _ _ c.withdraw_flexible-answer.ensures.exact c.withdraw_flexible-answer.ensures.since)
