use Rattle.std.proofs.Common.{length}
use Rattle.day.proofs.Runs.{Running}
use Rattle.day.proofs.running.run.Given as goal

abbrev pub invariant-loop-step : goal.invariant-loop-step
invariant-loop-step g l =
    Running (record { lowest = l.lowest; highest = l.highest }) (record { hourly = length l.initial.hourly; blocks = length l.initial.blocks; flexible = length l.initial.flexible }) l.initial.steps l.step-index l.day (record { hourly = l.hourly; blocks = l.blocks; flexible = l.flexible }) l.steps
