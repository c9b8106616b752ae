use Rattle.std.proofs.Common.{arith}
use Rattle.day.proofs.Runs.{running_none, running_more}
use Rattle.day.proofs.running.run.Goals as goal

pub loop-step-init : goal.loop-step-init
loop-step-init g c = running_none _ _ _ _ (c.in_ok-open.ensures.since _)

pub loop-step-preserved : goal.loop-step-preserved
loop-step-preserved g c =
    running_more _ _ _ _ _ _ _ c.step-item.result _ _ _ c.loop-step.invariant (omega (arith, c.loop-step.auto.steps, c.loop-step-test.true)) c.make-next.ensures
