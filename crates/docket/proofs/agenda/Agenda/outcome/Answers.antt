use Rattle.std.proofs.Common.{ap, ◌∙◌, rules}
use Rattle.docket.specs.Answers.{became}
use Rattle.docket.proofs.Steps.{became_found}
use Rattle.docket.proofs.agenda.Agenda.outcome.Goals as goal

pub returns : goal.returns
returns c = became_found _ _ c.get.result _ c.get.ensures.lookup (search rules) ∙ ap (λ ss. became ss c.args.index) c.deref.ensures.value
