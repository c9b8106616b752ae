use Rattle.std.proofs.Common.{Ok, Err, sym, refl}
use Rattle.register.specs.Views.{lists}
use Rattle.day.proofs.Past.{tells_on_closed}
use Rattle.day.proofs.states.OpenDay.close.Goals as goal

pub returns-in-Err-clause-since : goal.returns-in-Err-clause-since
returns-in-Err-clause-since g c = tells_on_closed c.args.self (lists c.args.tables) (Err (c.args.self, c.in-Err.refusal)) (sym c.in-Err.ensures.value, refl)

pub returns-clause-since : goal.returns-clause-since
returns-clause-since g c = tells_on_closed c.args.self (lists c.args.tables) (Ok _) (sym c.in_default.ensures.value, refl, refl)
