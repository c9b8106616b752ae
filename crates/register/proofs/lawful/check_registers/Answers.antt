use Rattle.std.proofs.Common.{◌≡◌, ◌↔◌, Ok, sym, subst}
use Rattle.bids.specs.Checks.{Answer}
use Rattle.register.specs.Views.{lists}
use Rattle.register.specs.Words.{LawfulRegisters}
use Rattle.register.proofs.Words.{registers_in_words}
use Rattle.register.proofs.lawful.check_registers.Goals as goal

pub returns-clause-words : goal.returns-clause-words
returns-clause-words g c = subst (λ (z : Answer). (z ≡ Ok tt) ↔ LawfulRegisters c.args.limits c.args.counts (lists c.args.tables)) (sym c.first_unlawful.ensures) (registers_in_words c.args.limits c.args.counts (lists c.args.tables))
