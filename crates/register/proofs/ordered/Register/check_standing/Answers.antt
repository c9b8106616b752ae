use Rattle.std.proofs.Common.{arith}
use Rattle.std.proofs.lemmas.Bool.Decides.{nat_tests}
use Rattle.register.proofs.Laws.{stands_is}
use Rattle.register.proofs.ordered.Register.check_standing.Goals as goal

pub returns-in-Ok : goal.returns-in-Ok
returns-in-Ok g c =
    let s = stands_is g.B.Bid.kind c.args.number c.args.self.now.bids.now c.find.result c.find.ensures in
    (grind (arith, nat_tests), c.in-Ok.ensures)

pub returns-in-Err : goal.returns-in-Err
returns-in-Err g c =
    let s = stands_is g.B.Bid.kind c.args.number c.args.self.now.bids.now c.find.result c.find.ensures in
    grind (arith, nat_tests)
