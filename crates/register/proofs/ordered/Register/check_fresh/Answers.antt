use Rattle.std.proofs.Common.{Err, subst, arith}
use Rattle.std.proofs.lemmas.Result.{err_from_is_err_and}
use Rattle.std.proofs.lemmas.Bool.Decides.{nat_tests}
use Rattle.register.specs.Order.{Placed}
use Rattle.register.proofs.Laws.{stands_is}
use Rattle.register.proofs.ordered.Register.check_fresh.Goals as goal

pub returns-in_default : goal.returns-in_default
returns-in_default g c =
    let s = stands_is g.B.Bid.kind c.number-number.result c.args.self.now.bids.now c.find.result c.find.ensures in
    grind (arith, nat_tests)

pub returns-in_err-refuse_if : goal.returns-in_err-refuse_if
returns-in_err-refuse_if g c =
    let s = stands_is g.B.Bid.kind c.number-number.result c.args.self.now.bids.now c.find.result c.find.ensures in
    let p = err_from_is_err_and c.from_residual.result c.from_residual.ensures.1 in
    let e = c.in_err-refuse_if.ensures in
    rw (p.1, p.2) (grind (arith, nat_tests))

pub returns : goal.returns
returns g c =
    let s = stands_is g.B.Bid.kind c.number-number.result c.args.self.now.bids.now c.find.result c.find.ensures in
    let e = c.in_ok-refuse_if.ensures in
    (grind (arith, nat_tests), subst (λ n. Placed g.B.Bid.kind n c.args.self.now.bids.now (Err c.in-Err.place)) c.number-number.ensures c.in-Err.ensures)
