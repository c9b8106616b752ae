use Rattle.std.proofs.Common.{◌++◌, sym, ◌∙◌}
use Rattle.std.proofs.lemmas.Result.{err_from_is_err_and}
use Rattle.bids.proofs.Checks.{goes, stops}
use Rattle.register.specs.Entries.{identity_rule, fresh_rules, room_rule}
use Rattle.register.proofs.ordered.Register.judge.Goals as goal

pub returns-in_err-place : goal.returns-in_err-place
returns-in_err-place g c =
    let p = err_from_is_err_and c.from_residual-in_err-place.result c.from_residual-in_err-place.ensures.1 in
    let k = g.B.Bid.kind in
    let d = g.B.Registered.demands in
    let b = c.args.bid.now in
    let xs = c.args.self.now.bids.now in
    rw (p.1, p.2) (
    goes (identity_rule k b) _ (sym c.in_ok-check_identity.ensures)
    ∙ goes (d.alone c.args.limits b) _ (sym c.in_ok-check_alone.ensures)
    ∙ stops (fresh_rules k xs b) (d.beside xs b ++ (room_rule k c.args.room xs b ++ d.joining xs b)) _ c.in_err-place.ensures
    )
