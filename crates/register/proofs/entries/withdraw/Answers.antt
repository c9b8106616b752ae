use Rattle.std.proofs.Common.{Ok}
use Rattle.register.specs.Order.{Placed}
use Rattle.register.proofs.Places.{whole_part, leaves, rises}
use Rattle.register.proofs.entries.withdraw.Goals as goal

pub returns-clause-bids : goal.returns-clause-bids
returns-clause-bids g c =
    let n = c.args.count.now in
    let table = c.args.table.now in
    let p = whole_part (λ xs. Placed g.B.Bid.kind c.args.number xs (Ok c.in_ok-place.place)) n table c.in_ok-place.ensures.1 in
    leaves g.B.Bid.kind n table c.remove.new.table c.args.number c.in_ok-place.place (rises g.B.Bid.kind n table c.requires) p c.remove.ensures.front
