use Rattle.register.proofs.Places.{judged}
use Rattle.register.proofs.entries.enter.Goals as goal

pub insert-requires-clause-room : goal.insert-requires-clause-room
insert-requires-clause-room g c = (judged g.B.Bid.kind c.args.count.now c.args.table.now c.requires g.B.Registered.demands c.args.limits c.args.bid c.in_ok-place.place c.in_ok-place.ensures).0

pub returns-clause-bids : goal.returns-clause-bids
returns-clause-bids g c = (judged g.B.Bid.kind c.args.count.now c.args.table.now c.requires g.B.Registered.demands c.args.limits c.args.bid c.in_ok-place.place c.in_ok-place.ensures).1 c.insert.new.table c.insert.ensures
