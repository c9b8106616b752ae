use Rattle.std.proofs.Common.{◌==◌, cond, rules, tests, arith}
use Rattle.std.proofs.lemmas.Iterator.{YieldsList-from_slice, YieldsList-from_map}
use Rattle.std.proofs.lemmas.Iterator.Consumers.{sum_by_from_yields_List, fits_by_from_yields_list}
use Rattle.std.proofs.lemmas.List.Sums.{count_by-le-length}
use Rattle.register.proofs.ordered.standing.Goals as goal

pub sum-requires-clause-fits : goal.sum-requires-clause-fits
sum-requires-clause-fits g c =
    let xs = c.args.bids.now in
    let few = count_by-le-length (λ x. g.B.Bid.kind.participant_of x == c.args.participant) xs in
    fits_by_from_yields_list (λ x. cond (g.B.Bid.kind.participant_of x == c.args.participant) 1 0) xs c.map.result _ (YieldsList-from_map _ _ (YieldsList-from_slice xs (cc)) c.map.ensures.closure (λ x r q k. search (rules, tests))) (omega (arith, few))

pub returns : goal.returns
returns g c =
    let xs = c.args.bids.now in
    sum_by_from_yields_List (λ x. cond (g.B.Bid.kind.participant_of x == c.args.participant) 1 0) xs c.map.result _ c.sum.ensures.ran (YieldsList-from_map _ _ (YieldsList-from_slice xs (cc)) c.map.ensures.closure (λ x r q k. search (rules, tests)))
