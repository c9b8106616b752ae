use Rattle.std.proofs.Common.{◌+◌, get_or, set, sym, ap, subst, arith}
use Rattle.register.proofs.Counted.{Counted, counted_none, counted_all, counted_more, stop_few}
use Rattle.register.proofs.ordered.is_ordered.Goals as goal

pub loop-bid-init : goal.loop-bid-init
loop-bid-init g c = counted_none g.B.Bid.kind c.args.bids.now

pub returns-then-count-MOST_STANDING : goal.returns-then-count-MOST_STANDING
returns-then-count-MOST_STANDING g c =
    let at = ap (λ j. get_or c.loop-bid.counts j 0) c.participant-participant.ensures in
    sym (stop_few g.B.Bid.kind c.args.bids.now _ _ _ c.loop-bid.invariant c.bid-item.result c.loop-bid-test.true c.bid-item.is (sym c.if-not-is_known.ensures) (omega (arith, at, c.MOST_STANDING.ensures, g.met.B.Bid.standing_of_kind, c.if-count-MOST_STANDING.true)))

pub loop-bid-preserved : goal.loop-bid-preserved
loop-bid-preserved g c =
    let at = ap (λ j. get_or c.loop-bid.counts j 0) c.participant-participant.ensures in
    let m = counted_more g.B.Bid.kind c.args.bids.now _ _ _ c.loop-bid.invariant c.bid-item.result c.loop-bid-test.true c.bid-item.is (omega (arith, c.number-number.ensures, c.if-number-last.false)) (sym c.if-not-is_known.ensures) (omega (arith, at, c.MOST_STANDING.ensures, g.met.B.Bid.standing_of_kind, c.if-count-MOST_STANDING.false)) in
    let n = subst (λ j. Counted g.B.Bid.kind c.args.bids.now (c.loop-bid.bid-index + 1) j (set c.loop-bid.counts (g.B.Bid.kind.participant_of c.bid-item.result) (get_or c.loop-bid.counts (g.B.Bid.kind.participant_of c.bid-item.result) 0 + 1))) (sym c.number-number.ensures) m in
    subst (λ j. Counted g.B.Bid.kind c.args.bids.now (c.loop-bid.bid-index + 1) c.number-number.result (set c.loop-bid.counts j (get_or c.loop-bid.counts j 0 + 1))) (sym c.participant-participant.ensures) n

pub returns : goal.returns
returns g c = sym (counted_all g.B.Bid.kind c.args.bids.now _ _ _ c.loop-bid.invariant c.loop-bid-test.false)
