use Rattle.std.proofs.Common.{sym, refl, arith}
use Rattle.std.proofs.lemmas.Bool.{le-leb}
use Rattle.register.proofs.HourLaws.{participant_below, marked_none, marked_more, stop_taken}
use Rattle.register.proofs.hours.are_hours_kept.Goals as goal

pub loop-bid-init : goal.loop-bid-init
loop-bid-init g c = marked_none c.args.bids.now 24000 refl

pub returns-then-taken-place : goal.returns-then-taken-place
returns-then-taken-place g c =
    let p = participant_below c.args.bids.now c.loop-bid.bid-index c.bid-item.result c.requires c.loop-bid-test.true c.bid-item.is in
    sym (stop_taken c.args.bids.now _ _ c.loop-bid.invariant c.bid-item.result c.loop-bid-test.true c.bid-item.is p (omega arith) c.if-taken-place.true)

pub loop-bid-preserved : goal.loop-bid-preserved
loop-bid-preserved g c =
    let p = participant_below c.args.bids.now c.loop-bid.bid-index c.bid-item.result c.requires c.loop-bid-test.true c.bid-item.is in
    marked_more c.args.bids.now _ _ c.loop-bid.invariant c.bid-item.result c.loop-bid-test.true c.bid-item.is p (le-leb _ _ c.if-bid-gt-LAST_HOUR.false) c.if-taken-place.false
