use Rattle.std.proofs.Common.{◌+◌, ◌<◌, get_or, sym, refl, subst, arith, rules}
use Rattle.std.proofs.lemmas.List.{get_or_default}
use Rattle.register.proofs.FamiliesRanks.{blank}
use Rattle.register.proofs.FamilyLaws.{no_own_ancestor}
use Rattle.register.proofs.FamiliesCounted.{Tallied, tallied_none, tallied_all, tallied_head, tallied_more, stop_level, stop_few}
use Rattle.register.proofs.families.Register+BlockBid.are_families_kept.Goals as goal
use Rattle.register.proofs.families.Register+BlockBid.are_families_kept.Goals.{then-counts-place-ge-MOST_ON_LEVEL-via-then-counts-place-ge-MOST_ON_LEVEL, then-counts-place-ge-MOST_ON_LEVEL-via-else-counts-place-ge-MOST_ON_LEVEL+then-counts-first-ge-MOST_BELOW}
use Rattle.register.proofs.families.Register+BlockBid.are_families_kept.Goals.{then-rank-gt0+else-counts-place-ge-MOST_ON_LEVEL+else-counts-first-ge-MOST_BELOW, else-rank-gt0}

pub loop-block-init : goal.loop-block-init
loop-block-init c = tallied_none c.args.self.now.bids.now 131072 refl

pub returns-then-counts-place-ge-MOST_ON_LEVEL-clause-value : goal.returns-then-counts-place-ge-MOST_ON_LEVEL-clause-value
returns-then-counts-place-ge-MOST_ON_LEVEL-clause-value c =
    let x = get_or c.args.self.now.bids.now c.loop-block.block-index blank in
    let l = c.loop-block-test.true in
    let e = get_or_default c.args.self.now.bids.now c.loop-block.block-index blank x l in
    let small : c.in-Some.rank.head < 65536 = search rules in
    elim c.then-counts-place-ge-MOST_ON_LEVEL.branch [
      | then-counts-place-ge-MOST_ON_LEVEL-via-then-counts-place-ge-MOST_ON_LEVEL w ↦ stop_level c.args.self.now.bids.now _ _ c.loop-block.invariant x l e c.in-Some.rank c.in-Some.ensures c.if-rank-gt0.true small (omega (arith, w.if-counts-place-ge-MOST_ON_LEVEL.true))
      | then-counts-place-ge-MOST_ON_LEVEL-via-else-counts-place-ge-MOST_ON_LEVEL+then-counts-first-ge-MOST_BELOW w ↦ stop_few c.args.self.now.bids.now _ _ c.loop-block.invariant x l e c.in-Some.rank c.in-Some.ensures c.if-rank-gt0.true small (omega (arith, w.if-counts-first-ge-MOST_BELOW.true))
    ]

pub loop-block-preserved : goal.loop-block-preserved
loop-block-preserved c =
    let x = get_or c.args.self.now.bids.now c.loop-block.block-index blank in
    let l = c.loop-block-test.true in
    let e = get_or_default c.args.self.now.bids.now c.loop-block.block-index blank x l in
    let small : c.in-Some.rank.head < 65536 = search rules in
    elim c.if-rank-gt0.branch [
      | then-rank-gt0+else-counts-place-ge-MOST_ON_LEVEL+else-counts-first-ge-MOST_BELOW w ↦ subst (Tallied c.args.self.now.bids.now (c.loop-block.block-index + 1)) (sym w.counts-is) (tallied_more c.args.self.now.bids.now _ _ c.loop-block.invariant x l e c.in-Some.rank c.in-Some.ensures w.if-rank-gt0.true small c.if-not-is_parent_kept.ensures (omega (arith, w.if-counts-place-ge-MOST_ON_LEVEL.false)) (omega (arith, w.if-counts-first-ge-MOST_BELOW.false)))
      | else-rank-gt0 w ↦ subst (Tallied c.args.self.now.bids.now (c.loop-block.block-index + 1)) (sym w.counts-is) (tallied_head c.args.self.now.bids.now _ _ c.loop-block.invariant x l e c.in-Some.rank c.in-Some.ensures c.if-not-is_parent_kept.ensures (omega (arith, w.if-rank-gt0.false)))
    ]

pub returns : goal.returns
returns c =
    let k = tallied_all c.args.self.now.bids.now _ _ c.loop-block.invariant c.loop-block-test.false in
    record { value = sym k; ancestors = λ _. no_own_ancestor c.args.self.now.bids.now k }

pub overflow_add-counts : goal.overflow_add-counts
overflow_add-counts c =
    let small : c.in-Some.rank.head < 65536 = search rules in
    let a = c.loop-block.invariant.first c.in-Some.rank.head small in
    let b = c.loop-block.invariant.second c.in-Some.rank.head small in
    let f = c.loop-block.invariant.few c.in-Some.rank.head in
    omega arith
