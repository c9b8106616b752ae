use Rattle.std.proofs.Common.{◌≡◌, suc, ◌+◌, ◌-◌, sym, ap, ◌∙◌, arith}
use Rattle.bids.specs.Registers.{block}
use Rattle.register.specs.Families.{rank_from}
use Rattle.register.proofs.Found.{found_at, found_none}
use Rattle.register.proofs.FamiliesRanks.{rank_head, rank_gone, rank_up}
use Rattle.register.proofs.families.Register+BlockBid.rank_of.Goals as goal

pub returns-in_default : goal.returns-in_default
returns-in_default c = sym (rank_head (2 - c.loop-level.level) c.args.self.now.bids.now c.loop-level.level c.loop-level.at c.in_default.is) ∙ c.loop-level.invariant

pub returns-in-Err : goal.returns-in-Err
returns-in-Err c =
    sym (rank_gone (2 - c.loop-level.level) c.args.self.now.bids.now c.loop-level.level c.loop-level.at _ c.in-Some.is (found_none block _ c.args.self.now.bids.now _ c.in-Err.ensures)) ∙ c.loop-level.invariant

pub loop-level-preserved : goal.loop-level-preserved
loop-level-preserved c =
    let xs = c.args.self.now.bids.now in
    let level = c.loop-level.level in
    let at = c.loop-level.at in
    let e : suc (2 - (level + 1)) ≡ 2 - level = omega (arith, c.loop-level-test.true) in
    sym (rank_up _ xs level at _ _ c.in-Some.is (found_at block _ xs c.in-Ok.place _ c.args.self.now.rises c.in-Ok.ensures)) ∙ ap (λ n. rank_from n xs level at) e ∙ c.loop-level.invariant
