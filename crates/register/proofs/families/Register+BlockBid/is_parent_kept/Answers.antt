use Rattle.std.proofs.Common.{◌≡◌, get_or, pos, sym, arith, w32, SFits, rules}
use Rattle.std.proofs.lemmas.Int.{to_z-of_z}
use Rattle.std.proofs.lemmas.Bool.Decides.{nat_tests}
use Rattle.bids.specs.Registers.{block}
use Rattle.register.proofs.Found.{found_at, found_none}
use Rattle.register.proofs.FamiliesRanks.{blank, kept_same, kept_other, kept_gone}
use Rattle.register.proofs.families.Register+BlockBid.is_parent_kept.Goals as goal

pub returns-then-parent-block : goal.returns-then-parent-block
returns-then-parent-block c =
    let y = get_or c.args.self.now.bids.now c.in-Ok.place blank in
    let f : SFits w32 (get_or (get_or c.args.self.now.bids.now c.in-Ok.place blank).quantities 0 (pos 0)) = search rules in
    let g : SFits w32 (get_or c.args.block.now.quantities 0 (pos 0)) = search rules in
    let same : (get_or c.args.self.now.bids.now c.in-Ok.place blank).participant ≡ c.args.block.now.participant = omega (arith, c.if-parent-block.true) in
    let told = simp to_z-of_z at c.are_one_side.ensures in
    let kept = kept_same c.args.self.now.bids.now c.args.block.now c.in-Some.number y c.in-Some.is (found_at block _ c.args.self.now.bids.now c.in-Ok.place blank c.args.self.now.rises c.in-Ok.ensures) same in
    simp (told, kept)

pub returns-else-parent-block : goal.returns-else-parent-block
returns-else-parent-block c =
    let y = get_or c.args.self.now.bids.now c.in-Ok.place blank in
    let kept = kept_other c.args.self.now.bids.now c.args.block.now c.in-Some.number y c.in-Some.is (found_at block _ c.args.self.now.bids.now c.in-Ok.place blank c.args.self.now.rises c.in-Ok.ensures) (λ z. omega (arith, c.if-parent-block.false)) in
    grind (arith, nat_tests, kept)

pub returns-in-Err : goal.returns-in-Err
returns-in-Err c = sym (kept_gone c.args.self.now.bids.now c.args.block.now _ c.in-Some.is (found_none block _ c.args.self.now.bids.now _ c.in-Err.ensures))
