use Rattle.std.proofs.Common.{◌∙◌, arith}
use Rattle.std.proofs.lemmas.Bool.Decides.{nat_tests}
use Rattle.register.proofs.FamilyLaws.{joins_below}
use Rattle.register.proofs.families.Register+BlockBid.is_joining.Goals as goal
use Rattle.register.proofs.families.Register+BlockBid.is_joining.Goals.{then-rank-eq1, else-rank-eq1}

pub returns-then-here : goal.returns-then-here
returns-then-here c =
    let first = c.on_level-children.ensures in
    let second = c.on_level-grandchildren.ensures in
    let joins = joins_below c.args.self.now.bids.now c.args.block.now c.in-Some.rank c.if-rank-eq1.here c.in-Some.ensures (omega (arith, c.if-rank-eq0.false))
    (λ v. elim c.if-rank-eq1.branch [ then-rank-eq1 w ↦ w.here-is ∙ first | else-rank-eq1 w ↦ absurd (omega (arith, w.if-rank-eq1.false, v)) ])
    (λ n. elim c.if-rank-eq1.branch [ then-rank-eq1 w ↦ absurd (n (omega (arith, w.if-rank-eq1.true))) | else-rank-eq1 w ↦ w.here-is ∙ second ]) in
    grind (arith, nat_tests, joins, first, second, c.if-here.true, c.saturating_add.ensures)
