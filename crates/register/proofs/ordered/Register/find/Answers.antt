use Rattle.std.proofs.Common.{◌≡◌, sym, ap, ◌∙◌, arith}
use Rattle.register.proofs.Steps.{up_to, from_on}
use Rattle.register.proofs.ordered.Register.find.Goals as goal

pub loop-low-preserved-then-here-number-2 : goal.loop-low-preserved-then-here-number-2
loop-low-preserved-then-here-number-2 g c =
    let number_of = g.B.Bid.kind.number_of in
    let here : c.number-here.result ≡ number_of c.index-self-middle.result = c.number-here.ensures ∙ ap number_of (sym c.index-self-middle.is) in
    (omega arith, omega arith, up_to g.B.Bid.kind c.args.self.now.bids.now c.args.self.now.rises _ c.index-self-middle.result (omega arith) c.index-self-middle.is c.args.number (omega (arith, here)), c.loop-low.invariant.3)

pub loop-low-preserved : goal.loop-low-preserved
loop-low-preserved g c =
    let number_of = g.B.Bid.kind.number_of in
    let here : c.number-here.result ≡ number_of c.index-self-middle.result = c.number-here.ensures ∙ ap number_of (sym c.index-self-middle.is) in
    let other = c.if-here-number.false in
    (omega arith, omega arith, c.loop-low.invariant.2, from_on g.B.Bid.kind c.args.self.now.bids.now c.args.self.now.rises _ c.index-self-middle.result (omega arith) c.index-self-middle.is c.args.number (omega (arith, here)))
