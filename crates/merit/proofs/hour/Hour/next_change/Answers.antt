use Rattle.std.proofs.Common.{◌≡◌, ◌≢◌, ◌+◌, ◌-◌, ◌<◌, sym, ap, ◌∙◌, arith, rules}
use Rattle.std.proofs.lemmas.Bool.{and_parts, eqb-true}
use Rattle.curve.specs.Laws.{Falls}
use Rattle.merit.specs.Hours.{totals}
use Rattle.merit.proofs.Hours.{same_totals}
use Rattle.merit.proofs.Falling.{between, changes}
use Rattle.merit.proofs.hour.Hour.next_change.Given as given
use Rattle.merit.proofs.hour.Hour.next_change.Goals as goal
use Rattle.merit.proofs.hour.Hour.next_change.Goals.{then-price-highest-via-then-price-highest, then-price-highest-via-else-price-highest+then-eq}

falls : (g : given.Over) (x : g.row.C.Denot) → Falls (g.C.PriceCurve.meaning x)
falls g x = (g.met.C.PriceCurve.kept x).never_rises

pub returns-then-price-highest : goal.returns-then-price-highest
returns-then-price-highest g c n from to =
    let q = g.C.PriceCurve.meaning in
    let cs = c.args.self.now.curves.now in
    let price = c.args.price in
    let highest = c.args.self.now.limits.highest in
    elim c.then-price-highest.branch [
      | then-price-highest-via-then-price-highest w ↦ ap (totals q cs) (omega (arith, w.if-price-highest.true))
      | then-price-highest-via-else-price-highest+then-eq w ↦
          let same = and_parts _ _ (sym w.if-eq.ensures) in
          let there = w.totals_at.ensures in
          let here = c.totals_at-here.ensures in
          between q (falls g) cs price n highest from to (same_totals _ _ _ _ (sym (ap (λ t. t.bought) there) ∙ eqb-true _ _ same.0 ∙ ap (λ t. t.bought) here) (sym (ap (λ t. t.sold) there) ∙ eqb-true _ _ same.1 ∙ ap (λ t. t.sold) here))
    ]

pub returns : goal.returns
returns g c =
    let t = totals g.C.PriceCurve.meaning c.args.self.now.curves.now in
    let limits = c.args.self.now.limits in
    let price = c.args.price in
    let next = c.first_from.result in
    let found = c.first_from.ensures in
    let before : price + 1 < next → t (next - 1) ≡ t price = λ h. let answer = found.fails_before h in search rules in
    let there : next < limits.highest → t next ≢ t price = λ h. let answer = found.passes_there h in search rules in
    let top : t limits.highest ≢ t price = λ e. search rules in
    changes g.C.PriceCurve.meaning (falls g) c.args.self.now.curves.now limits price next (omega arith) (omega (arith, found.from_low)) (omega (arith, found.to_high)) before there top
