use Rattle.std.proofs.Common.{◌-◌, ◌<◌, pos, ◌≤ℤ◌, ◌<ℤ◌, sym, ap, subst, ⊎_elim, arith, rules}
use Rattle.std.proofs.lemmas.Bool.{cases_lt}
use Rattle.curve.specs.Laws.{Falls}
use Rattle.curve.proofs.Worths.{ordered}
use Rattle.merit.specs.Hours.{margins, Balancing}
use Rattle.merit.proofs.Falling.{least_top, balances}
use Rattle.merit.proofs.hour.Hour.balancing_price.Given as given
use Rattle.merit.proofs.hour.Hour.balancing_price.Goals as goal

falls : (g : given.Over) (x : g.row.C.Denot) → Falls (g.C.PriceCurve.meaning x)
falls g x = (g.met.C.PriceCurve.kept x).never_rises

pub returns : goal.returns
returns g c ok =
    let q = g.C.PriceCurve.meaning in
    let limits = c.args.self.now.limits in
    let cs = c.args.self.now.curves.now in
    let m = margins q limits cs in
    let price = c.first_from-price.result in
    let before : limits.lowest < price → pos 0 <ℤ (m (price - 1)).least = λ h. let t = c.first_from-price.ensures.fails_before h in search rules in
    let there : price < limits.highest → (m price).least ≤ℤ pos 0 = λ h. let t = c.first_from-price.ensures.passes_there h in search rules in
    let low = (ordered limits ok).below in
    let from = c.first_from-price.ensures.from_low in
    let to = c.first_from-price.ensures.to_high in
    let least : (m price).least ≤ℤ pos 0 =
    ⊎_elim there (λ l. subst (λ p. (m p).least ≤ℤ pos 0) (omega arith) (least_top q (falls g) limits cs)) (cases_lt price limits.highest) in
    let most-is = ap (λ r. r.most) c.total_margin.ensures.value in
    subst (Balancing m limits) (sym c.then_some.ensures) (balances q (falls g) limits cs price from (omega arith) before least _ (λ e. search rules) (λ e. search rules))
