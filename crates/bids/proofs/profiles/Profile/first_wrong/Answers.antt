use Rattle.std.proofs.Common.{◌≡◌, rules, ℕ, Bool, true, false, not, subst}
use borrow.Author.Tests.{tests}
use Rattle.std.proofs.lemmas.Iterator.{first_from_Range}
use Rattle.bids.specs.Checks.{first_where}
use Rattle.bids.proofs.Checks.{first_is}
use Rattle.bids.proofs.profiles.Profile.first_wrong.Goals as goal

pub returns : goal.returns
returns g c =
    let wrong : ℕ → Bool = λ i. not ((g.Self.Profile.profile c.args.self.now).right i) in
    let found = first_from_Range _ _ _ c.find.result (λ i. wrong i ≡ true) (λ i. wrong i ≡ false) c.find.ensures.ran (λ x q k. search (rules, tests)) (λ x q k. search (rules, tests)) in
    subst (λ n. c.find.result ≡ first_where n wrong) c.hours.ensures (first_is wrong _ c.find.result found)
