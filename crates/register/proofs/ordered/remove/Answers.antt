use Rattle.std.proofs.Common.{arith, rules}
use Rattle.std.proofs.lemmas.List.{same_lists, places}
use Rattle.register.proofs.ordered.remove.Goals as goal

pub returns : goal.returns
returns g c = record {
  front = same_lists _ _ (search (rules, places)) (λ k d h. grind (arith, places));
  rest = same_lists _ _ (search (rules, places)) (λ k d h. grind (arith, places));
}
