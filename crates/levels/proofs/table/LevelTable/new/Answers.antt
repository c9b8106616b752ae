use Rattle.std.proofs.Common.{◌≡◌, ◌<◌, ◌≤◌, true, length, ap, ◌∙◌, subst, arith}
use Rattle.std.proofs.lemmas.List.{take_all}
use Rattle.std.proofs.lemmas.Bool.{and_from, lt-ltb, le-leb}
use Rattle.levels.specs.Form.{formed}
use Rattle.levels.specs.Tables.{in_force_of, table_of}
use Rattle.levels.specs.Fronts.{force_made}
use Rattle.levels.proofs.table.LevelTable.new.Goals as goal

pub returns : goal.returns
returns c =
    let ls = c.args.given.now in
    let some : 0 < length ls = omega arith in
    let few : length ls ≤ 64 = omega arith in
    let longest = c.front-kept.ensures.longest in
    let keeps : formed ls ≡ true = subst (λ xs. formed xs ≡ true) (take_all c.front-kept.result ls (omega arith)) longest.keeps in
    let value : record { levels = c.filled.result; count = length ls } ≡ table_of ls = ap (λ xs. record { levels = xs; count = length ls }) c.filled.ensures in
    record {
      counted = and_from _ _ (lt-ltb 0 (length ls) some) (le-leb (length ls) 64 few);
      keeps = keeps;
      value = value;
      force = ap in_force_of value ∙ force_made ls some few keeps;
    }
