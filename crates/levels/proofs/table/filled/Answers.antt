use Rattle.std.proofs.Common.{◌++◌, length, drop, replicate, ap, ◌∙◌}
use Rattle.std.proofs.lemmas.List.{drop-replicate}
use Rattle.levels.specs.Tables.{zero_level}
use Rattle.levels.proofs.table.filled.Goals as goal

pub returns : goal.returns
returns c = ap (λ front. front ++ drop (length c.args.given.now) (replicate 64 zero_level)) c.copy_from_slice.ensures.after ∙ ap (λ rest. c.args.given.now ++ rest) (drop-replicate _ _ _)
