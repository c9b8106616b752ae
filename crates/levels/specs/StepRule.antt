-- A curve that stays at each level's quantity up to the next level goes by a rule.
use Rattle.std.proofs.Common.{arith}
use Rattle.std.specs.Prelude.{ℕ, ℤ, Option, refl}
use Rattle.std.proofs.lemmas.Int.{ints}
use Rattle.levels.specs.declared.level.Level.{Level}
use Rattle.levels.specs.Chains.{next, Rule}

-- a step stays at the quantity of the level at the price
abbrev pub on_step : Level → Option Level → ℕ → ℤ
on_step a n p = a.quantity

-- steps from level to level are a rule
pub step_rule : Rule on_step
step_rule = record {
  at_end = λ a p. refl;
  not_over = λ a b p k f. omega (arith, ints);
  not_under = λ a b p k f l. (next a b f).quantity_falls;
  falls = λ a b p r k f l. omega (arith, ints);
}
