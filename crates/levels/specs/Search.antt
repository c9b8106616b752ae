-- Where a price lies among levels, and how far the levels reach.
use Rattle.std.specs.Prelude.{ℕ, max, cond, List, [], ◌∷◌, Some, None, nat_lt, unsigned_abs}
use Rattle.levels.specs.declared.level.Level.{Level}
use Rattle.levels.specs.declared.search.Neighbours.{Neighbours}
use Rattle.levels.specs.Tables.{zero_level}

-- the last level priced at most p, or a where there is none, and the level after that
abbrev pub around_from : Level → List Level → ℕ → Neighbours
around_from a [] p = record { at = a; next = None }
around_from a (b ∷ ls) p = cond (nat_lt p b.price) (record { at = a; next = Some b }) (around_from b ls p)

-- the same, from the first level
abbrev pub around : List Level → ℕ → Neighbours
around [] p = record { at = zero_level; next = None }
around (a ∷ ls) p = around_from a ls p

-- the largest absolute quantity
abbrev pub largest : List Level → ℕ
largest [] = 0
largest (a ∷ ls) = max (unsigned_abs a.quantity) (largest ls)
