-- The levels in force of any table of levels, and what is made of levels that are handed in.
use Rattle.std.specs.Prelude.{◌≡◌, ℕ, ◌-◌, ◌<◌, min, Bool, true, ◌&&◌, List, [], ◌∷◌, ◌++◌, length, take, replicate, pos, Ok, Err, MatchBool, Result, nat_le, nat_lt}
use Rattle.market.specs.declared.refusals.Refusal.{Refusal}
use Rattle.market.specs.declared.refusals.Rule.TheVariants as rules
use Rattle.levels.specs.declared.level.Level.{Level}
use Rattle.levels.specs.declared.table.LevelTable.{LevelTable}
use Rattle.levels.specs.Form.{formed, kept_front, LongestFront}

-- the level (0: 0)
abbrev pub zero_level : Level
zero_level = record { price = 0; quantity = pos 0 }

-- the levels, or the one level (0: 0) where there is none
abbrev pub or_zero : List Level → List Level
or_zero [] = zero_level ∷ []
or_zero (a ∷ ls) = a ∷ ls

-- the levels in force of a table: the longest front of the first levels, as many as it counts and at most 64, that keeps the form, or the one level (0: 0)
unfoldable pub in_force_of : LevelTable → List Level
in_force_of t = or_zero (kept_front (take (min t.count 64) t.levels))

-- there are 1 to 64 levels
abbrev pub countable : List Level → Bool
countable ls = nat_lt 0 (length ls) && nat_le (length ls) 64

-- the table of the levels, filled up with levels (0: 0)
abbrev pub table_of : List Level → LevelTable
table_of ls = record { levels = ls ++ replicate (64 - length ls) zero_level; count = length ls }

-- levels are taken: there are 1 to 64, they keep the form, and the table is theirs and has them in force
pub record Taken (ls : List Level) (t : LevelTable) : Type 0 where
  pub counted : countable ls ≡ true
  pub keeps : formed ls ≡ true
  pub value : t ≡ table_of ls
  pub force : in_force_of t ≡ ls

-- the level at the place k is the first that breaks the form
abbrev pub FirstBad : List Level → ℕ → Type 0
FirstBad ls k = LongestFront ls k × (k < length ls)

-- levels are refused: at the place 99 where there are not 1 to 64, and else at the first level that breaks the form
abbrev pub Refused : List Level → Refusal → Type 0
Refused ls e = MatchBool (countable ls) ((e.rule ≡ rules.Form) × FirstBad ls e.place) (e ≡ record { rule = rules.Form; place = 99 })

-- what is made of levels
abbrev pub Made : List Level → Result LevelTable Refusal → Type 0
Made ls (Ok t) = Taken ls t
Made ls (Err e) = Refused ls e
