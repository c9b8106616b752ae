-- The kind of curve that is linear, stepped or flat.
use Rattle.std.specs.Prelude.{ℕ, min, ℤ}
use Rattle.levels.specs.declared.kinds.LevelCurve.{LevelCurve}
use Rattle.levels.specs.declared.kinds.LevelCurve.TheVariants.{Linear, Stepped, Flat}
use Rattle.levels.specs.Search.{largest}
use Rattle.levels.specs.Tables.{in_force_of}
use Rattle.levels.specs.Lines.{linear}
use Rattle.levels.specs.Steps.{stepped}
use Rattle.levels.specs.Flats.{flat_quantity, flat_reach}

-- the quantity of the curve that it is, at the price p
abbrev pub level_quantity : LevelCurve → ℕ → ℤ
level_quantity (Linear c) p = linear (in_force_of c.table) (min p 10000000)
level_quantity (Stepped c) p = stepped (in_force_of c.table) (min p 10000000)
level_quantity (Flat c) p = flat_quantity c.quantity

-- the reach of the curve that it is
abbrev pub level_reach : LevelCurve → ℕ
level_reach (Linear c) = largest (in_force_of c.table)
level_reach (Stepped c) = largest (in_force_of c.table)
level_reach (Flat c) = flat_reach c.quantity
