-- What is made of levels: a linear or a stepped curve whose levels in force are those handed in.
use Rattle.std.specs.Prelude.{List, Ok, Err, Result}
use Rattle.market.specs.declared.refusals.Refusal.{Refusal}
use Rattle.levels.specs.declared.level.Level.{Level}
use Rattle.levels.specs.declared.line.Linear.{Linear}
use Rattle.levels.specs.declared.steps.Stepped.{Stepped}
use Rattle.levels.specs.Tables.{Taken, Refused}

-- a linear curve of the levels, or their refusal
abbrev pub MadeLinear : List Level → Result Linear Refusal → Type 0
MadeLinear ls (Ok c) = Taken ls c.table
MadeLinear ls (Err e) = Refused ls e

-- a stepped curve of the levels, or their refusal
abbrev pub MadeStepped : List Level → Result Stepped Refusal → Type 0
MadeStepped ls (Ok c) = Taken ls c.table
MadeStepped ls (Err e) = Refused ls e
