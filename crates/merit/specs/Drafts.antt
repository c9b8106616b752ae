-- What is made of a curve as it is written.
use Rattle.std.specs.Prelude.{◌≡◌, ◌+◌, ◌<◌, ◌≤◌, min, true, false, ◌⊎◌, List, ℤ, Ok, Err, vec_items, Result}
use Rattle.market.specs.declared.refusals.Refusal.{Refusal}
use Rattle.market.specs.declared.refusals.Rule.TheVariants as rules
use Rattle.levels.specs.declared.level.Level.{Level}
use Rattle.levels.specs.declared.kinds.LevelCurve.{LevelCurve}
use Rattle.levels.specs.declared.kinds.LevelCurve.TheVariants as kind
use Rattle.levels.specs.Flats.{in_bounds}
use Rattle.levels.specs.Kinds.{level_reach}
use Rattle.levels.specs.Tables.{Taken, Refused}
use Rattle.piles.specs.declared.caps.Cap.{Cap}
use Rattle.piles.specs.declared.sums.Sum.{Sum}
use Rattle.merit.specs.declared.draft.Part.{Part}
use Rattle.merit.specs.declared.draft.Part.TheVariants as part
use Rattle.merit.specs.declared.draft.Draft.{Draft}

-- the linear curve of the levels
abbrev pub LinearOf : List Level → LevelCurve → Type 0
LinearOf ls (kind.Linear c) = Taken ls c.table
LinearOf ls (kind.Stepped c) = ⊥
LinearOf ls (kind.Flat c) = ⊥

-- the stepped curve of the levels
abbrev pub SteppedOf : List Level → LevelCurve → Type 0
SteppedOf ls (kind.Linear c) = ⊥
SteppedOf ls (kind.Stepped c) = Taken ls c.table
SteppedOf ls (kind.Flat c) = ⊥

-- the flat curve of a quantity in bounds
abbrev pub FlatOf : ℤ → LevelCurve → Type 0
FlatOf z (kind.Linear c) = ⊥
FlatOf z (kind.Stepped c) = ⊥
FlatOf z (kind.Flat c) = (c ≡ record { quantity = z }) × (in_bounds z ≡ true)

-- what is made of a part: the curve that is written, or its refusal
abbrev pub MadePart : Part → Result LevelCurve Refusal → Type 0
MadePart (part.Linear ls) (Ok c) = LinearOf (vec_items ls) c
MadePart (part.Linear ls) (Err e) = Refused (vec_items ls) e
MadePart (part.Stepped ls) (Ok c) = SteppedOf (vec_items ls) c
MadePart (part.Stepped ls) (Err e) = Refused (vec_items ls) e
MadePart (part.Flat z) (Ok c) = FlatOf z c
MadePart (part.Flat z) (Err e) = (e ≡ record { rule = rules.Form; place = 0 }) × (in_bounds z ≡ false)

-- a whole curve is made: both parts as they are written, reaches that total at most 1,000,000, and both numbers of the cap
pub record Whole (d : Draft) (c : Cap (Sum LevelCurve LevelCurve)) : Type 0 where
  pub first_made : MadePart d.first (Ok c.curve.first)
  pub second_made : MadePart d.second (Ok c.curve.second)
  pub reaches : level_reach c.curve.first + level_reach c.curve.second ≤ 1000000
  pub bought_is : c.bought ≡ min d.bought 1000000
  pub sold_is : c.sold ≡ min d.sold 1000000

-- the sum of two parts is refused: both are made, and their reaches total above 1,000,000
pub record SumRefused (d : Draft) (e : Refusal) : Type 0 where
  pub first : LevelCurve
  pub second : LevelCurve
  pub first_made : MadePart d.first (Ok first)
  pub second_made : MadePart d.second (Ok second)
  pub too_far : 1000000 < level_reach first + level_reach second
  pub refusal_is : e ≡ record { rule = rules.SumReach; place = 0 }

-- the second part is refused, and the first is made
pub record SecondRefused (d : Draft) (e : Refusal) : Type 0 where
  pub first : LevelCurve
  pub first_made : MadePart d.first (Ok first)
  pub second_refused : MadePart d.second (Err e)

-- what is made of a whole curve: the curve that is written, or the first refusal, of the first part, of the second or of their sum
abbrev pub MadeDraft : Draft → Result (Cap (Sum LevelCurve LevelCurve)) Refusal → Type 0
MadeDraft d (Ok c) = Whole d c
MadeDraft d (Err e) = MadePart d.first (Err e) ⊎ (SecondRefused d e ⊎ SumRefused d e)
