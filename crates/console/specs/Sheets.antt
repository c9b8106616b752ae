-- The bids of an hour.
use Rattle.std.specs.Prelude.{Option, option_map}
use Rattle.std.specs.Result.{result_ok}
use Rattle.levels.specs.declared.kinds.LevelCurve.{LevelCurve}
use Rattle.piles.specs.declared.caps.Cap.{Cap}
use Rattle.piles.specs.declared.sums.Sum.{Sum}
use Rattle.console.specs.declared.sheet.Entry.{Entry}

-- the curve of a bid, where it stands
abbrev pub curve_of : Entry → Option (Cap (Sum LevelCurve LevelCurve))
curve_of e = option_map (λ c. c.value) (result_ok e.curve)
