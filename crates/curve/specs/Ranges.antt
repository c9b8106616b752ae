-- Ranges of lots.
use Rattle.std.specs.Prelude.{Bool, ◌&&◌, ℤ, int_le}
use Rattle.curve.specs.declared.ranges.LotRange.{LotRange}

-- the lots m lie in the range
abbrev pub holds : LotRange → ℤ → Bool
holds range m = int_le range.least m && int_le m range.most
