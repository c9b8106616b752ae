-- Linear curves: the straight line between levels, rounded to the nearest lot, halves upward.
use Rattle.std.specs.Prelude.{◌≡◌, ℕ, ◌+◌, ◌-◌, ◌*◌, ◌<◌, ◌≤◌, List, length, get_or, ℤ, pos, ◌+ℤ◌, ◌-ℤ◌, ◌*ℤ◌, neg_ℤ, ◌≤ℤ◌, ◌<ℤ◌, Some, None, Option, slice_index_or}
use Rattle.std.specs.Int.{int_div_euclid}
use Rattle.levels.specs.declared.level.Level.{Level}
use Rattle.levels.specs.Search.{around}

-- how many kuruş lie between two levels
abbrev pub span : Level → Level → ℕ
span a b = b.price - a.price

-- the quantity at the price p on the straight line from a to b, times the span
abbrev pub scaled : Level → Level → ℕ → ℤ
scaled a b p = a.quantity *ℤ pos (span a b) +ℤ (b.quantity -ℤ a.quantity) *ℤ pos (p - a.price)

-- the whole number nearest to n / s, halves upward: the floor of n / s and one half
abbrev pub nearest : ℤ → ℕ → ℤ
nearest n s = int_div_euclid (pos 2 *ℤ n +ℤ pos s) (pos 2 *ℤ pos s)

-- r is the whole number nearest to n / s, halves upward: r is at most n / s and one half, and r + 1 is more than that
pub record Nearest (n : ℤ) (s : ℕ) (r : ℤ) : Type 0 where
  pub at_most : (pos (2 * s) *ℤ r) ≤ℤ (pos 2 *ℤ n +ℤ pos s)
  pub next_more : (pos 2 *ℤ n +ℤ pos s) <ℤ (pos (2 * s) *ℤ r +ℤ pos (2 * s))

-- a number from -10^13 to 10^13
pub record Moderate (z : ℤ) : Type 0 where
  pub low : neg_ℤ (pos 10000000000000) ≤ℤ z
  pub high : z ≤ℤ pos 10000000000000

-- the quantity at the price p on the straight line from a to b, rounded to the nearest lot
abbrev pub between : Level → Level → ℕ → ℤ
between a b p = nearest (scaled a b p) (span a b)

-- the quantity by a price's neighbours: on the line to the next level, or the last level's
abbrev pub on_line : Level → Option Level → ℕ → ℤ
on_line a None p = a.quantity
on_line a (Some b) p = between a b p

-- the quantity of a linear curve at the price p
unfoldable pub linear : List Level → ℕ → ℤ
linear ls p = on_line (around ls p).at (around ls p).next p

-- r is the quantity at the price p of the line through the levels: the first level's up to that, the last level's from that on, and from a level up to the next the whole number nearest to the straight line between the two, halves upward
pub record OnLine (ls : List Level) (p : ℕ) (r : ℤ) : Type 0 where
  pub up_to_first : (d : Level) → p ≤ (get_or ls 0 d).price → r ≡ (get_or ls 0 d).quantity
  pub from_last : (d : Level) → (get_or ls (length ls - 1) d).price ≤ p → r ≡ (get_or ls (length ls - 1) d).quantity
  pub from_level : (d : Level) (i : ℕ) → i + 1 < length ls → (get_or ls i d).price ≤ p → p < (get_or ls (i + 1) d).price →
      Nearest (scaled (slice_index_or ls i d) (slice_index_or ls (i + 1) d) p) (span (slice_index_or ls i d) (slice_index_or ls (i + 1) d)) r
