-- Searches among numbers for the first of which something holds.
use Rattle.std.specs.Prelude.{ℕ, ◌-◌, ◌<◌, ◌≤◌, max, Bool, true, false}

-- a test may be asked of each number from low on, below high
abbrev pub AskedBetween : (ℕ → Type 0) → ℕ → ℕ → Type 0
AskedBetween pre low high = (x : ℕ) → low ≤ x → x < high → pre x

-- r is where a test turns: it lies from low to high, the test fails of the number before it, where that is one of those from low on, and it passes of r itself, where that lies below high
pub record TurnsAt (answers : ℕ → Bool → Type 0) (low high r : ℕ) : Type 0 where
  pub from_low : low ≤ r
  pub to_high : r ≤ max low high
  pub fails_before : low < r → answers (r - 1) false
  pub passes_there : r < high → answers r true
