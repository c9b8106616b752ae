-- Stepped curves: the quantity of the last level priced at most the price, or of the first level below that.
use Rattle.std.specs.Prelude.{◌≡◌, ℕ, ◌<◌, ◌≤◌, min, List, length, ℤ, slice_index_or}
use Rattle.levels.specs.declared.level.Level.{Level}
use Rattle.levels.specs.Search.{around}

-- the quantity of a stepped curve at the price p
unfoldable pub stepped : List Level → ℕ → ℤ
stepped ls p = (around ls p).at.quantity

-- the quantities of the steps at all prices: one above 10,000,000 is read as that
abbrev pub steps_of : List Level → ℕ → ℤ
steps_of ls p = stepped ls (min p 10000000)

-- r is the quantity at the price p of the steps: the first level's before that, and else that of the last level priced at most p
pub record OnSteps (ls : List Level) (p : ℕ) (r : ℤ) : Type 0 where
  pub before_first : (d : Level) → p < (slice_index_or ls 0 d).price → r ≡ (slice_index_or ls 0 d).quantity
  pub at_last : (d : Level) (i : ℕ) → i < length ls → (slice_index_or ls i d).price ≤ p → ((j : ℕ) → i < j → j < length ls → p < (slice_index_or ls j d).price) → r ≡ (slice_index_or ls i d).quantity
