-- What every price curve keeps.
use Rattle.std.specs.Prelude.{◌≡◌, ℕ, ◌≤◌, min, ℤ, pos, neg_ℤ, ◌≤ℤ◌}

-- the quantity never rises with the price
abbrev pub Falls : (ℕ → ℤ) → Type 0
Falls q = (p r : ℕ) → p ≤ r → q r ≤ℤ q p

-- the quantities q of a curve with its reach: q never rises, lies within the reach both ways, a price above 10,000,000 is read as that, and the reach is at most 1,000,000
pub record CurveLaws (q : ℕ → ℤ) (reach : ℕ) : Type 0 where
  pub never_rises : Falls q
  pub sold_within : (p : ℕ) → neg_ℤ (pos reach) ≤ℤ q p
  pub bought_within : (p : ℕ) → q p ≤ℤ pos reach
  pub read_as_highest : (p : ℕ) → q p ≡ q (min p 10000000)
  pub reach_within : reach ≤ 1000000
