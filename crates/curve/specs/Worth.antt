-- What each lot of a price curve is worth. q is the quantity of the curve at each price.
use Rattle.std.specs.Prelude.{◌≡◌, ℕ, zero, suc, ◌+◌, ◌-◌, ◌<◌, ◌≤◌, Bool, true, cond, ◌&&◌, ℤ, Some, None, Option, nat_le, nat_lt}
use Rattle.market.specs.declared.limits.Limits.{Limits}
use Rattle.market.specs.declared.sides.Side.{Side}
use Rattle.market.specs.declared.sides.Side.TheVariants.{Buying, Selling}
use Rattle.market.specs.Prices.{lawful, within}
use Rattle.market.specs.Lots.{traded}

-- the lot, counted from 1, is traded at the price p: p lies within lawful limits, and the curve trades as many lots there
pub record Trades (q : ℕ → ℤ) (limits : Limits) (side : Side) (lot p : ℕ) : Type 0 where
  pub are_lawful : lawful limits ≡ true
  pub counted : 0 < lot
  pub inside : within limits p ≡ true
  pub enough : lot ≤ traded side (q p)

-- of two prices the second is no better for the side: no greater for buying, no less for selling
abbrev pub NoBetter : Side → ℕ → ℕ → Type 0
NoBetter Buying w p = p ≤ w
NoBetter Selling w p = w ≤ p

-- o is what a lot is worth: buying it the greatest price at which it is traded, selling it the least, and nothing where there is no such price
abbrev pub WorthIs : (ℕ → ℤ) → Limits → Side → ℕ → Option ℕ → Type 0
WorthIs q limits side lot None = (p : ℕ) → Trades q limits side lot p → ⊥
WorthIs q limits side lot (Some w) = Trades q limits side lot w × ((p : ℕ) → Trades q limits side lot p → NoBetter side w p)

-- the same as a value, for sums: first the test that a lot is traded at a price
abbrev pub trades : (ℕ → ℤ) → Limits → Side → ℕ → ℕ → Bool
trades q limits side lot p = lawful limits && (nat_lt 0 lot && (within limits p && nat_le lot (traded side (q p))))

-- the greatest of the prices from low to low + n that passes, if one does
unfoldable pub greatest : (ℕ → Bool) → ℕ → ℕ → Option ℕ
greatest ok low zero = cond (ok low) (Some low) None
greatest ok low (suc n) = cond (ok (low + suc n)) (Some (low + suc n)) (greatest ok low n)

-- the least of the prices from low to low + n that passes, if one does
unfoldable pub least : (ℕ → Bool) → ℕ → ℕ → Option ℕ
least ok low zero = cond (ok low) (Some low) None
least ok low (suc n) = cond (ok low) (Some low) (least ok (suc low) n)

-- what a lot is worth
unfoldable pub worth : (ℕ → ℤ) → Limits → Side → ℕ → Option ℕ
worth q limits Buying lot = greatest (trades q limits Buying lot) limits.lowest (limits.highest - limits.lowest)
worth q limits Selling lot = least (trades q limits Selling lot) limits.lowest (limits.highest - limits.lowest)
