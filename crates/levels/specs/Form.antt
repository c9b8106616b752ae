-- The form that levels keep.
use Rattle.std.specs.Prelude.{◌≡◌, ℕ, ◌+◌, ◌<◌, ◌≤◌, Bool, true, false, cond, ◌&&◌, List, [], ◌∷◌, length, take, pos, negsuc, int_le, nat_le, nat_lt}
use Rattle.levels.specs.declared.level.Level.{Level}

-- a level is in bounds: its price is at most 10,000,000, and its quantity lies from -100,000 to 100,000
abbrev pub bounded : Level → Bool
bounded a = nat_le a.price 10000000 && (int_le (negsuc 99999) a.quantity && int_le a.quantity (pos 100000))

-- the level b may come straight after the level a: it is in bounds, its price is higher, and its quantity is not
abbrev pub follows : Level → Level → Bool
follows a b = bounded b && (nat_lt a.price b.price && int_le b.quantity a.quantity)

-- the levels after a keep the form: each may come straight after the one before it
abbrev pub formed_after : Level → List Level → Bool
formed_after a [] = true
formed_after a (b ∷ ls) = follows a b && formed_after b ls

-- the levels keep the form: each is in bounds, prices rise strictly, and quantities never rise
abbrev pub formed : List Level → Bool
formed [] = true
formed (a ∷ ls) = bounded a && formed_after a ls

-- n levels are the longest front that keeps the form: they keep it, and with one more it is broken
pub record LongestFront (ls : List Level) (n : ℕ) : Type 0 where
  pub within : n ≤ length ls
  pub keeps : formed (take n ls) ≡ true
  pub breaks : n < length ls → formed (take (n + 1) ls) ≡ false

-- that front, of the levels after a
abbrev pub front_after : Level → List Level → List Level
front_after a [] = []
front_after a (b ∷ ls) = cond (follows a b) (b ∷ front_after b ls) []

-- that front
abbrev pub kept_front : List Level → List Level
kept_front [] = []
kept_front (a ∷ ls) = cond (bounded a) (a ∷ front_after a ls) []
