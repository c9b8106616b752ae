-- Which limits of a day are lawful, and which prices lie within them.
use Rattle.std.specs.Prelude.{◌≡◌, ℕ, Bool, true, false, ◌&&◌, Ok, Err, Result, nat_le, nat_lt}
use Rattle.market.specs.declared.limits.Limits.{Limits}
use Rattle.market.specs.declared.refusals.Refusal.{Refusal}
use Rattle.market.specs.declared.refusals.Rule.TheVariants as rules

-- the lowest price lies below the highest, and that is at most 10,000,000
abbrev pub lawful : Limits → Bool
lawful l = nat_lt l.lowest l.highest && nat_le l.highest 10000000

-- the price p lies within the limits, both included
abbrev pub within : Limits → ℕ → Bool
within l p = nat_le l.lowest p && nat_le p l.highest

-- what is made of two prices: the limits of them where they are lawful, and the refusal at place 0 where they are not
abbrev pub Made : ℕ → ℕ → Result Limits Refusal → Type 0
Made low high (Ok l) = (l ≡ record { lowest = low; highest = high }) × (lawful (record { lowest = low; highest = high }) ≡ true)
Made low high (Err e) = (e ≡ record { rule = rules.Limits; place = 0 }) × (lawful (record { lowest = low; highest = high }) ≡ false)
