-- The hours of hourly bids.
use Rattle.std.specs.Prelude.{ℕ, Bool, true, not, ◌&&◌, List, [], ◌∷◌, ◌==◌, nat_le}
use Rattle.std.specs.List.{list_any}
use Rattle.bids.specs.declared.rows.HourlyBid.{HourlyBid}
use Rattle.register.specs.Order.{each}

-- the bid x is the participant p's in the hour h
abbrev pub in_hour : {C : Type 0} → ℕ → ℕ → HourlyBid C → Bool
in_hour p h x = x.participant == p && x.hour == h

-- the participant p has a bid in the hour h
abbrev pub hour_taken : {C : Type 0} → ℕ → ℕ → List (HourlyBid C) → Bool
hour_taken p h xs = list_any (in_hour p h) xs

-- no two bids are one participant's in one hour
abbrev pub apart : {C : Type 0} → List (HourlyBid C) → Bool
apart [] = true
apart (x ∷ xs) = not (hour_taken x.participant x.hour xs) && apart xs

-- the hour of a bid is 0 to 23
abbrev pub hour_right : {C : Type 0} → HourlyBid C → Bool
hour_right x = nat_le x.hour 23

-- each hour is one of the day, and no participant has two bids in one
abbrev pub hours_kept : {C : Type 0} → List (HourlyBid C) → Bool
hours_kept xs = each hour_right xs && apart xs
