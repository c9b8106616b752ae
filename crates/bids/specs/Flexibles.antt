-- The form of a flexible bid, and its starts.
use Rattle.std.specs.Prelude.{ℕ, ◌+◌, ◌-◌, Bool, cond, ◌&&◌, List, ℤ, Option, nat_le}
use Rattle.market.specs.declared.refusals.Refusal.{Refusal}
use Rattle.market.specs.declared.sides.Side.{Side}
use Rattle.bids.specs.declared.rows.FlexibleBid.{FlexibleBid}
use Rattle.bids.specs.Checks.{Answer}
use Rattle.bids.specs.Profiles.{Profile, fault, form_rules, FormKept, Formed}
use Rattle.bids.specs.Quantities.{quantity_in, side_of, sized, one_side}

-- the quantity of a flexible bid in its hour i, counted from 0
abbrev pub flexible_quantity : FlexibleBid → ℕ → ℤ
flexible_quantity b = quantity_in b.quantities

-- whether a flexible bid buys or sells, as its hour 0 does
abbrev pub flexible_side : FlexibleBid → Side
flexible_side b = side_of (flexible_quantity b 0)

-- a window of 8 to 24 hours that ends by hour 23, and a duration of 1 to 4 hours
abbrev pub flexible_spans : FlexibleBid → Bool
flexible_spans b = nat_le 8 b.length && (nat_le b.length 24 && (nat_le (b.start + b.length) 24 && (nat_le 1 b.duration && nat_le b.duration 4)))

-- the hour i of a flexible bid is right: not 0, at most 1,000 in size, on the side of hour 0
abbrev pub flexible_right : FlexibleBid → ℕ → Bool
flexible_right b i = sized 1000 (flexible_quantity b i) && one_side (flexible_quantity b 0) (flexible_quantity b i)

-- a flexible bid with its quantities and its form
abbrev pub flexible_profile : FlexibleBid → Profile
flexible_profile b = record { price = b.price; spans = flexible_spans b; hours = b.duration; quantities = b.quantities; right = flexible_right b }

-- where the form of a flexible bid is broken: 99 for its window or duration, else the first of its hours that is not right
abbrev pub flexible_fault : FlexibleBid → Option ℕ
flexible_fault b = fault (flexible_profile b)

-- the form, as a rule of an entry
abbrev pub flexible_form : FlexibleBid → List (Option Refusal)
flexible_form b = form_rules (flexible_profile b)

-- the flexible bid keeps its form: its window and duration are allowed, and each hour is right
abbrev pub FlexibleForm : FlexibleBid → Type 0
FlexibleForm b = FormKept (flexible_profile b)

-- what the check of a flexible bid's form answers
abbrev pub FlexibleFormed : FlexibleBid → Answer → Type 0
FlexibleFormed b = Formed (flexible_profile b)

-- how many starts a flexible bid has: its window less its duration and one more, and none where these are not allowed
abbrev pub starts_of : FlexibleBid → ℕ
starts_of b = cond (flexible_spans b) (b.length - b.duration + 1) 0

-- a flexible bid may start at the hour s: its window and duration are allowed, and from s on it stays within its window
abbrev pub start_allowed : FlexibleBid → ℕ → Bool
start_allowed b s = flexible_spans b && (nat_le b.start s && nat_le (s + b.duration) (b.start + b.length))
