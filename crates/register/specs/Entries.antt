-- The rules of entering and withdrawing, in the order in which they are looked at.
use Rattle.std.specs.Prelude.{ℕ, min, not, ◌||◌, List, [], ◌∷◌, ◌++◌, length, Option, nat_le, nat_lt}
use Rattle.market.specs.Prices.{within}
use Rattle.market.specs.declared.limits.Limits.{Limits}
use Rattle.market.specs.declared.refusals.Refusal.{Refusal}
use Rattle.market.specs.declared.refusals.Rule.TheVariants as rules
use Rattle.bids.specs.Kinds.{Kind}
use Rattle.bids.specs.Registers.{hourly, block, flexible}
use Rattle.bids.specs.Checks.{broken}
use Rattle.bids.specs.Blocks.{block_form}
use Rattle.bids.specs.Flexibles.{flexible_form}
use Rattle.bids.specs.declared.rows.HourlyBid.{HourlyBid}
use Rattle.bids.specs.declared.rows.BlockBid.{BlockBid}
use Rattle.bids.specs.declared.rows.FlexibleBid.{FlexibleBid}
use Rattle.register.specs.Order.{known, stands, tally}
use Rattle.register.specs.Hours.{hour_taken}
use Rattle.register.specs.Families.{parent_kept, may_join, child_stands}

-- rules that are looked at one after the other, each with its refusal where it is broken
abbrev pub Rules : Type 0
Rules = List (Option Refusal)

module _ {B : Type 0} (k : Kind B) where
  -- the number and the participant are in bounds
  abbrev pub identity_rule : B → Rules
  identity_rule b = broken (not (known k b)) rules.Identity (k.number_of b) ∷ []

  -- the number does not stand yet, and the participant has fewer than it may have
  abbrev pub fresh_rules : List B → B → Rules
  fresh_rules xs b =
      broken (stands k (k.number_of b) xs) rules.NumberStands (k.number_of b)
      ∷ broken (nat_le k.most_standing (tally k (k.participant_of b) xs)) rules.MostBids (k.number_of b)
      ∷ []

  -- a place is free, of a table of `room` places
  abbrev pub room_rule : ℕ → List B → B → Rules
  room_rule room xs b = broken (nat_le (min room k.most_places) (length xs)) rules.RegisterFull (k.number_of b) ∷ []

  -- the number stands
  abbrev pub standing_rule : List B → ℕ → Rules
  standing_rule xs n = broken (not (stands k n xs)) rules.NotStanding n ∷ []

-- the price lies within the limits
abbrev pub price_rule : Limits → ℕ → ℕ → Rules
price_rule limits price n = broken (not (within limits price)) rules.Price n ∷ []

-- the hour is one of the day, and the participant has no bid in it
abbrev pub hour_rule : {C : Type 0} → List (HourlyBid C) → HourlyBid C → Rules
hour_rule xs b = broken (nat_lt 23 b.hour || hour_taken b.participant b.hour xs) rules.Hour b.hour ∷ []

-- the parent stands and may be one, and the family keeps its limits with the block
abbrev pub family_rules : List BlockBid → BlockBid → Rules
family_rules xs b =
    broken (not (parent_kept xs b)) rules.Parent b.number
    ∷ broken (not (may_join xs b)) rules.Family b.number
    ∷ []

-- entering an hourly bid among xs, into a table of `room` places
abbrev pub enter_hourly : {C : Type 0} → ℕ → List (HourlyBid C) → HourlyBid C → Rules
enter_hourly room xs b = identity_rule hourly b ++ (fresh_rules hourly xs b ++ (hour_rule xs b ++ room_rule hourly room xs b))

-- entering a block among xs, into a table of `room` places
abbrev pub enter_block : Limits → ℕ → List BlockBid → BlockBid → Rules
enter_block limits room xs b = identity_rule block b ++ (block_form b ++ (price_rule limits b.price b.number ++ (fresh_rules block xs b ++ (room_rule block room xs b ++ family_rules xs b))))

-- entering a flexible bid among xs, into a table of `room` places
abbrev pub enter_flexible : Limits → ℕ → List FlexibleBid → FlexibleBid → Rules
enter_flexible limits room xs b = identity_rule flexible b ++ (flexible_form b ++ (price_rule limits b.price b.number ++ (fresh_rules flexible xs b ++ room_rule flexible room xs b)))

-- withdrawing the block of the number n from xs: it stands, and no child of it does
abbrev pub withdraw_block : List BlockBid → ℕ → Rules
withdraw_block xs n = standing_rule block xs n ++ (broken (child_stands n xs) rules.ChildStands n ∷ [])
