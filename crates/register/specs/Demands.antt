-- What each kind of bid asks of its bids beside their order, and the rules of a register by it.
use Rattle.std.specs.Prelude.{◌≡◌, ℕ, Bool, not, ◌&&◌, List, [], ◌∷◌, ◌++◌, is_some, refl}
use Rattle.market.specs.Prices.{within}
use Rattle.market.specs.declared.limits.Limits.{Limits}
use Rattle.market.specs.declared.refusals.Rule.TheVariants as rules
use Rattle.bids.specs.Kinds.{Kind}
use Rattle.bids.specs.Registers.{hourly, block, flexible}
use Rattle.bids.specs.Checks.{broken}
use Rattle.bids.specs.Profiles.{Profile, fault, form_rules}
use Rattle.bids.specs.Blocks.{block_profile}
use Rattle.bids.specs.Flexibles.{flexible_profile}
use Rattle.bids.specs.declared.rows.HourlyBid.{HourlyBid}
use Rattle.bids.specs.declared.rows.BlockBid.{BlockBid}
use Rattle.bids.specs.declared.rows.FlexibleBid.{FlexibleBid}
use Rattle.register.specs.Order.{each, ordered}
use Rattle.register.specs.Hours.{hours_kept}
use Rattle.register.specs.Families.{families_kept, child_stands}
use Rattle.register.specs.Entries.{Rules, identity_rule, fresh_rules, room_rule, standing_rule, price_rule, hour_rule, family_rules, enter_hourly, enter_block, enter_flexible, withdraw_block}
use Rattle.register.specs.declared.registered.RegisterKind.{RegisterKind}
use Rattle.register.specs.declared.registered.RegisterKind.TheVariants.{Hourly, Block, Flexible}
use Rattle.register.specs.Lawful.{lawful_table, hourly_kept, block_alone, blocks_kept, flexible_alone, flexible_kept}

-- what a kind asks beside the order: of a bid by itself, under the limits; of one that is entered among others, before the places are looked at and after them; of the bids that stay where one is withdrawn; and of all that stand together
pub record Demands (B : Type 0) : Type 0 where
  pub alone : Limits → B → Rules
  pub beside : List B → B → Rules
  pub joining : List B → B → Rules
  pub leaving : List B → ℕ → Rules
  pub together : Limits → List B → Bool

module _ {B : Type 0} (k : Kind B) (d : Demands B) where
  -- entering a bid among xs, into a table of `room` places
  abbrev pub enter_by : Limits → ℕ → List B → B → Rules
  enter_by limits room xs b = identity_rule k b ++ (d.alone limits b ++ (fresh_rules k xs b ++ (d.beside xs b ++ (room_rule k room xs b ++ d.joining xs b))))

  -- withdrawing the bid of the number n from xs
  abbrev pub withdraw_by : List B → ℕ → Rules
  withdraw_by xs n = standing_rule k xs n ++ d.leaving xs n

  -- bids that may stand together
  abbrev pub kept_by : Limits → List B → Bool
  kept_by limits xs = ordered k xs && d.together limits xs

-- a bid of hours keeps its form, and its price lies within the limits
abbrev pub formed_alone : Limits → Profile → Bool
formed_alone limits p = not (is_some (fault p)) && within limits p.price

-- the same, as rules of an entry of the number n
abbrev pub formed_rules : Limits → Profile → ℕ → Rules
formed_rules limits p n = form_rules p ++ price_rule limits p.price n

-- the number of a kind, at which its register is refused
abbrev pub place_of : RegisterKind → ℕ
place_of Hourly = 1
place_of Block = 2
place_of Flexible = 3

-- the register of a kind is lawful
abbrev pub lawful_rule : {B : Type 0} → Kind B → Demands B → RegisterKind → Limits → ℕ → List B → Rules
lawful_rule k d kind limits n table = broken (not (lawful_table (kept_by k d limits) n table)) rules.Register (place_of kind) ∷ []

-- hourly bids ask for an hour that is free
abbrev pub hourly_demands : {C : Type 0} → Demands (HourlyBid C)
hourly_demands = record { alone = λ limits b. []; beside = λ xs b. hour_rule xs b; joining = λ xs b. []; leaving = λ xs n. []; together = λ limits xs. hours_kept xs }

-- blocks ask for their form, a price within the limits, and a family that keeps its limits
abbrev pub block_demands : Demands BlockBid
block_demands = record { alone = λ limits b. formed_rules limits (block_profile b) b.number; beside = λ xs b. []; joining = λ xs b. family_rules xs b; leaving = λ xs n. broken (child_stands n xs) rules.ChildStands n ∷ []; together = λ limits xs. each (block_alone limits) xs && families_kept xs }

-- flexible bids ask for their form and a price within the limits
abbrev pub flexible_demands : Demands FlexibleBid
flexible_demands = record { alone = λ limits b. formed_rules limits (flexible_profile b) b.number; beside = λ xs b. []; joining = λ xs b. []; leaving = λ xs n. []; together = λ limits xs. each (flexible_alone limits) xs }

-- by what hourly bids ask, entering one goes by the rules of entering an hourly bid
pub enters_hourly : {C : Type 0} (limits : Limits) (room : ℕ) (xs : List (HourlyBid C)) (b : HourlyBid C) → enter_by hourly hourly_demands limits room xs b ≡ enter_hourly room xs b
enters_hourly limits room xs b = refl

-- by what blocks ask, entering one goes by the rules of entering a block
pub enters_block : (limits : Limits) (room : ℕ) (xs : List BlockBid) (b : BlockBid) → enter_by block block_demands limits room xs b ≡ enter_block limits room xs b
enters_block limits room xs b = refl

-- by what flexible bids ask, entering one goes by the rules of entering a flexible bid
pub enters_flexible : (limits : Limits) (room : ℕ) (xs : List FlexibleBid) (b : FlexibleBid) → enter_by flexible flexible_demands limits room xs b ≡ enter_flexible limits room xs b
enters_flexible limits room xs b = refl

-- withdrawing an hourly bid asks only that it stands
pub leaves_hourly : {C : Type 0} (xs : List (HourlyBid C)) (n : ℕ) → withdraw_by hourly hourly_demands xs n ≡ standing_rule hourly xs n
leaves_hourly xs n = refl

-- withdrawing a block asks that it stands and no child of it does
pub leaves_block : (xs : List BlockBid) (n : ℕ) → withdraw_by block block_demands xs n ≡ withdraw_block xs n
leaves_block xs n = refl

-- withdrawing a flexible bid asks only that it stands
pub leaves_flexible : (xs : List FlexibleBid) (n : ℕ) → withdraw_by flexible flexible_demands xs n ≡ standing_rule flexible xs n
leaves_flexible xs n = refl

-- hourly bids may stand together by what their kind asks exactly where they are kept
pub keeps_hourly : {C : Type 0} (limits : Limits) (xs : List (HourlyBid C)) → kept_by hourly hourly_demands limits xs ≡ hourly_kept xs
keeps_hourly limits xs = refl

-- blocks may stand together by what their kind asks exactly where they are kept
pub keeps_blocks : (limits : Limits) (xs : List BlockBid) → kept_by block block_demands limits xs ≡ blocks_kept limits xs
keeps_blocks limits xs = refl

-- flexible bids may stand together by what their kind asks exactly where they are kept
pub keeps_flexible : (limits : Limits) (xs : List FlexibleBid) → kept_by flexible flexible_demands limits xs ≡ flexible_kept limits xs
keeps_flexible limits xs = refl
