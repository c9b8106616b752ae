-- The three kinds of bids.
use Rattle.bids.specs.Kinds.{Kind}
use Rattle.bids.specs.declared.rows.HourlyBid.{HourlyBid}
use Rattle.bids.specs.declared.rows.BlockBid.{BlockBid}
use Rattle.bids.specs.declared.rows.FlexibleBid.{FlexibleBid}

-- hourly bids: 24 of one participant, 4,096 in all
abbrev pub hourly : {C : Type 0} → Kind (HourlyBid C)
hourly = record { number_of = λ b. b.number; participant_of = λ b. b.participant; most_standing = 24; most_places = 4096 }

-- block bids: 50 of one participant, 1,024 in all
abbrev pub block : Kind BlockBid
block = record { number_of = λ b. b.number; participant_of = λ b. b.participant; most_standing = 50; most_places = 1024 }

-- flexible bids: 6 of one participant, 512 in all
abbrev pub flexible : Kind FlexibleBid
flexible = record { number_of = λ b. b.number; participant_of = λ b. b.participant; most_standing = 6; most_places = 512 }
