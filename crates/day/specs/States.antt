-- What a day in any state has.
use Rattle.market.specs.declared.limits.Limits.{Limits}
use Rattle.register.specs.declared.lawful.Counts.{Counts}
use Rattle.day.specs.declared.states.Day.{Day}
use Rattle.day.specs.declared.states.Day.TheVariants.{Open, Closed}

-- the limits of a day
abbrev pub limits_of : {C : Type 0} → Day C → Limits
limits_of (Open day) = day.limits
limits_of (Closed day) = day.limits

-- how many bids stand in each register of a day
abbrev pub counts_of : {C : Type 0} → Day C → Counts
counts_of (Open day) = day.counts
counts_of (Closed day) = day.counts
