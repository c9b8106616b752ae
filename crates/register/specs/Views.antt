-- The tables of the three registers as they are lent.
use Rattle.register.specs.Lawful.{Tables}
use Rattle.register.specs.declared.lawful.Tables.{Tables as View}

-- the bids that the tables hold
abbrev pub lists : {C : Type 0} → View C → Tables C
lists v = record { hourly = v.hourly.now; blocks = v.blocks.now; flexible = v.flexible.now }
