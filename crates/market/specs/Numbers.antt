-- The number of each rule.
use Rattle.std.specs.Prelude.{ℕ}
use Rattle.market.specs.declared.refusals.Rule.{Rule}
use Rattle.market.specs.declared.refusals.Rule.TheVariants as rules

-- the number by which a rule is known outside
abbrev pub number : Rule → ℕ
number rules.Limits = 1
number rules.Identity = 2
number rules.Form = 3
number rules.Price = 4
number rules.NumberStands = 5
number rules.MostBids = 6
number rules.Hour = 7
number rules.RegisterFull = 8
number rules.Parent = 9
number rules.Family = 10
number rules.NotStanding = 11
number rules.ChildStands = 12
number rules.SumReach = 13
number rules.Register = 14
number rules.ListLength = 20
number rules.ClearingPrice = 21
number rules.Mark = 22
number rules.Start = 23
number rules.RejectedParent = 24
number rules.Margin = 25
number rules.Balance = 26
number rules.Cut = 27
number rules.WronglyRejected = 28
number rules.WronglyUnstarted = 29
number rules.LinesHour = 30
number rules.LinesLeft = 31
