-- What a register knows of its bids.
use Rattle.std.specs.Prelude.{ℕ}

-- a kind of bid: the number and the participant of each, how many one participant may have standing, and how many a register holds at most
pub record Kind (B : Type 0) : Type 0 where
  pub number_of : B → ℕ
  pub participant_of : B → ℕ
  pub most_standing : ℕ
  pub most_places : ℕ
