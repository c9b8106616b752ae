-- Bids of a register, as a list.
use Rattle.std.specs.Prelude.{◌≡◌, ℕ, ◌<◌, ◌≤◌, Bool, true, cond, ◌&&◌, List, [], ◌∷◌, length, Some, None, Ok, Err, Option, Result, ◌==◌, nat_le, nat_lt, slice_index_or}
use Rattle.std.specs.List.{AllByRecursion, list_any, list_all, count_by}
use Rattle.bids.specs.Kinds.{Kind}

-- t is true of each
abbrev pub each : {X : Type 0} → (X → Bool) → List X → Bool
each t xs = list_all t xs

module _ {B : Type 0} (k : Kind B) where
  -- a bid of the number n stands
  abbrev pub stands : ℕ → List B → Bool
  stands n xs = list_any (λ x. k.number_of x == n) xs

  -- the bid of the number n, where one stands
  abbrev pub standing_as : ℕ → List B → Option B
  standing_as n [] = None
  standing_as n (x ∷ xs) = cond (k.number_of x == n) (Some x) (standing_as n xs)

  -- how many bids of the participant p stand
  abbrev pub tally : ℕ → List B → ℕ
  tally p xs = count_by (λ x. k.participant_of x == p) xs

  -- the bids with b among them, by rising number
  abbrev pub entered : B → List B → List B
  entered b [] = b ∷ []
  entered b (x ∷ xs) = cond (nat_lt (k.number_of x) (k.number_of b)) (x ∷ entered b xs) (b ∷ x ∷ xs)

  -- the bids without the one of the number n
  abbrev pub without : ℕ → List B → List B
  without n [] = []
  without n (x ∷ xs) = cond (k.number_of x == n) xs (x ∷ without n xs)

  -- the numbers rise strictly, from above n
  abbrev pub rising : ℕ → List B → Bool
  rising n [] = true
  rising n (x ∷ xs) = nat_lt n (k.number_of x) && rising (k.number_of x) xs

  -- the number of a bid is 1 to 60,000, and its participant 1 to 999
  abbrev pub known : B → Bool
  known x = nat_lt 0 (k.number_of x) && (nat_le (k.number_of x) 60000 && (nat_lt 0 (k.participant_of x) && nat_le (k.participant_of x) 999))

  -- among all the participant of a bid has at most as many standing as it may have
  abbrev pub few : List B → B → Bool
  few all x = nat_le (tally (k.participant_of x) all) k.most_standing

  -- bids stand in order: numbers rise, each is known, and no participant has more than it may have
  abbrev pub ordered : List B → Bool
  ordered xs = rising 0 xs && (each known xs && each (few xs) xs)

  -- the same in words
  pub record Ordered (xs : List B) : Type 0 where
    pub rises : rising 0 xs ≡ true
    pub knows : AllByRecursion (λ x. known x ≡ true) xs
    pub few_each : (p : ℕ) → tally p xs ≤ k.most_standing

  -- the place of the number n among bids: where it stands, or where it would
  abbrev pub Placed : ℕ → List B → Result ℕ ℕ → Type 0
  Placed n xs (Ok i) = (i < length xs) × ((d : B) → k.number_of (slice_index_or xs i d) ≡ n)
  Placed n xs (Err i) = (i ≤ length xs) × ((j : ℕ) (d : B) → j < i → k.number_of (slice_index_or xs j d) < n) × ((j : ℕ) (d : B) → i ≤ j → j < length xs → n < k.number_of (slice_index_or xs j d))
