-- The rank of a block, step by step upwards, and what it says of the block's family.
use Rattle.std.proofs.Common.{◌≡◌, ℕ, zero, suc, ◌+◌, ◌≤◌, Bool, true, false, ◌&&◌, eqb, ◌⊎◌, List, [], is_some, Some, None, Option, sym, refl, ap, ◌∙◌, inl, inr, arith}
use Rattle.std.proofs.lemmas.Bool.{false≢true, eq-eqb, ne_eqb}
use Rattle.bids.specs.declared.rows.BlockBid.{BlockBid}
use Rattle.bids.specs.Blocks.{block_quantity}
use Rattle.bids.specs.Quantities.{one_side}
use Rattle.bids.specs.Registers.{block}
use Rattle.register.specs.Order.{standing_as}
use Rattle.register.specs.Families.{rank_from, parent_kept, parent_fits, names_parent}
use Rattle.register.specs.declared.families.Rank.{Rank}

-- what a read past the end would give
abbrev pub blank : BlockBid
blank = record { number = 0; participant = 0; price = 0; first = 0; hours = 0; parent = None; quantities = [] }

-- a block without parent is the head
pub rank_head : (n : ℕ) (xs : List BlockBid) (l : ℕ) (b : BlockBid) → b.parent ≡ None → rank_from n xs l b ≡ Some (record { level = l; head = b.number })
rank_head zero xs l b e = rw e
rank_head (suc n) xs l b e = rw e

-- the rank by what the block names as its parent, and by what stands there
abbrev pub from_found : ℕ → List BlockBid → ℕ → Option BlockBid → Option Rank
from_found n xs l o = elim o [ None ↦ None | Some y ↦ rank_from n xs (l + 1) y ]

abbrev pub from_parent : ℕ → List BlockBid → ℕ → BlockBid → Option ℕ → Option Rank
from_parent n xs l b o = elim o [ None ↦ Some (record { level = l; head = b.number }) | Some p ↦ from_found n xs l (standing_as block p xs) ]

-- a block on the lowest level has no rank where it names a parent
pub rank_low : (xs : List BlockBid) (l : ℕ) (b : BlockBid) (p : ℕ) → b.parent ≡ Some p → rank_from 0 xs l b ≡ None
rank_low xs l b p e = rw e

-- nor has a block whose parent does not stand
pub rank_gone : (n : ℕ) (xs : List BlockBid) (l : ℕ) (b : BlockBid) (p : ℕ) → b.parent ≡ Some p → standing_as block p xs ≡ None → rank_from n xs l b ≡ None
rank_gone zero xs l b p e s = rw e
rank_gone (suc n) xs l b p e s = ap (λ o. from_parent n xs l b o) e ∙ ap (λ o. from_found n xs l o) s

-- any other has the rank of its parent, seen from one level lower
pub rank_up : (n : ℕ) (xs : List BlockBid) (l : ℕ) (b : BlockBid) (p : ℕ) (y : BlockBid) → b.parent ≡ Some p → standing_as block p xs ≡ Some y → rank_from (suc n) xs l b ≡ rank_from n xs (l + 1) y
rank_up n xs l b p y e s = ap (λ o. from_parent n xs l b o) e ∙ ap (λ o. from_found n xs l o) s

-- whether the rule is kept, by what the block names as its parent, and by what stands there
abbrev pub kept_found : BlockBid → Option BlockBid → Bool
kept_found b o = elim o [ None ↦ false | Some y ↦ parent_fits b y ]

abbrev pub kept_parent : List BlockBid → BlockBid → Option ℕ → Bool
kept_parent xs b o = elim o [ None ↦ true | Some p ↦ kept_found b (standing_as block p xs) ]

-- one whose parent does not stand breaks it
pub kept_gone : (xs : List BlockBid) (b : BlockBid) (p : ℕ) → b.parent ≡ Some p → standing_as block p xs ≡ None → parent_kept xs b ≡ false
kept_gone xs b p e s = ap (λ o. kept_parent xs b o) e ∙ ap (λ o. kept_found b o) s

-- and one whose parent stands keeps it where that one fits
pub kept_up : (xs : List BlockBid) (b : BlockBid) (p : ℕ) (y : BlockBid) → b.parent ≡ Some p → standing_as block p xs ≡ Some y → parent_kept xs b ≡ parent_fits b y
kept_up xs b p y e s = ap (λ o. kept_parent xs b o) e ∙ ap (λ o. kept_found b o) s

-- with one participant the rule is that of the directions, and with two it is broken
pub kept_same : (xs : List BlockBid) (b : BlockBid) (p : ℕ) (y : BlockBid) → b.parent ≡ Some p → standing_as block p xs ≡ Some y → y.participant ≡ b.participant → parent_kept xs b ≡ one_side (block_quantity y 0) (block_quantity b 0)
kept_same xs b p y e s h = kept_up xs b p y e s ∙ ap (λ t. t && one_side (block_quantity y 0) (block_quantity b 0)) (eq-eqb _ _ h)

pub kept_other : (xs : List BlockBid) (b : BlockBid) (p : ℕ) (y : BlockBid) → b.parent ≡ Some p → standing_as block p xs ≡ Some y → (y.participant ≡ b.participant → ⊥) → parent_kept xs b ≡ false
kept_other xs b p y e s h = kept_up xs b p y e s ∙ ap (λ t. t && one_side (block_quantity y 0) (block_quantity b 0)) (ne_eqb _ _ h)

-- what a block names as its parent
abbrev names_from : ℕ → Option ℕ → Bool
names_from n o = elim o [ None ↦ false | Some p ↦ eqb p n ]

pub names_some : (n : ℕ) (b : BlockBid) (p : ℕ) → b.parent ≡ Some p → names_parent n b ≡ eqb p n
names_some n b p e = ap (names_from n) e

pub names_none : (n : ℕ) (b : BlockBid) → b.parent ≡ None → names_parent n b ≡ false
names_none n b e = ap (names_from n) e

-- something or nothing
pub cases_some : {X : Type 0} (o : Option X) → (o ≡ None) ⊎ ((x : X) × (o ≡ Some x))
cases_some None = inl refl
cases_some (Some x) = inr (x, refl)

pub some_not_none : {X : Type 0} (o : Option X) (x : X) → o ≡ None → o ≡ Some x → ⊥
some_not_none o x a b = false≢true (ap is_some (sym a ∙ b))

-- the level of a rank
abbrev pub level_in : Option Rank → ℕ
level_in None = 0
level_in (Some r) = r.level

-- a level is at most as far below as there are parents to ask
pub rank_bound : (n : ℕ) (xs : List BlockBid) (l : ℕ) (b : BlockBid) (r : Rank) → rank_from n xs l b ≡ Some r → r.level ≤ l + n
rank_bound zero xs l b r e =
    elim (cases_some b.parent) as (λ _. r.level ≤ l + 0) [
      | inl z ↦ let q = ap level_in (sym (rank_head 0 xs l b z) ∙ e) in omega (arith, q)
      | inr z ↦ absurd (some_not_none _ _ (rank_low xs l b z.0 z.1) e)
    ]
rank_bound (suc n) xs l b r e =
    elim (cases_some b.parent) as (λ _. r.level ≤ l + suc n) [
      | inl z ↦ let q = ap level_in (sym (rank_head (suc n) xs l b z) ∙ e) in omega (arith, q)
      | inr z ↦
          elim (cases_some (standing_as block z.0 xs)) as (λ _. r.level ≤ l + suc n) [
            | inl s ↦ absurd (some_not_none _ _ (rank_gone (suc n) xs l b z.0 z.1 s) e)
            | inr s ↦ let q = rank_bound n xs (l + 1) s.0 r (sym (rank_up n xs l b z.0 s.0 z.1 s.1) ∙ e) in omega (arith, q)
          ]
    ]
