-- What a lot of a stepped curve is worth, by the first level that trades otherwise.
use Rattle.std.proofs.Common.{◌≡◌, ℕ, zero, suc, ◌-◌, ◌<◌, ◌≤◌, min, max, true, List, [], ◌∷◌, length, get_or, take, drop, ℤ, ◌≤ℤ◌, Some, None, sym, subst, ⊎_elim, arith}
use Rattle.std.proofs.lemmas.List.{take_rest}
use Rattle.std.proofs.lemmas.Bool.{and_parts, cases_lt}
use Rattle.market.specs.declared.limits.Limits.{Limits}
use Rattle.market.specs.declared.sides.Side.TheVariants.{Buying, Selling}
use Rattle.market.specs.Prices.{lawful}
use Rattle.market.specs.Lots.{traded}
use Rattle.curve.specs.Laws.{Falls}
use Rattle.curve.specs.Worth.{WorthIs}
use Rattle.curve.proofs.Worths.{ordered}
use Rattle.curve.proofs.Bests.{more_bought, more_sold, buying_none, buying_some, selling_none, selling_some}
use Rattle.levels.specs.declared.level.Level.{Level}
use Rattle.levels.specs.Form.{bounded, follows, formed_after, formed}
use Rattle.levels.specs.Steps.{stepped, steps_of}
use Rattle.levels.specs.Tables.{zero_level}
use Rattle.levels.specs.Fronts.{Formed}
use Rattle.levels.specs.Chains.{next, along_from, along, along_top, along_laws, here, there}
use Rattle.levels.proofs.OnLevels.{rises_at}
use Rattle.levels.specs.StepRule.{on_step, step_rule}

-- ---- before the level at the place i, and from it on
steps_before : (P : ℤ → Type 0) (a : Level) (ls : List Level) (d : Level) (p i : ℕ) → i ≤ length ls → P a.quantity → ((k : ℕ) → k < i → P (get_or ls k d).quantity) → (i < length ls → p < (get_or ls i d).price) → P (along_from on_step step_rule a ls p)
steps_before P a [] d p i l first each to = first
steps_before P a (b ∷ ls) d p zero l first each to = subst P (sym (here on_step step_rule a b ls p (to (omega arith)))) first
steps_before P a (b ∷ ls) d p (suc i) l first each to =
    ⊎_elim
    (λ u. subst P (sym (here on_step step_rule a b ls p u)) first)
    (λ u. subst P (sym (there on_step step_rule a b ls p u)) (steps_before P b ls d p i (omega arith) (each 0 (omega arith)) (λ k h. each (suc k) (omega arith)) (λ h. to (omega arith))))
    (cases_lt p b.price)

steps_from : (a : Level) (ls : List Level) (d : Level) (p i : ℕ) → formed_after a ls ≡ true → i < length ls → (get_or ls i d).price ≤ p → along_from on_step step_rule a ls p ≤ℤ (get_or ls i d).quantity
steps_from a [] d p i h l from = absurd (omega arith)
steps_from a (b ∷ ls) d p zero h l from =
    let parts = and_parts (follows a b) (formed_after b ls) h in
    subst (λ x. x ≤ℤ b.quantity) (sym (there on_step step_rule a b ls p from)) (along_top on_step step_rule b ls p (next a b parts.0).next_bounded parts.1)
steps_from a (b ∷ ls) d p (suc i) h l from =
    let parts = and_parts (follows a b) (formed_after b ls) h in
    let up = rises_at b ls d (suc i) parts.1 (omega arith) in
    subst (λ x. x ≤ℤ (get_or ls i d).quantity) (sym (there on_step step_rule a b ls p (omega arith))) (steps_from b ls d p i parts.1 (omega arith) from)

-- ---- the same of levels taken apart into the first and the later ones
module _ (ls : List Level) (h : Formed ls) where
  abbrev first : Level
  first = get_or ls 0 zero_level

  abbrev later : List Level
  later = take (length ls - 1) (drop 1 ls)

  pub falls : Falls (steps_of ls)
  unfolding stepped
  falls = (along_laws on_step step_rule ls h).never_rises

  -- where levels up to the place i have a property, so have the steps before the level there
  pub keeps_before : (P : ℤ → Type 0) (p i : ℕ) → p ≤ 10000000 → i ≤ length later → P first.quantity → ((k : ℕ) → k < i → P (get_or later k zero_level).quantity) → (i < length later → p < (get_or later i zero_level).price) → P (steps_of ls p)
  unfolding stepped
  keeps_before P p i small l one each to =
      let e : p ≡ min p 10000000 = omega arith in
      subst (λ x. P (along on_step step_rule ls x)) e (by ls h.some one l each to)
    where
      by : (xs : List Level) → 0 < length xs → P (get_or xs 0 zero_level).quantity → i ≤ length (take (length xs - 1) (drop 1 xs)) → ((k : ℕ) → k < i → P (get_or (take (length xs - 1) (drop 1 xs)) k zero_level).quantity) → (i < length (take (length xs - 1) (drop 1 xs)) → p < (get_or (take (length xs - 1) (drop 1 xs)) i zero_level).price) → P (along on_step step_rule xs p)
      by [] s = absurd (omega arith)
      by (a ∷ ys) s = subst (λ zs. P a.quantity → i ≤ length zs → ((k : ℕ) → k < i → P (get_or zs k zero_level).quantity) → (i < length zs → p < (get_or zs i zero_level).price) → P (along on_step step_rule (a ∷ ys) p)) (sym (take_rest (a ∷ ys) 1)) (λ one l each to. steps_before P a ys zero_level p i l one each to)

  pub at_most_from : (p i : ℕ) → p ≤ 10000000 → i < length later → (get_or later i zero_level).price ≤ p → steps_of ls p ≤ℤ (get_or later i zero_level).quantity
  unfolding stepped
  at_most_from p i small l from =
      let e : p ≡ min p 10000000 = omega arith in
      subst (λ x. along on_step step_rule ls x ≤ℤ (get_or later i zero_level).quantity) e (by ls h.some h.keeps l from)
    where
      by : (xs : List Level) → 0 < length xs → formed xs ≡ true → i < length (take (length xs - 1) (drop 1 xs)) → (get_or (take (length xs - 1) (drop 1 xs)) i zero_level).price ≤ p → along on_step step_rule xs p ≤ℤ (get_or (take (length xs - 1) (drop 1 xs)) i zero_level).quantity
      by [] s f = absurd (omega arith)
      by (a ∷ ys) s f = subst (λ zs. i < length zs → (get_or zs i zero_level).price ≤ p → along on_step step_rule (a ∷ ys) p ≤ℤ (get_or zs i zero_level).quantity) (sym (take_rest (a ∷ ys) 1)) (steps_from a ys zero_level p i (and_parts (bounded a) (formed_after a ys) f).1)

  pub at_most_first : (p : ℕ) → steps_of ls p ≤ℤ first.quantity
  unfolding stepped
  at_most_first p = by ls h.some h.keeps
    where
      by : (xs : List Level) → 0 < length xs → formed xs ≡ true → along on_step step_rule xs (min p 10000000) ≤ℤ (get_or xs 0 zero_level).quantity
      by [] s f = absurd (omega arith)
      by (a ∷ ys) s f = let parts = and_parts (bounded a) (formed_after a ys) f in along_top on_step step_rule a ys (min p 10000000) parts.0 parts.1

  module _ (limits : Limits) (lot : ℕ) (are_lawful : lawful limits ≡ true) (counted : 0 < lot) where
    pub record Bounded : Type 0 where
      pub below : limits.lowest < limits.highest
      pub highest_within : limits.highest ≤ 10000000

    limits_are : Bounded
    limits_are = let o = ordered limits are_lawful in record { below = o.below; highest_within = o.highest_within }

    -- ---- buying
    pub buying_first : traded Buying first.quantity < lot → WorthIs (steps_of ls) limits Buying lot None
    buying_first few =
        let k = more_bought (steps_of ls limits.lowest) first.quantity (at_most_first limits.lowest) in
        buying_none (steps_of ls) falls limits lot (omega arith)

    module _ (one : lot ≤ traded Buying first.quantity) (i : ℕ) (within : i ≤ length later) (each : (k : ℕ) → k < i → lot ≤ traded Buying (get_or later k zero_level).quantity) where
      bought_before : (p : ℕ) → p ≤ limits.highest → (i < length later → p < (get_or later i zero_level).price) → lot ≤ traded Buying (steps_of ls p)
      bought_before p l to = let o = limits_are in keeps_before (λ z. lot ≤ traded Buying z) p i (omega (arith, o.highest_within)) within one each to

      pub buying_all : i ≡ length later → WorthIs (steps_of ls) limits Buying lot (Some limits.highest)
      buying_all end =
          let o = limits_are in
          let b = o.below in
          buying_some (steps_of ls) falls limits lot are_lawful counted limits.highest (omega arith) (omega arith) (bought_before limits.highest (omega arith) (λ l. absurd (omega arith))) (λ p over upto. absurd (omega arith))

      module _ (there-is : i < length later) (fewer : traded Buying (get_or later i zero_level).quantity < lot) where
        few_from : (p : ℕ) → p ≤ limits.highest → (get_or later i zero_level).price ≤ p → traded Buying (steps_of ls p) < lot
        few_from p l from =
            let o = limits_are in
            let k = more_bought (steps_of ls p) (get_or later i zero_level).quantity (at_most_from p i (omega (arith, o.highest_within)) there-is from) in
            omega arith

        pub buying_nowhere : (get_or later i zero_level).price ≤ limits.lowest → WorthIs (steps_of ls) limits Buying lot None
        buying_nowhere low = let o = limits_are in buying_none (steps_of ls) falls limits lot (few_from limits.lowest (omega (arith, o.below)) low)

        pub buying_below : limits.lowest < (get_or later i zero_level).price → WorthIs (steps_of ls) limits Buying lot (Some (min limits.highest ((get_or later i zero_level).price - 1)))
        buying_below up =
            let o = limits_are in
            let b = o.below in
            let w = min limits.highest ((get_or later i zero_level).price - 1) in
            buying_some (steps_of ls) falls limits lot are_lawful counted w (omega arith) (omega arith) (bought_before w (omega arith) (λ l. omega arith)) (λ p over upto. few_from p upto (omega arith))

    -- ---- selling
    pub selling_first : lot ≤ traded Selling first.quantity → WorthIs (steps_of ls) limits Selling lot (Some limits.lowest)
    selling_first many =
        let o = limits_are in
        let b = o.below in
        let k = more_sold first.quantity (steps_of ls limits.lowest) (at_most_first limits.lowest) in
        selling_some (steps_of ls) falls limits lot are_lawful counted limits.lowest (omega arith) (omega arith) (omega arith) (λ p under from. absurd (omega arith))

    module _ (one : traded Selling first.quantity < lot) (i : ℕ) (within : i ≤ length later) (each : (k : ℕ) → k < i → traded Selling (get_or later k zero_level).quantity < lot) where
      sold_before : (p : ℕ) → p ≤ limits.highest → (i < length later → p < (get_or later i zero_level).price) → traded Selling (steps_of ls p) < lot
      sold_before p l to = let o = limits_are in keeps_before (λ z. traded Selling z < lot) p i (omega (arith, o.highest_within)) within one each to

      pub selling_nowhere : (i < length later → limits.highest < (get_or later i zero_level).price) → WorthIs (steps_of ls) limits Selling lot None
      selling_nowhere past = selling_none (steps_of ls) falls limits lot (sold_before limits.highest (omega arith) past)

      pub selling_from : i < length later → lot ≤ traded Selling (get_or later i zero_level).quantity → (get_or later i zero_level).price ≤ limits.highest → WorthIs (steps_of ls) limits Selling lot (Some (max limits.lowest (get_or later i zero_level).price))
      selling_from there-is many upto =
          let o = limits_are in
          let b = o.below in
          let w = max limits.lowest (get_or later i zero_level).price in
          let k = more_sold (get_or later i zero_level).quantity (steps_of ls w) (at_most_from w i (omega (arith, o.highest_within)) there-is (omega arith)) in
          selling_some (steps_of ls) falls limits lot are_lawful counted w (omega arith) (omega arith) (omega arith) (λ p under from. sold_before p (omega arith) (λ l. omega arith))
