-- What a lot is worth is one price at most, and lots come in runs of equal worth.
use Rattle.std.proofs.Common.{◌≡◌, ℕ, ◌-◌, ◌<◌, ◌≤◌, true, ℤ, Some, None, Option, unwrap_or, sym, refl, ap, subst, arith}
use Rattle.std.proofs.lemmas.Bool.{and_parts, and_from, leb-true, ltb-true, le-leb, lt-ltb, both_ways}
use Rattle.market.specs.declared.limits.Limits.{Limits}
use Rattle.market.specs.declared.sides.Side.{Side}
use Rattle.market.specs.declared.sides.Side.TheVariants.{Buying, Selling}
use Rattle.market.specs.Prices.{lawful, within}
use Rattle.market.specs.Lots.{traded}
use Rattle.curve.specs.Worth.{Trades, NoBetter, WorthIs, trades, greatest, least, worth}
use Rattle.curve.specs.Gains.{lot_worth}
use Rattle.curve.specs.Theorems.{WorthFound}
use Rattle.curve.proofs.Searches.{Greatest, Least, greatest_found, least_found}

-- ---- limits by their parts
pub record Ordered (limits : Limits) : Type 0 where
  pub below : limits.lowest < limits.highest
  pub highest_within : limits.highest ≤ 10000000

pub ordered : (limits : Limits) → lawful limits ≡ true → Ordered limits
ordered limits e =
    let b = and_parts _ _ e in
    record { below = ltb-true _ _ b.0; highest_within = leb-true _ _ b.1 }

pub inside_from : (limits : Limits) (p : ℕ) → within limits p ≡ true → limits.lowest ≤ p
inside_from limits p e = leb-true _ _ (and_parts _ _ e).0

pub inside_to : (limits : Limits) (p : ℕ) → within limits p ≡ true → p ≤ limits.highest
inside_to limits p e = leb-true _ _ (and_parts _ _ e).1

pub inside : (limits : Limits) (p : ℕ) → limits.lowest ≤ p → p ≤ limits.highest → within limits p ≡ true
inside limits p from to = and_from _ _ (le-leb _ _ from) (le-leb _ _ to)

module _ (q : ℕ → ℤ) (limits : Limits) (side : Side) where
  -- ---- the test and the fact
  passes : (lot p : ℕ) → Trades q limits side lot p → trades q limits side lot p ≡ true
  passes lot p t = and_from _ _ t.are_lawful (and_from _ _ (lt-ltb 0 lot t.counted) (and_from _ _ t.inside (le-leb _ _ t.enough)))

  passed : (lot p : ℕ) → trades q limits side lot p ≡ true → Trades q limits side lot p
  passed lot p e =
      let a = and_parts _ _ e in
      let b = and_parts _ _ a.1 in
      let c = and_parts _ _ b.1 in
      record { are_lawful = a.0; counted = ltb-true 0 lot b.0; inside = c.0; enough = leb-true _ _ c.1 }

  -- ---- a lot has one worth
  pub one_worth : (lot : ℕ) (o r : Option ℕ) → WorthIs q limits side lot o → WorthIs q limits side lot r → o ≡ r
  one_worth lot None None f g = refl
  one_worth lot None (Some w) f g = absurd (f w g.0)
  one_worth lot (Some v) None f g = absurd (g v f.0)
  one_worth lot (Some v) (Some w) f g = ap Some (by side (g.1 v f.0) (f.1 w g.0))
    where
      by : (s : Side) → NoBetter s w v → NoBetter s v w → v ≡ w
      by Buying a b = omega arith
      by Selling a b = omega arith

  -- ---- all lots from one to as many as are traded at its worth are worth the same
  pub same_worth : (lot other w : ℕ) → WorthIs q limits side lot (Some w) → lot ≤ other → other ≤ traded side (q w) → WorthIs q limits side other (Some w)
  same_worth lot other w h from to = (
    record { are_lawful = h.0.are_lawful; counted = omega (arith, h.0.counted); inside = h.0.inside; enough = to },
    λ p t. h.1 p (record { are_lawful = t.are_lawful; counted = h.0.counted; inside = t.inside; enough = omega (arith, t.enough) }),
  )

  -- ---- past a lot without worth no lot has one
  pub no_worth : (lot other : ℕ) → 0 < lot → WorthIs q limits side lot None → lot ≤ other → WorthIs q limits side other None
  no_worth lot other counted h from = λ p t.
      h p (record { are_lawful = t.are_lawful; counted = counted; inside = t.inside; enough = omega (arith, t.enough) })

-- ---- the searches find it
pub worth_found : (q : ℕ → ℤ) (limits : Limits) (side : Side) (lot : ℕ) → WorthIs q limits side lot (worth q limits side lot)
unfolding worth
worth_found q limits Buying lot = of (greatest (trades q limits Buying lot) limits.lowest (limits.highest - limits.lowest)) (greatest_found _ _ _)
  where
    of : (o : Option ℕ) → Greatest (trades q limits Buying lot) limits.lowest (limits.highest - limits.lowest) o → WorthIs q limits Buying lot o
    of None h = λ p t.
        let o = ordered limits t.are_lawful in
        let from = inside_from limits p t.inside in
        let to = inside_to limits p t.inside in
        both_ways _ (h p from (omega (arith, o.below))) (passes q limits Buying lot p t)
    of (Some w) h = (
      passed q limits Buying lot w h.2,
      λ p t.
          let o = ordered limits t.are_lawful in
          let from = inside_from limits p t.inside in
          let to = inside_to limits p t.inside in
          h.3 p from (omega (arith, o.below)) (passes q limits Buying lot p t),
    )
worth_found q limits Selling lot = of (least (trades q limits Selling lot) limits.lowest (limits.highest - limits.lowest)) (least_found _ _ _)
  where
    of : (o : Option ℕ) → Least (trades q limits Selling lot) limits.lowest (limits.highest - limits.lowest) o → WorthIs q limits Selling lot o
    of None h = λ p t.
        let o = ordered limits t.are_lawful in
        let from = inside_from limits p t.inside in
        let to = inside_to limits p t.inside in
        both_ways _ (h p from (omega (arith, o.below))) (passes q limits Selling lot p t)
    of (Some w) h = (
      passed q limits Selling lot w h.2,
      λ p t.
          let o = ordered limits t.are_lawful in
          let from = inside_from limits p t.inside in
          let to = inside_to limits p t.inside in
          h.3 p from (omega (arith, o.below)) (passes q limits Selling lot p t),
    )

module _ (q : ℕ → ℤ) (limits : Limits) (side : Side) (lot : ℕ) where
  pub lot_worth_is : (o : Option ℕ) → WorthIs q limits side lot o → lot_worth q limits side lot ≡ unwrap_or o 0
  unfolding lot_worth
  lot_worth_is o h = ap (λ x. unwrap_or x 0) (one_worth q limits side lot _ o (worth_found q limits side lot) h)

  pub lot_worth_le : lot_worth q limits side lot ≤ 10000000
  unfolding lot_worth
  lot_worth_le = of (worth q limits side lot) (worth_found q limits side lot)
    where
      of : (o : Option ℕ) → WorthIs q limits side lot o → unwrap_or o 0 ≤ 10000000
      of None h = omega arith
      of (Some w) h =
          let o = ordered limits h.0.are_lawful in
          let to = inside_to limits w h.0.inside in
          omega (arith, o.highest_within)

pub worth_by_rule : (q : ℕ → ℤ) (limits : Limits) (side : Side) → WorthFound q limits side
worth_by_rule q limits side lot o = (
  λ h. one_worth q limits side lot o (worth q limits side lot) h (worth_found q limits side lot),
  λ e. subst (WorthIs q limits side lot) (sym e) (worth_found q limits side lot),
)
