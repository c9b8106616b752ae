-- A curve that never rises buys fewer lots and sells more as the price rises, so that the best price of a lot is where that turns.
use Rattle.std.proofs.Common.{◌≡◌, ℕ, ◌<◌, ◌≤◌, true, ℤ, pos, negsuc, neg_ℤ, ◌≤ℤ◌, Some, None, ap, ◌∙◌, ⊎_elim, arith, w32, to_z, of_z}
use lib.Signed.{mag}
use Rattle.std.proofs.lemmas.Int.{ints, to_z-of_z}
use Rattle.std.proofs.lemmas.Bool.{cases_lt}
use Rattle.market.specs.declared.limits.Limits.{Limits}
use Rattle.market.specs.declared.sides.Side.{Side}
use Rattle.market.specs.declared.sides.Side.TheVariants.{Buying, Selling}
use Rattle.market.specs.Prices.{lawful}
use Rattle.market.specs.Lots.{traded}
use Rattle.curve.specs.Laws.{Falls}
use Rattle.curve.specs.Worth.{WorthIs}
use Rattle.curve.proofs.Worths.{inside, inside_from, inside_to}

-- the lots of a quantity that a call answered
pub lots_of : (side : Side) (n : ℕ) (r z : ℤ) → n ≡ traded side (to_z w32 (of_z w32 r)) → mag r < 2147483648 → r ≡ z → n ≡ traded side z
lots_of side n r z e fits same = e ∙ ap (traded side) (to_z-of_z w32 r (record { sfits = fits }) ∙ same)

-- no more lots are traded than the reach
pub traded_within : (side : Side) (z : ℤ) (r : ℕ) → neg_ℤ (pos r) ≤ℤ z → z ≤ℤ pos r → traded side z ≤ r
traded_within Buying (pos n) r l u = omega (arith, ints)
traded_within Buying (negsuc n) r l u = omega arith
traded_within Selling (pos n) r l u = omega arith
traded_within Selling (negsuc n) r l u = omega (arith, ints)

pub more_bought : (x y : ℤ) → x ≤ℤ y → traded Buying x ≤ traded Buying y
more_bought (pos a) (pos b) h = omega (arith, ints)
more_bought (pos a) (negsuc b) h = absurd (omega (arith, ints))
more_bought (negsuc a) (pos b) h = omega arith
more_bought (negsuc a) (negsuc b) h = omega arith

pub more_sold : (x y : ℤ) → y ≤ℤ x → traded Selling x ≤ traded Selling y
more_sold (pos a) (pos b) h = omega arith
more_sold (pos a) (negsuc b) h = omega arith
more_sold (negsuc a) (pos b) h = absurd (omega (arith, ints))
more_sold (negsuc a) (negsuc b) h = omega (arith, ints)

module _ (q : ℕ → ℤ) (falls : Falls q) where
  pub bought_falls : (p r : ℕ) → p ≤ r → traded Buying (q r) ≤ traded Buying (q p)
  bought_falls p r h = more_bought (q r) (q p) (falls p r h)

  pub sold_rises : (p r : ℕ) → p ≤ r → traded Selling (q p) ≤ traded Selling (q r)
  sold_rises p r h = more_sold (q p) (q r) (falls p r h)

  module _ (limits : Limits) (lot : ℕ) where
    pub buying_none : traded Buying (q limits.lowest) < lot → WorthIs q limits Buying lot None
    buying_none h = λ p t.
        let fewer = bought_falls limits.lowest p (inside_from limits p t.inside) in
        let enough = t.enough in
        omega arith

    pub selling_none : traded Selling (q limits.highest) < lot → WorthIs q limits Selling lot None
    selling_none h = λ p t.
        let more = sold_rises p limits.highest (inside_to limits p t.inside) in
        let enough = t.enough in
        omega arith

    module _ (are_lawful : lawful limits ≡ true) (counted : 0 < lot) where
      pub buying_some : (w : ℕ) → limits.lowest ≤ w → w ≤ limits.highest → lot ≤ traded Buying (q w) → ((p : ℕ) → w < p → p ≤ limits.highest → traded Buying (q p) < lot) → WorthIs q limits Buying lot (Some w)
      buying_some w from to enough past = (
        record { are_lawful = are_lawful; counted = counted; inside = inside limits w from to; enough = enough },
        λ p t. ⊎_elim (λ over. let few = past p over (inside_to limits p t.inside) in let many = t.enough in absurd (omega arith)) (λ le. le) (cases_lt w p),
      )

      pub selling_some : (w : ℕ) → limits.lowest ≤ w → w ≤ limits.highest → lot ≤ traded Selling (q w) → ((p : ℕ) → p < w → limits.lowest ≤ p → traded Selling (q p) < lot) → WorthIs q limits Selling lot (Some w)
      selling_some w from to enough before = (
        record { are_lawful = are_lawful; counted = counted; inside = inside limits w from to; enough = enough },
        λ p t. ⊎_elim (λ under. let few = before p under (inside_from limits p t.inside) in let many = t.enough in absurd (omega arith)) (λ le. le) (cases_lt p w),
      )
