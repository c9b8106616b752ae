use Rattle.std.proofs.Common.{◌≡◌, ℕ, ◌-◌, ◌<◌, ℤ, pos, ◌+ℤ◌, ◌-ℤ◌, ◌*ℤ◌, sym, ap, ◌∙◌, subst, arith, w32, w64, to_z, of_z}
use Rattle.std.proofs.lemmas.Int.{ints}
use Rattle.levels.specs.declared.level.Level.{Level}
use Rattle.levels.specs.Lines.{span, scaled, nearest, between, Moderate}
use Rattle.levels.specs.LinesLemmas.{Within, Line, line}
use Rattle.levels.proofs.line.between.Goals as goal

-- the code's terms, by what they stand for
wide : (q : ℤ) → Within 100000 q → to_z w64 (of_z w64 (to_z w32 (of_z w32 q))) ≡ q
wide q h = omega (arith, ints, h.low, h.high)

whole_is : (q : ℤ) (s : ℕ) → Within 100000 q → s < 4294967296 → to_z w64 (of_z w64 (to_z w32 (of_z w32 q))) *ℤ to_z w64 s ≡ q *ℤ pos s
whole_is q s h l =
    let e : to_z w64 s ≡ pos s = omega (arith, ints) in
    ap (λ x. x *ℤ to_z w64 s) (wide q h) ∙ ap (λ x. q *ℤ x) e

part_is : (q r : ℤ) (t u : ℕ) → Within 100000 q → Within 100000 r → t ≡ u → u < 4294967296 → to_z w64 (of_z w64 (to_z w64 (of_z w64 (to_z w32 (of_z w32 r))) -ℤ to_z w64 (of_z w64 (to_z w32 (of_z w32 q))))) *ℤ to_z w64 t ≡ (r -ℤ q) *ℤ pos u
part_is q r t u h k same l =
    let eq = wide q h in
    let er = wide r k in
    let change : to_z w64 (of_z w64 (to_z w64 (of_z w64 (to_z w32 (of_z w32 r))) -ℤ to_z w64 (of_z w64 (to_z w32 (of_z w32 q))))) ≡ r -ℤ q = omega (arith, ints, h.low, h.high, k.low, k.high) in
    let e : to_z w64 t ≡ pos u = omega (arith, ints) in
    ap (λ x. x *ℤ to_z w64 t) change ∙ ap (λ x. (r -ℤ q) *ℤ x) e

sum_is : (x y u v : ℤ) → x ≡ u → y ≡ v → Within 1000000000000 u → Within 2000000000000 v → to_z w64 (of_z w64 (to_z w64 (of_z w64 x) +ℤ to_z w64 (of_z w64 y))) ≡ u +ℤ v
sum_is x y u v e f h k = omega (arith, ints, h.low, h.high, k.low, k.high)

scaled_is : (a b : Level) (p t : ℕ) → Line a b p → t ≡ p - a.price → p < 4294967296 →
    to_z w64 (of_z w64 (to_z w64 (of_z w64 (to_z w64 (of_z w64 (to_z w32 (of_z w32 a.quantity))) *ℤ to_z w64 (b.price - a.price)))
    +ℤ to_z w64 (of_z w64 (to_z w64 (of_z w64 (to_z w64 (of_z w64 (to_z w32 (of_z w32 b.quantity))) -ℤ to_z w64 (of_z w64 (to_z w32 (of_z w32 a.quantity))))) *ℤ to_z w64 t))))
    ≡ scaled a b p
scaled_is a b p t l same fits =
    sum_is _ _ (a.quantity *ℤ pos (span a b)) ((b.quantity -ℤ a.quantity) *ℤ pos (p - a.price))
    (whole_is a.quantity (span a b) l.from_within (omega (arith, l.short)))
    (part_is a.quantity b.quantity t (p - a.price) l.from_within l.to_within same (omega arith))
    l.whole l.part

scaled_moderate : (a b : Level) (p : ℕ) → Line a b p → Moderate (scaled a b p)
scaled_moderate a b p l = record { low = omega (arith, ints, l.whole.low, l.whole.high, l.part.low, l.part.high); high = omega (arith, ints, l.whole.low, l.whole.high, l.part.low, l.part.high) }

pub overflow_mul-scaled : goal.overflow_mul-scaled
overflow_mul-scaled c =
    let l = line c.args.from c.args.to c.args.price c.requires.from_bounded c.requires.to_follows c.requires.before_to in
    let e = whole_is c.args.from.quantity (span c.args.from c.args.to) l.from_within (omega (arith, l.short)) in
    omega (arith, ints, l.whole.low, l.whole.high)

pub overflow_mul-scaled-2 : goal.overflow_mul-scaled-2
overflow_mul-scaled-2 c =
    let l = line c.args.from c.args.to c.args.price c.requires.from_bounded c.requires.to_follows c.requires.before_to in
    let e = part_is c.args.from.quantity c.args.to.quantity c.saturating_sub-past.result (c.args.price - c.args.from.price) l.from_within l.to_within c.saturating_sub-past.ensures (omega arith) in
    omega (arith, ints, l.part.low, l.part.high)

pub overflow_add-scaled : goal.overflow_add-scaled
overflow_add-scaled c =
    let l = line c.args.from c.args.to c.args.price c.requires.from_bounded c.requires.to_follows c.requires.before_to in
    let e = whole_is c.args.from.quantity (span c.args.from c.args.to) l.from_within (omega (arith, l.short)) in
    let f = part_is c.args.from.quantity c.args.to.quantity c.saturating_sub-past.result (c.args.price - c.args.from.price) l.from_within l.to_within c.saturating_sub-past.ensures (omega arith) in
    omega (arith, ints, l.whole.low, l.whole.high, l.part.low, l.part.high)

pub nearest-requires : goal.nearest-requires
nearest-requires c =
    let a = c.args.from in
    let b = c.args.to in
    let l = line a b c.args.price c.requires.from_bounded c.requires.to_follows c.requires.before_to in
    let e = scaled_is a b c.args.price c.saturating_sub-past.result l c.saturating_sub-past.ensures (omega arith) in
    record { positive = omega (arith, l.rises); moderate = subst Moderate (sym e) (scaled_moderate a b c.args.price l) }

pub overflow_cast-result : goal.overflow_cast-result
overflow_cast-result c =
    let a = c.args.from in
    let b = c.args.to in
    let l = line a b c.args.price c.requires.from_bounded c.requires.to_follows c.requires.before_to in
    let e = scaled_is a b c.args.price c.saturating_sub-past.result l c.saturating_sub-past.ensures (omega arith) in
    let value : c.nearest.result ≡ between a b c.args.price = c.nearest.ensures.value ∙ ap (λ x. nearest x (span a b)) e in
    omega (arith, ints, l.not_over, l.not_under, l.from_within.low, l.from_within.high, l.to_within.low, l.to_within.high)

pub returns : goal.returns
returns c =
    let a = c.args.from in
    let b = c.args.to in
    let l = line a b c.args.price c.requires.from_bounded c.requires.to_follows c.requires.before_to in
    let e = scaled_is a b c.args.price c.saturating_sub-past.result l c.saturating_sub-past.ensures (omega arith) in
    let value : c.nearest.result ≡ between a b c.args.price = c.nearest.ensures.value ∙ ap (λ x. nearest x (span a b)) e in
    let fits : to_z w32 (of_z w32 (to_z w64 (of_z w64 c.nearest.result))) ≡ c.nearest.result = omega (arith, ints, l.not_over, l.not_under, l.from_within.low, l.from_within.high, l.to_within.low, l.to_within.high) in
    fits ∙ value
