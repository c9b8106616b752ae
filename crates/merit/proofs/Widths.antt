-- Lots in 32 and in 64 bits.
use Rattle.std.proofs.Common.{◌≡◌, ℤ, pos, ◌+ℤ◌, ◌-ℤ◌, ◌≤ℤ◌, ap, ◌∙◌, arith, w32, w64, SFits, to_z, of_z}
use Rattle.std.specs.Int.{int_min, int_max}
use Rattle.std.proofs.lemmas.Int.{ints, clamps, to_z-of_z}

wide : (z : ℤ) → SFits w32 z → SFits w64 z
wide z f = omega (arith, ints)

widened : (z : ℤ) → SFits w32 z → to_z w64 (of_z w64 (to_z w32 (of_z w32 z))) ≡ z
widened z f = ap (λ x. to_z w64 (of_z w64 x)) (to_z-of_z w32 z f) ∙ to_z-of_z w64 z (wide z f)

room_fits : (least most : ℤ) → SFits w32 least → SFits w32 most → SFits w64 (most -ℤ least)
room_fits least most l m = omega (arith, ints)

-- how far apart the ends of a range lie
pub room_is : (least most : ℤ) → SFits w32 least → SFits w32 most → to_z w64 (of_z w64 (to_z w64 (of_z w64 (to_z w32 (of_z w32 most))) -ℤ to_z w64 (of_z w64 (to_z w32 (of_z w32 least))))) ≡ most -ℤ least
room_is least most l m =
    let a = widened least l in
    let b = widened most m in
    ap (λ x. to_z w64 (of_z w64 x)) (λ i. b i -ℤ a i) ∙ to_z-of_z w64 (most -ℤ least) (room_fits least most l m)

-- the least of a range and more, within it
pub lots_is : (least most more : ℤ) → SFits w32 least → SFits w32 most → pos 0 ≤ℤ more → more ≤ℤ (most -ℤ least) → SFits w64 more → to_z w32 (of_z w32 (to_z w64 (of_z w64 (to_z w64 (of_z w64 (to_z w32 (of_z w32 least))) +ℤ to_z w64 (of_z w64 more))))) ≡ least +ℤ more
lots_is least most more l m low high f =
    let a = widened least l in
    let b = to_z-of_z w64 more f in
    let fits : SFits w32 (least +ℤ more) = omega (arith, ints) in
    ap (λ x. to_z w32 (of_z w32 (to_z w64 (of_z w64 x)))) (λ i. a i +ℤ b i) ∙ ap (λ x. to_z w32 (of_z w32 x)) (to_z-of_z w64 (least +ℤ more) (wide _ fits)) ∙ to_z-of_z w32 (least +ℤ more) fits

-- what is missing, kept within a range's room, is what fills the range
pub fills : (least most missing room more : ℤ) → least ≤ℤ most → room ≡ most -ℤ least → more ≡ int_max (pos 0) (int_min missing room) → least +ℤ more ≡ least +ℤ int_min (int_max missing (pos 0)) (most -ℤ least)
fills least most missing room more up is clamped = omega (arith, ints, clamps)

-- what is left of what is missing, told by the lots
pub left_over : (missing least more after : ℤ) → after ≡ missing -ℤ more → after ≡ missing -ℤ ((least +ℤ more) -ℤ least)
left_over missing least more after is = omega (arith, ints)
