-- The searches over prices find the greatest and the least that passes.
use Rattle.std.proofs.Common.{◌≡◌, ℕ, zero, suc, ◌+◌, ◌≤◌, Bool, true, false, cond, ◌⊎◌, Some, None, Option, refl, inl, inr, ⊎_elim, arith}
use Rattle.std.proofs.lemmas.Bool.{cases_eq, both_ways}
use Rattle.curve.specs.Worth.{greatest, least}

-- o is the greatest of the prices from low to low + n that passes
abbrev pub Greatest : (ℕ → Bool) → ℕ → ℕ → Option ℕ → Type 0
Greatest ok low n None = (p : ℕ) → low ≤ p → p ≤ low + n → ok p ≡ false
Greatest ok low n (Some w) = (low ≤ w) × (w ≤ low + n) × (ok w ≡ true) × ((p : ℕ) → low ≤ p → p ≤ low + n → ok p ≡ true → p ≤ w)

pub greatest_found : (ok : ℕ → Bool) (low n : ℕ) → Greatest ok low n (greatest ok low n)
unfolding greatest
greatest_found ok low zero = by (ok low) refl
  where
    by : (t : Bool) → ok low ≡ t → Greatest ok low zero (cond t (Some low) None)
    by true e = (omega arith, omega arith, e, λ p l u y. omega arith)
    by false e = λ p l u. let same : low ≡ p = omega arith in rw same at e
greatest_found ok low (suc n) = by (ok (low + suc n)) refl (greatest ok low n) (greatest_found ok low n)
  where
    under : (p : ℕ) → p ≤ low + suc n → ok (low + suc n) ≡ false → (p ≤ low + n) ⊎ (ok p ≡ false)
    under p u e = ⊎_elim (λ same. inr (rw (← same) at e)) (λ other. inl (omega arith)) (cases_eq p (low + suc n))

    by : (t : Bool) → ok (low + suc n) ≡ t → (o : Option ℕ) → Greatest ok low n o → Greatest ok low (suc n) (cond t (Some (low + suc n)) o)
    by true e o h = (omega arith, omega arith, e, λ p l u y. u)
    by false e None h = λ p l u. ⊎_elim (h p l) (λ f. f) (under p u e)
    by false e (Some w) h = (h.0, omega arith, h.2, λ p l u y. ⊎_elim (λ v. h.3 p l v y) (λ f. absurd (both_ways (ok p) f y)) (under p u e))

-- o is the least of the prices from low to low + n that passes
abbrev pub Least : (ℕ → Bool) → ℕ → ℕ → Option ℕ → Type 0
Least ok low n None = (p : ℕ) → low ≤ p → p ≤ low + n → ok p ≡ false
Least ok low n (Some w) = (low ≤ w) × (w ≤ low + n) × (ok w ≡ true) × ((p : ℕ) → low ≤ p → p ≤ low + n → ok p ≡ true → w ≤ p)

pub least_found : (ok : ℕ → Bool) (low n : ℕ) → Least ok low n (least ok low n)
unfolding least
least_found ok low zero = by (ok low) refl
  where
    by : (t : Bool) → ok low ≡ t → Least ok low zero (cond t (Some low) None)
    by true e = (omega arith, omega arith, e, λ p l u y. omega arith)
    by false e = λ p l u. let same : low ≡ p = omega arith in rw same at e
least_found ok low (suc n) = by (ok low) refl (least ok (suc low) n) (least_found ok (suc low) n)
  where
    over : (p : ℕ) → low ≤ p → ok low ≡ false → (suc low ≤ p) ⊎ (ok p ≡ false)
    over p l e = ⊎_elim (λ same. inr (rw (← same) at e)) (λ other. inl (omega arith)) (cases_eq p low)

    by : (t : Bool) → ok low ≡ t → (o : Option ℕ) → Least ok (suc low) n o → Least ok low (suc n) (cond t (Some low) o)
    by true e o h = (omega arith, omega arith, e, λ p l u y. l)
    by false e None h = λ p l u. ⊎_elim (λ v. h p v (omega arith)) (λ f. f) (over p l e)
    by false e (Some w) h = (omega arith, omega arith, h.2, λ p l u y. ⊎_elim (λ v. h.3 p v (omega arith) y) (λ f. absurd (both_ways (ok p) f y)) (over p l e))
