-- What a place among bids of rising number says of the bid that stands under a number.
use Rattle.std.proofs.Common.{◌≡◌, ℕ, zero, suc, ◌<◌, true, eqb, ltb, List, [], ◌∷◌, length, get_or, Some, None, Ok, Err, refl, ◌∙◌, inl, inr, arith}
use Rattle.std.proofs.lemmas.Bool.{and_parts, eq-eqb, ne_eqb, cond-true, cond-false, cases_lt}
use Rattle.bids.specs.Kinds.{Kind}
use Rattle.register.specs.Order.{standing_as, rising, Placed}
use Rattle.register.proofs.Steps.{above}

module _ {B : Type 0} (k : Kind B) where
  -- where the number stands, the bid there is the one of that number
  pub found_from : (m n : ℕ) (xs : List B) (i : ℕ) (d : B) → rising k m xs ≡ true → i < length xs → k.number_of (get_or xs i d) ≡ n → standing_as k n xs ≡ Some (get_or xs i d)
  found_from m n (x ∷ xs) zero d r l e = cond-true (eqb (k.number_of x) n) _ _ (eq-eqb _ _ e)
  found_from m n (x ∷ xs) (suc i) d r l e =
      let q = and_parts (ltb m (k.number_of x)) (rising k (k.number_of x) xs) r in
      let a = above k (k.number_of x) xs q.1 i d (omega arith) in
      cond-false (eqb (k.number_of x) n) _ _ (ne_eqb _ _ (λ z. omega arith)) ∙ found_from (k.number_of x) n xs i d q.1 (omega arith) e
  found_from m n [] i d r l e = absurd (omega arith)

  pub found_at : (n : ℕ) (xs : List B) (i : ℕ) (d : B) → rising k 0 xs ≡ true → Placed k n xs (Ok i) → standing_as k n xs ≡ Some (get_or xs i d)
  found_at n xs i d r p = found_from 0 n xs i d r p.0 (p.1 d)

  none_from : (n : ℕ) (xs : List B) → ((j : ℕ) (d : B) → j < length xs → k.number_of (get_or xs j d) ≡ n → ⊥) → standing_as k n xs ≡ None
  none_from n [] h = refl
  none_from n (x ∷ xs) h = cond-false (eqb (k.number_of x) n) _ _ (ne_eqb (k.number_of x) n (h 0 x (omega arith))) ∙ none_from n xs (λ j d l. h (suc j) d (omega arith))

  -- where it does not, no bid of that number stands
  pub found_none : (n : ℕ) (xs : List B) (i : ℕ) → Placed k n xs (Err i) → standing_as k n xs ≡ None
  found_none n xs i p =
      none_from n xs (λ j d l e. elim (cases_lt j i) as (λ _. ⊥) [ inl a ↦ let b = p.1 j d a in omega arith | inr a ↦ let b = p.2 j d a l in omega arith ])
