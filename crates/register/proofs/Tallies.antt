-- How many of a register's bids pass a test: with one more, with one entered and with one withdrawn.
use Rattle.std.proofs.Common.{◌≡◌, ℕ, ◌+◌, ◌<◌, ◌≤◌, Bool, cond, eqb, ltb, List, [], ◌∷◌, length, get_or, take, ap, arith}
use Rattle.std.specs.List.{count_by}
use Rattle.std.proofs.lemmas.List.Sums.{sum_by-cons, sum_by_more, sum_by-take-le}
use Rattle.std.proofs.lemmas.Bool.{cond_both}
use Rattle.bids.specs.Kinds.{Kind}
use Rattle.register.specs.Order.{entered, without}

module _ {X : Type 0} (t : X → Bool) where
  -- one at the front of a list
  pub count_cons : (x : X) (xs : List X) → count_by t (x ∷ xs) ≡ cond (t x) 1 0 + count_by t xs
  count_cons x xs = sum_by-cons (λ y. cond (t y) 1 0) x xs

  -- the element at i after the first i
  pub count_more : (xs : List X) (i : ℕ) (x : X) → i < length xs → x ≡ get_or xs i x → count_by t (take (i + 1) xs) ≡ cond (t x) 1 0 + count_by t (take i xs)
  count_more xs i x l e =
      let h = sum_by_more (λ y. cond (t y) 1 0) xs i x l in
      let s : ◌≡◌ {A = ℕ} (cond (t x) 1 0) (cond (t (get_or xs i x)) 1 0) = ap (λ y. cond (t y) 1 0) e in
      omega (arith, h, s)

  -- of a front there are at most as many as of all
  pub count_front : (xs : List X) (i : ℕ) → count_by t (take i xs) ≤ count_by t xs
  count_front xs i = sum_by-take-le (λ y. cond (t y) 1 0) xs i

module _ {B : Type 0} (k : Kind B) (t : B → Bool) where
  pub count_entered : (b : B) (xs : List B) → count_by t (entered k b xs) ≡ cond (t b) 1 0 + count_by t xs
  count_entered b [] = count_cons t b []
  count_entered b (x ∷ xs) =
      let r = count_entered b xs in
      let c = count_cons t x xs in
      let d = count_cons t x (entered k b xs) in
      cond_both (ltb (k.number_of x) (k.number_of b)) (x ∷ entered k b xs) (b ∷ x ∷ xs) (λ ys. count_by t ys ≡ cond (t b) 1 0 + count_by t (x ∷ xs)) (λ e. omega (arith, r, c, d)) (λ e. count_cons t b (x ∷ xs))

  pub count_without : (m : ℕ) (xs : List B) → count_by t (without k m xs) ≤ count_by t xs
  count_without m [] = omega arith
  count_without m (x ∷ xs) =
      let r = count_without m xs in
      let c = count_cons t x xs in
      let d = count_cons t x (without k m xs) in
      cond_both (eqb (k.number_of x) m) xs (x ∷ without k m xs) (λ ys. count_by t ys ≤ count_by t (x ∷ xs)) (λ e. omega (arith, c)) (λ e. omega (arith, r, c, d))
