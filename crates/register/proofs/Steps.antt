-- Numbers that rise.
use Rattle.std.proofs.Common.{◌≡◌, ℕ, zero, suc, ◌+◌, ◌<◌, ◌≤◌, true, ltb, List, [], ◌∷◌, length, get_or, ap, inl, inr, arith}
use Rattle.std.proofs.lemmas.List.{get_or_read}
use Rattle.std.proofs.lemmas.Bool.{and_parts, ltb-true, cases_lt}
use Rattle.register.specs.Order.{rising}
use Rattle.bids.specs.Kinds.{Kind}

module _ {B : Type 0} (k : Kind B) where
  -- numbers that rise from above n are above n, and apart from one another
  pub above : (n : ℕ) (xs : List B) → rising k n xs ≡ true → (j : ℕ) (d : B) → j < length xs → n < k.number_of (get_or xs j d)
  above n (x ∷ xs) h zero d l = ltb-true n (k.number_of x) (and_parts _ _ h).0
  above n (x ∷ xs) h (suc j) d l =
      let p = and_parts (ltb n (k.number_of x)) (rising k (k.number_of x) xs) h in
      let a = ltb-true n (k.number_of x) p.0 in
      let b = above (k.number_of x) xs p.1 j d (omega arith) in
      omega arith
  above n [] h j d l = absurd (omega arith)

  pub apart : (n : ℕ) (xs : List B) → rising k n xs ≡ true → (i j : ℕ) (d : B) → i < j → j < length xs → k.number_of (get_or xs i d) < k.number_of (get_or xs j d)
  apart n (x ∷ xs) h zero (suc j) d l m = above (k.number_of x) xs (and_parts _ _ h).1 j d (omega arith)
  apart n (x ∷ xs) h (suc i) (suc j) d l m = apart (k.number_of x) xs (and_parts _ _ h).1 i j d (omega arith) (omega arith)
  apart n (x ∷ xs) h i zero d l m = absurd (omega arith)
  apart n [] h i j d l m = absurd (omega arith)

  -- the bid x stands at m: what it says of the bids up to it, and from it on
  pub up_to : (xs : List B) → rising k 0 xs ≡ true → (m : ℕ) (x : B) → m < length xs → x ≡ get_or xs m x → (n : ℕ) → k.number_of x < n → (j : ℕ) (d : B) → j < m + 1 → k.number_of (get_or xs j d) < n
  up_to xs h m x l e n lt j d jl =
      let at = ap k.number_of (get_or_read xs m x l e d) in
      elim (cases_lt j m) as (λ _. k.number_of (get_or xs j d) < n) [ inl a ↦ let b = apart 0 xs h j m d a l in omega arith | inr a ↦ let i : j ≡ m = omega arith in rw i (omega arith) ]

  pub from_on : (xs : List B) → rising k 0 xs ≡ true → (m : ℕ) (x : B) → m < length xs → x ≡ get_or xs m x → (n : ℕ) → n < k.number_of x → (j : ℕ) (d : B) → m ≤ j → j < length xs → n < k.number_of (get_or xs j d)
  from_on xs h m x l e n lt j d jl jm =
      let at = ap k.number_of (get_or_read xs m x l e d) in
      elim (cases_lt m j) as (λ _. n < k.number_of (get_or xs j d)) [ inl a ↦ let b = apart 0 xs h m j d a jm in omega arith | inr a ↦ let i : j ≡ m = omega arith in rw i (omega arith) ]
