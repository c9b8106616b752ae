-- What is true of each, in a loop.
use Rattle.std.proofs.Common.{◌≡◌, ℕ, zero, suc, ◌+◌, ◌<◌, ◌≤◌, Bool, true, false, ◌&&◌, List, [], ◌∷◌, length, get_or, drop, sym, ap, ◌∙◌, arith}
use Rattle.std.proofs.lemmas.List.{drop_more, at_drop_all}
use Rattle.std.proofs.lemmas.List.Folds.{list_all_at}
use Rattle.std.proofs.lemmas.Bool.{and_parts}
use Rattle.register.specs.Order.{each}

module _ {X : Type 0} where
  -- what is left of a list, where the next element is x
  pub next_of : (xs : List X) (i : ℕ) (x : X) → i < length xs → x ≡ get_or xs i x → drop i xs ≡ x ∷ drop (i + 1) xs
  next_of xs i x l e = drop_more xs i x l ∙ ap (λ y. y ∷ drop (i + 1) xs) (sym e)

  -- true of the next one: what is left tells it of all
  pub each_goes : (t : X → Bool) (xs : List X) (i : ℕ) (x : X) → i < length xs → x ≡ get_or xs i x → t x ≡ true → each t (drop i xs) ≡ each t xs → each t (drop (i + 1) xs) ≡ each t xs
  each_goes t xs i x l e h s = sym (ap (each t) (next_of xs i x l e) ∙ ap (λ b. b && each t (drop (i + 1) xs)) h) ∙ s

  -- nothing is left
  pub each_ends : (t : X → Bool) (xs : List X) (i : ℕ) → length xs ≤ i → each t (drop i xs) ≡ each t xs → each t xs ≡ true
  each_ends t xs i l s = sym s ∙ at_drop_all (each t) xs i l

  -- one of which it is false
  pub each_stop : (t : X → Bool) (xs : List X) (i : ℕ) (x : X) → i < length xs → x ≡ get_or xs i x → t x ≡ false → each t xs ≡ false
  each_stop t xs i x l e f = list_all_at t xs i x l (ap t (sym e) ∙ f)

  -- true of each, so of one
  pub each_at : (t : X → Bool) (xs : List X) (i : ℕ) (x : X) → each t xs ≡ true → i < length xs → x ≡ get_or xs i x → t x ≡ true
  each_at t (y ∷ xs) zero x h l e = ap t e ∙ (and_parts (t y) (each t xs) h).0
  each_at t (y ∷ xs) (suc i) x h l e = each_at t xs i x (and_parts (t y) (each t xs) h).1 (omega arith) e
  each_at t [] i x h l e = absurd (omega arith)
