-- The steps of the loops over levels.
use Rattle.std.proofs.Common.{◌≡◌, ℕ, ◌+◌, ◌-◌, ◌<◌, ◌≤◌, max, true, false, List, [], ◌∷◌, length, get_or, take, drop, nat_abs, Some, None, refl, ap, ◌∙◌, arith}
use Rattle.std.proofs.lemmas.List.{at_drop_more, at_drop_all, take_rest}
use Rattle.std.proofs.lemmas.Bool.{cond-true, cond-false, lt-ltb, le-ltb}
use Rattle.levels.specs.declared.level.Level.{Level}
use Rattle.levels.specs.Form.{bounded, follows, front_after, kept_front}
use Rattle.levels.specs.Search.{around_from, around, largest}
use Rattle.levels.specs.Tables.{zero_level}

-- ---- where a price lies
pub around_split : (ls : List Level) (p : ℕ) → around_from (get_or ls 0 zero_level) (take (length ls - 1) (drop 1 ls)) p ≡ around ls p
around_split [] p = refl
around_split (a ∷ ls) p = ap (λ ys. around_from a ys p) (take_rest (a ∷ ls) 1)

pub around_stop : (a : Level) (xs : List Level) (i p : ℕ) (d : Level) → i < length xs → p < (get_or xs i d).price → around_from a (drop i xs) p ≡ record { at = a; next = Some (get_or xs i d) }
around_stop a xs i p d l h = at_drop_more (λ ys. around_from a ys p) xs i d l ∙ cond-true _ _ _ (lt-ltb _ _ h)

pub around_step : (a : Level) (xs : List Level) (i p : ℕ) (d : Level) → i < length xs → (get_or xs i d).price ≤ p → around_from a (drop i xs) p ≡ around_from (get_or xs i d) (drop (i + 1) xs) p
around_step a xs i p d l h = at_drop_more (λ ys. around_from a ys p) xs i d l ∙ cond-false _ _ _ (le-ltb _ _ h)

pub around_end : (a : Level) (xs : List Level) (i p : ℕ) → length xs ≤ i → around_from a (drop i xs) p ≡ record { at = a; next = None }
around_end a xs i p l = at_drop_all (λ ys. around_from a ys p) xs i l

-- ---- the longest front
pub front_split : (ls : List Level) (d : Level) → 0 < length ls → bounded (get_or ls 0 d) ≡ true → length (kept_front ls) ≡ 1 + length (front_after (get_or ls 0 d) (take (length ls - 1) (drop 1 ls)))
front_split [] d h b = absurd (omega arith)
front_split (a ∷ ls) d h b =
    let e : length (kept_front (a ∷ ls)) ≡ length (a ∷ front_after a ls) = ap length (cond-true _ _ _ b) in
    let f : length (front_after a (take (length (a ∷ ls) - 1) (drop 1 (a ∷ ls)))) ≡ length (front_after a ls) = ap (λ ys. length (front_after a ys)) (take_rest (a ∷ ls) 1) in
    omega arith

pub front_stop : (a : Level) (xs : List Level) (i : ℕ) (d : Level) → i < length xs → follows a (get_or xs i d) ≡ false → length (front_after a (drop i xs)) ≡ 0
front_stop a xs i d l h = ap length (at_drop_more (front_after a) xs i d l ∙ cond-false _ _ _ h)

pub front_step : (a : Level) (xs : List Level) (i : ℕ) (d : Level) → i < length xs → follows a (get_or xs i d) ≡ true → length (front_after a (drop i xs)) ≡ 1 + length (front_after (get_or xs i d) (drop (i + 1) xs))
front_step a xs i d l h =
    let e : length (front_after a (drop i xs)) ≡ length (get_or xs i d ∷ front_after (get_or xs i d) (drop (i + 1) xs)) = ap length (at_drop_more (front_after a) xs i d l ∙ cond-true _ _ _ h) in
    omega arith

pub front_end : (a : Level) (xs : List Level) (i : ℕ) → length xs ≤ i → length (front_after a (drop i xs)) ≡ 0
front_end a xs i l = ap length (at_drop_all (front_after a) xs i l)

pub later_length : (ls : List Level) → length (take (length ls - 1) (drop 1 ls)) ≡ length ls - 1
later_length [] = refl
later_length (a ∷ ls) = let e : length (take (length (a ∷ ls) - 1) (drop 1 (a ∷ ls))) ≡ length ls = ap length (take_rest (a ∷ ls) 1) in omega arith

-- ---- the largest quantity
pub largest_step : (xs : List Level) (i m : ℕ) (d : Level) → i < length xs → max (max (nat_abs (get_or xs i d).quantity) m) (largest (drop (i + 1) xs)) ≡ max m (largest (drop i xs))
largest_step xs i m d l =
    let e : largest (drop i xs) ≡ max (nat_abs (get_or xs i d).quantity) (largest (drop (i + 1) xs)) = at_drop_more largest xs i d l in
    omega arith

pub largest_end : (xs : List Level) (i m : ℕ) → length xs ≤ i → max m (largest (drop i xs)) ≡ m
largest_end xs i m l = let e : largest (drop i xs) ≡ 0 = at_drop_all largest xs i l in omega arith
