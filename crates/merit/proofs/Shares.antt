-- Handing out what is missing to a total of 0.
use Rattle.std.proofs.Common.{◌≡◌, ℕ, suc, ◌+◌, ◌<◌, ◌≤◌, true, List, [], ◌∷◌, ◌++◌, length, get_or, take, drop, ℤ, pos, ◌+ℤ◌, ◌-ℤ◌, neg_ℤ, ◌≤ℤ◌, sym, refl, ap, ◌∙◌, subst, arith, take_all}
use Rattle.std.proofs.lemmas.List.{take_more, drop_more, drop_all, append_assoc, append-nil}
use Rattle.std.proofs.lemmas.Int.{ints, clamps}
use Rattle.curve.specs.declared.ranges.LotRange.{LotRange}
use Rattle.curve.specs.Ranges.{holds}
use Rattle.curve.proofs.Margins.{holds_from}
use Rattle.merit.specs.Hours.{total, ranges, Even, filled, WithinEach, handed_out, Matched}
use Rattle.merit.proofs.Hours.{total_push}
use Rattle.merit.proofs.Falling.{total_le}

each_push : {X : Type 0} (r : X → LotRange) (xs : List X) (ms : List ℤ) (x : X) (m : ℤ) → WithinEach r xs ms → holds (r x) m ≡ true → WithinEach r (xs ++ x ∷ []) (ms ++ m ∷ [])
each_push r [] [] x m h k = (k, tt)
each_push r [] (n ∷ ms) x m h k = absurd h
each_push r (y ∷ xs) [] x m h k = absurd h
each_push r (y ∷ xs) (n ∷ ms) x m h k = (h.0, each_push r xs ms x m h.1 k)

pub each_length : {X : Type 0} (r : X → LotRange) (xs : List X) (ms : List ℤ) → WithinEach r xs ms → length ms ≡ length xs
each_length r [] [] h = refl
each_length r [] (n ∷ ms) h = absurd h
each_length r (y ∷ xs) [] h = absurd h
each_length r (y ∷ xs) (n ∷ ms) h = ap suc (each_length r xs ms h.1)

filled_holds : (range : LotRange) (missing : ℤ) → range.least ≤ℤ range.most → holds range (filled range missing) ≡ true
filled_holds range missing o = holds_from range (filled range missing) (omega (arith, ints, clamps)) (omega (arith, ints, clamps))

-- the first i have their matches ms, and so much is missing
pub record Sofar {X : Type 0} (r : X → LotRange) (xs : List X) (i : ℕ) (ms : List ℤ) (missing : ℤ) : Type 0 where
  pub matched : WithinEach r (take i xs) ms
  pub balance : (total (λ m. m) ms +ℤ total (λ x. (r x).least) (drop i xs)) +ℤ missing ≡ pos 0
  pub handed : handed_out r (neg_ℤ (total (λ x. (r x).least) xs)) xs ≡ ms ++ handed_out r missing (drop i xs)
  pub enough : Even (ranges r xs) → (pos 0 ≤ℤ missing) × ((missing +ℤ total (λ x. (r x).least) (drop i xs)) ≤ℤ total (λ x. (r x).most) (drop i xs))

module _ {X : Type 0} (r : X → LotRange) (upright : (x : X) → (r x).least ≤ℤ (r x).most) (xs : List X) where
  module _ (i : ℕ) (x : X) (lt : i < length xs) (is : x ≡ get_or xs i x) where
    left : (f : X → ℤ) → total f (drop i xs) ≡ f x +ℤ total f (drop (i + 1) xs)
    left f = ap (total f) (drop_more xs i x lt) ∙ ap (λ y. f y +ℤ total f (drop (i + 1) xs)) (sym is)

    share : (missing : ℤ) → pos 0 ≤ℤ missing → (filled (r x) missing -ℤ (r x).least) ≤ℤ missing
    share missing h = let u = upright x in omega (arith, ints, clamps)

    spent : (missing rest-least rest-most : ℤ) → pos 0 ≤ℤ missing → rest-least ≤ℤ rest-most → (missing +ℤ ((r x).least +ℤ rest-least)) ≤ℤ ((r x).most +ℤ rest-most) → ((missing -ℤ (filled (r x) missing -ℤ (r x).least)) +ℤ rest-least) ≤ℤ rest-most
    spent missing rest-least rest-most h o e = let u = upright x in omega (arith, ints, clamps)

    pub one_more : (ms : List ℤ) (missing : ℤ) → Sofar r xs i ms missing → Sofar r xs (i + 1) (ms ++ filled (r x) missing ∷ []) (missing -ℤ (filled (r x) missing -ℤ (r x).least))
    one_more ms missing old = record { matched = matched; balance = balance; handed = handed; enough = enough }
      where
        front : take (i + 1) xs ≡ take i xs ++ x ∷ []
        front = take_more xs i x lt ∙ ap (λ y. take i xs ++ y ∷ []) (sym is)

        matched : WithinEach r (take (i + 1) xs) (ms ++ filled (r x) missing ∷ [])
        matched = subst (λ ys. WithinEach r ys (ms ++ filled (r x) missing ∷ [])) (sym front) (each_push r (take i xs) ms x (filled (r x) missing) old.matched (filled_holds (r x) missing (upright x)))

        balance : (total (λ m. m) (ms ++ filled (r x) missing ∷ []) +ℤ total (λ y. (r y).least) (drop (i + 1) xs)) +ℤ (missing -ℤ (filled (r x) missing -ℤ (r x).least)) ≡ pos 0
        balance = balanced (filled (r x) missing) (total_push (λ m. m) ms (filled (r x) missing))
          where
            balanced : (f : ℤ) → total (λ m. m) (ms ++ f ∷ []) ≡ total (λ m. m) ms +ℤ f → (total (λ m. m) (ms ++ f ∷ []) +ℤ total (λ y. (r y).least) (drop (i + 1) xs)) +ℤ (missing -ℤ (f -ℤ (r x).least)) ≡ pos 0
            balanced f p = let l = left (λ y. (r y).least) in let b = old.balance in omega (arith, ints)

        handed : handed_out r (neg_ℤ (total (λ y. (r y).least) xs)) xs ≡ (ms ++ filled (r x) missing ∷ []) ++ handed_out r (missing -ℤ (filled (r x) missing -ℤ (r x).least)) (drop (i + 1) xs)
        handed =
            old.handed
            ∙ ap (λ ys. ms ++ handed_out r missing ys) (drop_more xs i x lt ∙ ap (λ y. y ∷ drop (i + 1) xs) (sym is))
            ∙ sym (append_assoc ms (filled (r x) missing ∷ []) (handed_out r (missing -ℤ (filled (r x) missing -ℤ (r x).least)) (drop (i + 1) xs)))

        enough : Even (ranges r xs) → (pos 0 ≤ℤ (missing -ℤ (filled (r x) missing -ℤ (r x).least))) × (((missing -ℤ (filled (r x) missing -ℤ (r x).least)) +ℤ total (λ y. (r y).least) (drop (i + 1) xs)) ≤ℤ total (λ y. (r y).most) (drop (i + 1) xs))
        enough even = (positive (filled (r x) missing) (share missing (old.enough even).0), spent missing _ _ (old.enough even).0 (total_le _ _ upright (drop (i + 1) xs)) (room (old.enough even).1))
          where
            positive : (f : ℤ) → (f -ℤ (r x).least) ≤ℤ missing → pos 0 ≤ℤ (missing -ℤ (f -ℤ (r x).least))
            positive f s = omega (arith, ints)

            room : (missing +ℤ total (λ y. (r y).least) (drop i xs)) ≤ℤ total (λ y. (r y).most) (drop i xs) → (missing +ℤ ((r x).least +ℤ total (λ y. (r y).least) (drop (i + 1) xs))) ≤ℤ ((r x).most +ℤ total (λ y. (r y).most) (drop (i + 1) xs))
            room e = let l = left (λ y. (r y).least) in let m = left (λ y. (r y).most) in omega (arith, ints)

    -- the same, of values that are equal to those
    pub step : (ms ms' : List ℤ) (missing missing' lots : ℤ) (range : LotRange) → Sofar r xs i ms missing → range ≡ r x → lots ≡ filled range missing → missing' ≡ missing -ℤ (lots -ℤ range.least) → ms' ≡ ms ++ lots ∷ [] → Sofar r xs (i + 1) ms' missing'
    step ms ms' missing missing' lots range old range-is lots-is missing-is ms-is =
        let f = lots-is ∙ ap (λ t. filled t missing) range-is in
        let m = missing-is ∙ ap (λ t. missing -ℤ (lots -ℤ t.least)) range-is in
        subst (λ z. Sofar r xs (i + 1) ms' z) (sym m)
        (subst (λ l. Sofar r xs (i + 1) l (missing -ℤ (lots -ℤ (r x).least))) (sym ms-is)
        (subst (λ z. Sofar r xs (i + 1) (ms ++ z ∷ []) (missing -ℤ (z -ℤ (r x).least))) (sym f) (one_more ms missing old)))

  pub all_done : (i : ℕ) (ms : List ℤ) (missing : ℤ) → length xs ≤ i → Sofar r xs i ms missing → Matched r xs ms
  all_done i ms missing h old =
      let none : drop i xs ≡ [] = drop_all i xs h in
      let no-least : total (λ x. (r x).least) (drop i xs) ≡ pos 0 = ap (total (λ x. (r x).least)) none in
      let no-most : total (λ x. (r x).most) (drop i xs) ≡ pos 0 = ap (total (λ x. (r x).most)) none in
      record {
        within_each = subst (λ ys. WithinEach r ys ms) (take_all i xs h) old.matched;
        in_all = λ even. let b = old.balance in let e = (old.enough even).0 in let f = (old.enough even).1 in omega (arith, ints);
        from_first = sym (old.handed ∙ ap (λ ys. ms ++ handed_out r missing ys) none ∙ append-nil ms);
      }
