-- The longest front that keeps the form, and the levels in force.
use Rattle.std.specs.Prelude.{◌≡◌, ℕ, suc, ◌-◌, ◌<◌, ◌≤◌, min, Bool, true, false, cond, List, [], ◌∷◌, ◌++◌, length, take, replicate, ◌≢◌, refl}
use Rattle.std.proofs.Common.{sym, ap, subst, ◌∙◌, arith, add-one}
use Rattle.std.proofs.lemmas.List.{take-take, take_at, length-take}
use Rattle.std.proofs.lemmas.Bool.{and_parts, and_from, and_left, cond-true}
use Rattle.levels.specs.declared.level.Level.{Level}
use Rattle.levels.specs.declared.table.LevelTable.{LevelTable}
use Rattle.levels.specs.Form.{bounded, follows, formed_after, formed, LongestFront, front_after, kept_front}
use Rattle.levels.specs.Tables.{zero_level, or_zero, in_force_of, table_of}

-- ---- the front is the longest that keeps the form
pub record FrontAfter (a : Level) (ls : List Level) (n : ℕ) : Type 0 where
  pub within : n ≤ length ls
  pub keeps : formed_after a (take n ls) ≡ true
  pub breaks : n < length ls → formed_after a (take (suc n) ls) ≡ false
  pub taken : take n ls ≡ front_after a ls

front_after_is : (a : Level) (ls : List Level) → FrontAfter a ls (length (front_after a ls))
front_after_is a [] = record { within = omega arith; keeps = refl; breaks = λ h. absurd (omega arith); taken = refl }
front_after_is a (b ∷ ls) = by (front_after_is b ls) (follows a b) refl
  where
    by : FrontAfter b ls (length (front_after b ls)) → (t : Bool) → follows a b ≡ t → FrontAfter a (b ∷ ls) (length (cond t (b ∷ front_after b ls) []))
    by rest true e =
        let w = rest.within in
        record {
          within = omega arith;
          keeps = and_from _ _ e rest.keeps;
          breaks = λ h. rw e (rest.breaks (omega arith));
          taken = rw e (ap (λ ys. b ∷ ys) rest.taken);
        }
    by rest false e = record { within = omega arith; keeps = refl; breaks = λ h. and_left _ _ e; taken = rw e refl }

-- the front that is kept is the longest that keeps the form
pub front_longest : (ls : List Level) → LongestFront ls (length (kept_front ls))
front_longest [] = record { within = omega arith; keeps = refl; breaks = λ h. absurd (omega arith) }
front_longest (a ∷ ls) = by (bounded a) refl
  where
    by : (t : Bool) → bounded a ≡ t → LongestFront (a ∷ ls) (length (cond t (a ∷ front_after a ls) []))
    by true e =
        let rest = front_after_is a ls in
        let w = rest.within in
        let n = length (front_after a ls) in
        record {
          within = omega arith;
          keeps = and_from _ _ e rest.keeps;
          breaks = λ h. rw (add-one (suc n)) (rw e (rest.breaks (omega arith)));
        }
    by false e = record { within = omega arith; keeps = refl; breaks = λ h. and_left _ _ e }

-- the front that is kept is made of the first levels
pub front_takes : (ls : List Level) → take (length (kept_front ls)) ls ≡ kept_front ls
front_takes [] = refl
front_takes (a ∷ ls) = by (bounded a) refl
  where
    by : (t : Bool) → bounded a ≡ t → take (length (cond t (a ∷ front_after a ls) [])) (a ∷ ls) ≡ cond t (a ∷ front_after a ls) []
    by true e = ap (λ ys. a ∷ ys) (front_after_is a ls).taken
    by false e = refl

-- ---- levels that keep the form are their own front
kept_after : (a : Level) (ls : List Level) → formed_after a ls ≡ true → front_after a ls ≡ ls
kept_after a [] h = refl
kept_after a (b ∷ ls) h = let p = and_parts _ _ h in cond-true _ _ _ p.0 ∙ ap (λ ys. b ∷ ys) (kept_after b ls p.1)

-- levels that keep the form are kept whole
pub kept_whole : (ls : List Level) → formed ls ≡ true → kept_front ls ≡ ls
kept_whole [] h = refl
kept_whole (a ∷ ls) h = let p = and_parts _ _ h in cond-true _ _ _ p.0 ∙ ap (λ ys. a ∷ ys) (kept_after a ls p.1)

-- the front that is kept keeps the form
pub kept_formed : (ls : List Level) → formed (kept_front ls) ≡ true
kept_formed ls = subst (λ ys. formed ys ≡ true) (front_takes ls) (front_longest ls).keeps

-- ---- the levels in force
-- where the front is empty the level (0: 0) is in force
pub force_none : (t : LevelTable) (k : ℕ) → k ≡ length (kept_front (take (min t.count 64) t.levels)) → k ≡ 0 → zero_level ∷ [] ≡ in_force_of t
unfolding in_force_of
force_none t k e z = by (kept_front (take (min t.count 64) t.levels)) (sym e ∙ z)
  where
    by : (ys : List Level) → length ys ≡ 0 → zero_level ∷ [] ≡ or_zero ys
    by [] h = refl
    by (y ∷ ys) h = absurd (omega arith)

-- where the front is not empty it is in force
pub force_some : (t : LevelTable) (k : ℕ) → k ≡ length (kept_front (take (min t.count 64) t.levels)) → (k ≢ 0) → take k t.levels ≡ in_force_of t
unfolding in_force_of
force_some t k e nz =
    let n = min t.count 64 in
    let long = (front_longest (take n t.levels)).within in
    let len = length-take n t.levels in
    let le : k ≤ n = omega arith in
    let first : take k (take n t.levels) ≡ kept_front (take n t.levels) = ap (λ j. take j (take n t.levels)) e ∙ front_takes (take n t.levels) in
    sym (take-take k n t.levels le) ∙ first ∙ by (kept_front (take n t.levels)) (λ z. nz (e ∙ z))
  where
    by : (ys : List Level) → (length ys ≢ 0) → ys ≡ or_zero ys
    by [] h = absurd (h refl)
    by (y ∷ ys) h = refl

-- levels that keep the form are in force in their table
pub force_made : (ls : List Level) → 0 < length ls → length ls ≤ 64 → formed ls ≡ true → in_force_of (table_of ls) ≡ ls
unfolding in_force_of
force_made [] l u h = absurd (omega arith)
force_made (a ∷ ls) l u h =
    let n : min (length (a ∷ ls)) 64 ≡ length (a ∷ ls) = omega arith in
    let e : take (min (length (a ∷ ls)) 64) ((a ∷ ls) ++ replicate (64 - length (a ∷ ls)) zero_level) ≡ a ∷ ls = take_at (a ∷ ls) (replicate (64 - length (a ∷ ls)) zero_level) (min (length (a ∷ ls)) 64) (sym n) in
    ap (λ ys. or_zero (kept_front ys)) e ∙ ap or_zero (kept_whole (a ∷ ls) h)

-- the levels in force are some levels that keep the form
pub record Formed (ls : List Level) : Type 0 where
  pub some : 0 < length ls
  pub keeps : formed ls ≡ true

-- the levels in force of any content are some and keep the form
pub force_formed : (t : LevelTable) → Formed (in_force_of t)
unfolding in_force_of
force_formed t = by (kept_front (take (min t.count 64) t.levels)) (kept_formed (take (min t.count 64) t.levels))
  where
    by : (ys : List Level) → formed ys ≡ true → Formed (or_zero ys)
    by [] h = record { some = omega arith; keeps = refl }
    by (y ∷ ys) h = record { some = omega arith; keeps = h }
