-- What a valid list of right labels that spells a line marks is a set of spans of the line.
use Rattle.std.proofs.Math.Path.{◌≡◌, refl}
use Rattle.std.specs.Prelude.{Bool, ◌&&◌, ℕ, suc, ◌+◌, ◌≤◌, ◌<◌, eqb, length}
use Rattle.std.proofs.Math.Bool.{true, false, cond, and-false}
use Rattle.std.proofs.lemmas.Bool.{false≢true}
use mathlib.Core.List.{List, [], ◌∷◌}
use native.Mathlib.Omega.{arith}
use Rattle.std.proofs.Math.Decide.{ℕ_discrete}
use borrow.Author.Tests.{eq-eqb, ne_eqb}
use Rattle.basics.specs.Every.{and_true}
use Rattle.basics.specs.Lists.{All}
use Rattle.spans.specs.Spans.{Part, SetOfSpans}
use Rattle.marks.specs.Labels.{Label, is_byte, reads, spells, kinds_of, valid, place_of, marked}
use Rattle.setting.specs.Settled.{Right, right_six, valid_at}

module _ (k v : ℕ) where
  -- no marker stands past the line's end
  place_high : (ls : List Label) (bs : List ℕ) → spells ls bs ≡ true → (p : ℕ) → place_of k v p ls ≤ p + length bs
  unfolding place_of spells
  place_high [] bs e p = omega arith
  place_high (l ∷ ls) bs e p = go bs (is_byte l) refl e (place_high ls)
    where
      pick : (b : Bool) (x m : ℕ) → p ≤ m → x ≤ m → cond b p x ≤ m
      pick true x m h g = h
      pick false x m h g = g

      go : (bs : List ℕ) (t : Bool) → is_byte l ≡ t → spells (l ∷ ls) bs ≡ true → ((bs : List ℕ) → spells ls bs ≡ true → (p : ℕ) → place_of k v p ls ≤ p + length bs)
          → cond (eqb l.kind k && eqb l.argument v) p (place_of k v (cond (is_byte l) (p + 1) p) ls) ≤ p + length bs
      go [] true z e ih = absurd (false≢true (rw z at e))
      go [] false z e ih = rw z (pick (eqb l.kind k && eqb l.argument v) _ _ (omega arith) (ih [] (rw z at e) p))
      go (b ∷ bs) true z e ih = rw z (pick (eqb l.kind k && eqb l.argument v) _ _ (omega arith) (omega (arith, ih bs (and_true (reads l b) (spells ls bs) (rw z at e)).1 (p + 1))))
      go (b ∷ bs) false z e ih = rw z (pick (eqb l.kind k && eqb l.argument v) _ _ (omega arith) (ih (b ∷ bs) (rw z at e) p))

  -- the first marker of a variable stands at the position begun at, or after it
  place_low : 1 ≤ k → (ks : List ℕ) (ls : List Label) → kinds_of v ls ≡ k ∷ ks → (p : ℕ) → p ≤ place_of k v p ls
  unfolding place_of kinds_of
  place_low hk ks [] e p = let z : ◌≡◌ {A = ℕ} 0 1 = cc in absurd (omega arith)
  place_low hk ks (l ∷ ls) e p = go (ℕ_discrete l.kind 0) (ℕ_discrete l.argument v) (place_low hk ks ls)
    where
      go : Dec (l.kind ≡ 0) → Dec (l.argument ≡ v) → (kinds_of v ls ≡ k ∷ ks → (p : ℕ) → p ≤ place_of k v p ls) → p ≤ place_of k v p (l ∷ ls)
      go (yes z) d ih = rw (eq-eqb _ _ z, ne_eqb l.kind k (λ q. omega arith)) (omega (arith, ih (rw (eq-eqb _ _ z) at e) (p + 1)))
      go (no z) (yes d) ih = rw (ne_eqb l.kind 0 z, eq-eqb l.kind k own, eq-eqb _ _ d) (omega arith)
        where
          both : l.kind ∷ kinds_of v ls ≡ k ∷ ks
          both = rw (ne_eqb l.kind 0 z, eq-eqb _ _ d) at e

          own : l.kind ≡ k
          own = cc both
      go (no z) (no d) ih = rw (ne_eqb l.kind 0 z, ne_eqb _ _ d, and-false) (ih (rw (ne_eqb l.kind 0 z, ne_eqb _ _ d) at e) p)

-- a variable is not closed before it is opened
in_order : (v : ℕ) (ls : List Label) → kinds_of v ls ≡ 1 ∷ 2 ∷ [] → (p : ℕ) → place_of 1 v p ls ≤ place_of 2 v p ls
unfolding place_of kinds_of
in_order v [] e p = omega arith
in_order v (l ∷ ls) e p = go (ℕ_discrete l.kind 0) (ℕ_discrete l.argument v) (in_order v ls)
  where
    go : Dec (l.kind ≡ 0) → Dec (l.argument ≡ v) → (kinds_of v ls ≡ 1 ∷ 2 ∷ [] → (p : ℕ) → place_of 1 v p ls ≤ place_of 2 v p ls) → place_of 1 v p (l ∷ ls) ≤ place_of 2 v p (l ∷ ls)
    go (yes z) d ih = rw (eq-eqb _ _ z, ne_eqb l.kind 1 (λ q. omega arith), ne_eqb l.kind 2 (λ q. omega arith)) (ih (rw (eq-eqb _ _ z) at e) (p + 1))
    go (no z) (yes d) ih = rw (ne_eqb l.kind 0 z, eq-eqb l.kind 1 own, ne_eqb l.kind 2 (λ q. omega (arith, own)), eq-eqb _ _ d) (place_low 2 v (omega arith) [] ls rest p)
      where
        both : l.kind ∷ kinds_of v ls ≡ 1 ∷ 2 ∷ []
        both = rw (ne_eqb l.kind 0 z, eq-eqb _ _ d) at e

        own : l.kind ≡ 1
        own = cc both

        rest : kinds_of v ls ≡ 2 ∷ []
        rest = cc both
    go (no z) (no d) ih = rw (ne_eqb l.kind 0 z, ne_eqb _ _ d, and-false (eqb l.kind 1), and-false (eqb l.kind 2)) (ih (rw (ne_eqb l.kind 0 z, ne_eqb _ _ d) at e) p)

-- a variable beyond the K has no markers
no_marker : (K k v : ℕ) → 1 ≤ k → K < v → (ls : List Label) → All (Right K) ls → (p : ℕ) → place_of k v p ls ≡ 0
unfolding place_of
no_marker K k v hk h [] a p = refl
no_marker K k v hk h (l ∷ ls) a p = go (ℕ_discrete l.kind 0) (no_marker K k v hk h ls a.1 (cond (is_byte l) (p + 1) p))
  where
    go : Dec (l.kind ≡ 0) → place_of k v (cond (is_byte l) (p + 1) p) ls ≡ 0 → place_of k v p (l ∷ ls) ≡ 0
    go (yes z) ih = rw (ne_eqb l.kind k (λ q. omega arith)) ih
    go (no z) ih = let s = right_six a.0 z in rw (ne_eqb l.argument v (λ q. omega arith), and-false) ih

module _ (K : ℕ) (line : List ℕ) (ls : List Label) (a : All (Right K) ls) (reading : spells ls line ≡ true) (good : valid K ls ≡ true) where
  part : (v : ℕ) → Part K (length line) (suc v) (place_of 1 (suc v) 1 ls) (place_of 2 (suc v) 1 ls)
  part v =
      record {
        used = λ h. (let e = valid_at K ls good v (omega arith) in (place_low 1 (suc v) (omega arith) _ ls e 1, in_order (suc v) ls e 1, omega (arith, place_high 2 (suc v) ls line reading 1)));
        unused = λ h. (no_marker K 1 (suc v) (omega arith) h ls a 1, no_marker K 2 (suc v) (omega arith) h ls a 1);
      }

  pub marked_set : SetOfSpans K (length line) (marked ls)
  unfolding marked
  marked_set = record { one = part 0; two = part 1; three = part 2 }
