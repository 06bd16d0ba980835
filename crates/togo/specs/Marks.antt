-- A settled list of labels takes each marker that its setting has not had once, at one place.
--
-- had_marker m u   the marker m has been taken in setting u
-- place m p ls    the position at which ls, begun at position p, first has the marker m, 0 if it has none
-- still, apart    what one marker that is taken leaves of the others
-- no_place        a marker that was had has no place more
-- within_places, places_within   markers stand where they are allowed exactly when their places are allowed
-- placed_marked   the numbers of the set that right labels mark are the places of the six markers
use Rattle.std.specs.Prelude.{◌≡◌, Bool, cond, ◌&&◌, not, ◌||◌, List, [], ◌∷◌, ℕ, zero, suc, ◌+◌, ◌-◌, ◌*◌, ◌/◌, ◌%◌, ◌≤◌, ◌<◌, ltb, eqb}
use Rattle.std.proofs.Math.Path.{refl}
use Rattle.std.proofs.Common.{sym, ◌∙◌, subst, arith}
use Rattle.std.proofs.Math.Bool.{true, false}
use Rattle.std.proofs.lemmas.Bool.{false≢true}
use Rattle.std.proofs.Math.Decide.{ℕ_discrete}
use borrow.Author.Tests.{eq-eqb, ne_eqb, lt-ltb}
use Rattle.basics.specs.Every.{every, every_at, and_true}
use Rattle.basics.specs.Lists.{All}
use Rattle.marks.specs.Labels.{Label, is_byte, place_of, marked}
use Rattle.setting.specs.Setting.{digit_of, move_of, marker_of}
use Rattle.setting.specs.Settled.{Settled, shut, over, took, Right, right_six}
use Rattle.togo.specs.Price.{placed}
use Rattle.togo.specs.Runs.{next_pos, within}

abbrev pub had_marker : ℕ → ℕ → Bool
had_marker m u = ltb (m % 2) (digit_of u (m / 2))

abbrev pub is_marker : ℕ → Label → Bool
is_marker m l = not (is_byte l) && eqb (marker_of l) m

unfoldable pub place : ℕ → ℕ → List Label → ℕ
place m p [] = 0
place m p (l ∷ ls) = cond (is_marker m l) p (place m (next_pos p l) ls)

-- THE TABLE'S RULE: a marker j that may be taken is then had; each marker that was had is another, and still is; no other is had
rule : ℕ → ℕ → ℕ → Bool
rule u j m =
    not (ltb (move_of u j) 27)
    || (had_marker j (move_of u j)
    && ((not (had_marker m u) || (not (eqb j m) && had_marker m (move_of u j))) && (had_marker m u || (eqb j m || not (had_marker m (move_of u j))))))

ruled : (u j m : ℕ) → u < 27 → j < 6 → m < 6 → rule u j m ≡ true
unfolding rule move_of
ruled u j m hu hj hm = every_at (rule u j) 6 (every_at (λ j. every (rule u j) 6) 6 (every_at (λ u. every (λ j. every (rule u j) 6) 6) 27 refl u hu) j hj) m hm

pub taken : (u j : ℕ) → u < 27 → j < 6 → move_of u j < 27 → had_marker j (move_of u j) ≡ true
unfolding rule
taken u j hu hj h = (and_true (had_marker j (move_of u j)) _ (rw (lt-ltb _ _ h) at (ruled u j j hu hj hj))).0

pub still : (u j m : ℕ) → u < 27 → j < 6 → m < 6 → move_of u j < 27 → had_marker m u ≡ true → (eqb j m ≡ false) × (had_marker m (move_of u j) ≡ true)
unfolding rule
still u j m hu hj hm h o = go (eqb j m) (had_marker m (move_of u j)) (rw (lt-ltb _ _ h, taken u j hu hj h, o) at (ruled u j m hu hj hm))
  where
    go : (a b : Bool) → (not a && b && true) ≡ true → (a ≡ false) × (b ≡ true)
    go true b e = absurd (false≢true e)
    go false true e = (refl, refl)
    go false false e = absurd (false≢true e)

pub apart : (u j m : ℕ) → u < 27 → j < 6 → m < 6 → move_of u j < 27 → had_marker m u ≡ false → (j ≡ m → ⊥) → had_marker m (move_of u j) ≡ false
unfolding rule
apart u j m hu hj hm h o d = go (had_marker m (move_of u j)) (rw (lt-ltb _ _ h, taken u j hu hj h, o, ne_eqb _ _ d) at (ruled u j m hu hj hm))
  where
    go : (b : Bool) → not b ≡ true → b ≡ false
    go true e = absurd (false≢true e)
    go false e = refl

all_had : (m : ℕ) → m < 6 → had_marker m 26 ≡ true
all_had m h = every_at (λ m. had_marker m 26) 6 refl m h

pub no_place : (m : ℕ) → m < 6 → {u : ℕ} {ls : List Label} → Settled u ls → u < 27 → had_marker m u ≡ true → (p : ℕ) → place m p ls ≡ 0
unfolding place
no_place m hm shut hu o p = refl
no_place m hm (over k s) hu o p = rw (eq-eqb _ _ k) (no_place m hm s hu o (p + 1))
no_place m hm (took {l = l} {u = u} k j h s) hu o p = let t = still u (marker_of l) m hu j hm h o in rw (ne_eqb _ _ k, t.0) (no_place m hm s h t.1 p)

module _ (allow : ℕ → ℕ → Bool) where
  pub within_places : (m : ℕ) → m < 6 → {u : ℕ} {ls : List Label} → Settled u ls → u < 27 → (p : ℕ) → within allow p ls ≡ true → had_marker m u ≡ false → allow m (place m p ls) ≡ true
  unfolding within place
  within_places m hm shut hu p e o = absurd (false≢true (sym o ∙ all_had m hm))
  within_places m hm (over k s) hu p e o = rw (eq-eqb _ _ k) (within_places m hm s hu (p + 1) (rw (eq-eqb _ _ k) at e) o)
  within_places m hm (took {l = l} {ls = ls} {u = u} k j h s) hu p e o = go (ℕ_discrete (marker_of l) m) (and_true _ _ (rw (ne_eqb _ _ k) at e)) (within_places m hm s h p)
    where
      go : Dec (marker_of l ≡ m) → (allow (marker_of l) p ≡ true) × (within allow p ls ≡ true) → (within allow p ls ≡ true → had_marker m (move_of u (marker_of l)) ≡ false → allow m (place m p ls) ≡ true) → allow m (place m p (l ∷ ls)) ≡ true
      go (yes q) t ih = rw (ne_eqb _ _ k, eq-eqb _ _ q) (subst (λ (x : ℕ). allow x p ≡ true) q t.0)
      go (no q) t ih = rw (ne_eqb _ _ k, ne_eqb _ _ q) (ih t.1 (apart u (marker_of l) m hu j hm h o q))

  pub places_within : {u : ℕ} {ls : List Label} → Settled u ls → u < 27 → (p : ℕ) → ((m : ℕ) → m < 6 → had_marker m u ≡ false → allow m (place m p ls) ≡ true) → within allow p ls ≡ true
  unfolding within place
  places_within shut hu p f = refl
  places_within (over k s) hu p f = rw (eq-eqb _ _ k) (places_within s hu (p + 1) (λ m hm o. rw (eq-eqb _ _ k) at (f m hm o)))
  places_within (took {l = l} {ls = ls} {u = u} k j h s) hu p f = rw (ne_eqb _ _ k, own) (places_within s h p others)
    where
      fresh : (b : Bool) → had_marker (marker_of l) u ≡ b → b ≡ false
      fresh true o = absurd (false≢true (sym (still u (marker_of l) (marker_of l) hu j j h o).0 ∙ eq-eqb (marker_of l) (marker_of l) refl))
      fresh false o = refl

      own : allow (marker_of l) p ≡ true
      own = rw (ne_eqb _ _ k, eq-eqb (marker_of l) (marker_of l) refl) at (f (marker_of l) j (fresh (had_marker (marker_of l) u) refl))

      others : (m : ℕ) → m < 6 → had_marker m (move_of u (marker_of l)) ≡ false → allow m (place m p ls) ≡ true
      others m hm o = rw (ne_eqb _ _ k, ne_eqb _ _ other) at (f m hm (before (had_marker m u) refl))
        where
          other : marker_of l ≡ m → ⊥
          other q = false≢true (sym o ∙ subst (λ (x : ℕ). had_marker x (move_of u (marker_of l)) ≡ true) q (taken u (marker_of l) hu j h))

          before : (b : Bool) → had_marker m u ≡ b → had_marker m u ≡ false
          before true g = absurd (false≢true (sym o ∙ (still u (marker_of l) m hu j hm h g).1))
          before false g = g

-- a right label is the marker m exactly when it has its kind and its variable
is_marker_by : (K : ℕ) (l : Label) (k v : ℕ) → Right K l → 1 ≤ k → k ≤ 2 → 1 ≤ v → (eqb l.kind k && eqb l.argument v) ≡ is_marker (2 * v + k - 3) l
is_marker_by K l k v r lk hk lv = go (ℕ_discrete l.kind 0) (ℕ_discrete l.kind k) (ℕ_discrete l.argument v)
  where
    go : Dec (l.kind ≡ 0) → Dec (l.kind ≡ k) → Dec (l.argument ≡ v) → (eqb l.kind k && eqb l.argument v) ≡ is_marker (2 * v + k - 3) l
    go (yes z) d e = rw (eq-eqb _ _ z, ne_eqb l.kind k (λ q. omega arith))
    go (no z) (yes d) (yes e) = rw (ne_eqb l.kind 0 z, eq-eqb _ _ d, eq-eqb _ _ e, eq-eqb (marker_of l) (2 * v + k - 3) (omega arith))
    go (no z) (yes d) (no e) = let s = right_six r z in rw (ne_eqb l.kind 0 z, eq-eqb _ _ d, ne_eqb _ _ e, ne_eqb (marker_of l) (2 * v + k - 3) (λ q. omega arith))
    go (no z) (no d) e = let s = right_six r z in rw (ne_eqb l.kind 0 z, ne_eqb _ _ d, ne_eqb (marker_of l) (2 * v + k - 3) (λ q. omega arith))

pub place_marker : (K k v : ℕ) → 1 ≤ k → k ≤ 2 → 1 ≤ v → (ls : List Label) → All (Right K) ls → (p : ℕ) → place_of k v p ls ≡ place (2 * v + k - 3) p ls
unfolding place_of place
place_marker K k v lk hk lv [] a p = refl
place_marker K k v lk hk lv (l ∷ ls) a p = rw (is_marker_by K l k v a.0 lk hk lv, place_marker K k v lk hk lv ls a.1 (next_pos p l))

pub placed_marked : (K : ℕ) (ls : List Label) → All (Right K) ls → (m : ℕ) → m < 6 → placed (marked ls) m ≡ place m 1 ls
unfolding marked
placed_marked K ls a zero h = place_marker K 1 1 (omega arith) (omega arith) (omega arith) ls a 1
placed_marked K ls a (suc zero) h = place_marker K 2 1 (omega arith) (omega arith) (omega arith) ls a 1
placed_marked K ls a (suc (suc zero)) h = place_marker K 1 2 (omega arith) (omega arith) (omega arith) ls a 1
placed_marked K ls a (suc (suc (suc zero))) h = place_marker K 2 2 (omega arith) (omega arith) (omega arith) ls a 1
placed_marked K ls a (suc (suc (suc (suc zero)))) h = place_marker K 1 3 (omega arith) (omega arith) (omega arith) ls a 1
placed_marked K ls a (suc (suc (suc (suc (suc zero))))) h = place_marker K 2 3 (omega arith) (omega arith) (omega arith) ls a 1
placed_marked K ls a (suc (suc (suc (suc (suc (suc m)))))) h = absurd (omega arith)
