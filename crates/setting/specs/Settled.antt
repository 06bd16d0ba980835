-- The settings' rule against the paper's validity: markers may all be taken exactly when each variable is opened once and then closed once.
--
-- Settled u ls        the markers of ls are taken one after the other from setting u: settles, step by step
-- wants u v           the kinds of the markers that variable v + 1 still wants in setting u
-- Wants u ls          the markers of ls are, variable by variable, what setting u wants
-- had u               how many markers setting u has had
-- settles_wants       both at once, over any setting
-- settles_valid       THE THEOREM: from the setting to begin in, settles is valid
use Rattle.std.specs.Prelude.{◌≡◌, refl, Bool, true, false, cond, not, ◌||◌, List, [], ◌∷◌, ℕ, zero, suc, ◌+◌, ◌*◌, ◌/◌, ◌%◌, ◌≤◌, ◌<◌, ltb, eqb}
use Rattle.std.proofs.Common.{sym, ap, ap₂, ◌∙◌, arith, eq-eqb, ne_eqb, lt-ltb, le-ltb, eqb-true, ltb-true}
use Rattle.std.proofs.Math.Bool.{and-false}
use Rattle.std.proofs.lemmas.Bool.{false≢true}
use Rattle.std.proofs.Math.Decide.{dec_lt, ℕ_discrete}
use Rattle.basics.specs.Decides.{Decides, decided_one}
use Rattle.basics.specs.Every.{every, every_at, and_true}
use Rattle.basics.specs.Lists.{All, equal, equal_true, equal_refl}
use Rattle.marks.specs.Labels.{Label, RightLabel, byte, opens, closes, kinds_of, valid}
use Rattle.setting.specs.Setting.{digit_of, move_of, marker_of, settles, begin}

pub data Settled : ℕ → List Label → Type 0 where
  shut : Settled 26 []
  over : {l : Label} {ls : List Label} {u : ℕ} → l.kind ≡ 0 → Settled u ls → Settled u (l ∷ ls)
  took : {l : Label} {ls : List Label} {u : ℕ} → (l.kind ≡ 0 → ⊥) → marker_of l < 6 → move_of u (marker_of l) < 27 → Settled (move_of u (marker_of l)) ls → Settled u (l ∷ ls)

pub move_six : (u m : ℕ) → move_of u m < 27 → m < 6
unfolding move_of
move_six u m h = go (dec_lt m 6)
  where
    go : Dec (m < 6) → m < 6
    go (yes k) = k
    go (no k) = let g : 27 < 27 = rw (le-ltb m 6 (omega arith)) at h in absurd (omega arith)

pub settle : (ls : List Label) (u : ℕ) → settles u ls ≡ true → Settled u ls
unfolding settles
settle [] u e = rw (eqb-true u 26 e) shut
settle (l ∷ ls) u e = go (ℕ_discrete l.kind 0) (dec_lt (move_of u (marker_of l)) 27) (settle ls)
  where
    go : Dec (l.kind ≡ 0) → Dec (move_of u (marker_of l) < 27) → ((w : ℕ) → settles w ls ≡ true → Settled w ls) → Settled u (l ∷ ls)
    go (yes k) d ih = over k (ih u (rw (eq-eqb _ _ k) at e))
    go (no k) (yes d) ih = took k (move_six u (marker_of l) d) d (ih (move_of u (marker_of l)) (rw (ne_eqb _ _ k, lt-ltb _ _ d) at e))
    go (no k) (no d) ih = absurd (false≢true (rw (ne_eqb _ _ k, le-ltb (move_of u (marker_of l)) 27 (omega arith)) at e))

pub unsettle : {u : ℕ} {ls : List Label} → Settled u ls → settles u ls ≡ true
unfolding settles
unsettle shut = refl
unsettle (over k s) = rw (eq-eqb _ _ k) (unsettle s)
unsettle (took k j h s) = rw (ne_eqb _ _ k, lt-ltb _ _ h) (unsettle s)

-- what a right label that is a marker has
pub record Six (K k a : ℕ) : Type 0 where
  pub low : 1 ≤ k
  pub high : k ≤ 2
  pub some : 1 ≤ a
  pub used : a ≤ K

pub right_six : {K k a : ℕ} → RightLabel K k a → (k ≡ 0 → ⊥) → Six K k a
right_six (byte p q) h = absurd (h refl)
right_six (opens p q) h = record { low = omega arith; high = omega arith; some = p; used = q }
right_six (closes p q) h = record { low = omega arith; high = omega arith; some = p; used = q }

pub right_marker : {K k a : ℕ} → RightLabel K k a → K ≤ 3 → (k ≡ 0 → ⊥) → marker_of (record { kind = k; argument = a }) < 6
right_marker r h z = let s = right_six r z in omega arith

pub marker_variable : {K k a : ℕ} → RightLabel K k a → (k ≡ 0 → ⊥) → suc (marker_of (record { kind = k; argument = a }) / 2) ≡ a
marker_variable r z = let s = right_six r z in omega arith

pub marker_kind : {K k a : ℕ} → RightLabel K k a → (k ≡ 0 → ⊥) → suc (marker_of (record { kind = k; argument = a }) % 2) ≡ k
marker_kind r z = let s = right_six r z in omega arith

abbrev pub wants : ℕ → ℕ → List ℕ
wants u v = cond (eqb (digit_of u v) 0) (1 ∷ 2 ∷ []) (cond (eqb (digit_of u v) 1) (2 ∷ []) [])

-- THE TABLE'S RULE: marker m may be taken in u exactly when it is the next that its variable wants; then that variable wants the
-- rest, and the others what they did
rule : ℕ → ℕ → ℕ → Bool
rule u m v =
    cond (ltb (move_of u m) 27)
    (equal (wants u v) (cond (eqb (suc (m / 2)) (suc v)) (suc (m % 2) ∷ wants (move_of u m) v) (wants (move_of u m) v)))
    (not (eqb (suc (m / 2)) (suc v)) || not (starts (wants u v)))
  where
    starts : List ℕ → Bool
    starts [] = false
    starts (x ∷ xs) = eqb x (suc (m % 2))

ruled : (u m v : ℕ) → u < 27 → m < 6 → v < 3 → rule u m v ≡ true
unfolding rule move_of
ruled u m v hu hm hv = every_at (rule u m) 3 (every_at (λ m. every (rule u m) 3) 6 (every_at (λ u. every (λ m. every (rule u m) 3) 6) 27 refl u hu) m hm) v hv

wants_step : (u m v : ℕ) → u < 27 → m < 6 → v < 3 → move_of u m < 27 → wants u v ≡ cond (eqb (suc (m / 2)) (suc v)) (suc (m % 2) ∷ wants (move_of u m) v) (wants (move_of u m) v)
unfolding rule
wants_step u m v hu hm hv h = equal_true _ _ (rw (lt-ltb _ _ h) at (ruled u m v hu hm hv))

wants_taken : (u m : ℕ) (xs : List ℕ) → u < 27 → m < 6 → suc (m % 2) ∷ xs ≡ wants u (m / 2) → move_of u m < 27
unfolding rule
wants_taken u m xs hu hm e = go (dec_lt (move_of u m) 27)
  where
    go : Dec (move_of u m < 27) → move_of u m < 27
    go (yes h) = h
    go (no h) = absurd (false≢true (rw (le-ltb (move_of u m) 27 (omega arith), eq-eqb (suc (m / 2)) (suc (m / 2)) refl, ← e, eq-eqb (suc (m % 2)) (suc (m % 2)) refl) at (ruled u m (m / 2) hu hm (omega arith))))

abbrev pub had : ℕ → ℕ
had u = u % 3 + u / 3 % 3 + u / 9 % 3

one_more : ℕ → ℕ → Bool
one_more u m = not (ltb (move_of u m) 27) || eqb (had (move_of u m)) (suc (had u))

pub move_had : (u m : ℕ) → u < 27 → m < 6 → move_of u m < 27 → had (move_of u m) ≡ suc (had u)
unfolding one_more move_of
move_had u m hu hm h = eqb-true _ _ (rw (lt-ltb _ _ h) at (every_at (one_more u) 6 (every_at (λ u. every (one_more u) 6) 27 refl u hu) m hm))

pub begin_had : (K : ℕ) → K ≤ 3 → had (begin K) + 2 * K ≡ 6
begin_had K hK = eqb-true _ _ (every_at (λ K. eqb (had (begin K) + 2 * K) 6) 4 refl K (omega arith))

-- a right label's own variable and kind, in place of its marker's
abbrev pub Right : ℕ → Label → Type 0
Right K l = RightLabel K l.kind l.argument

label_step : (K : ℕ) (l : Label) (u v : ℕ) → Right K l → (l.kind ≡ 0 → ⊥) → u < 27 → marker_of l < 6 → v < 3 → move_of u (marker_of l) < 27 → wants u v ≡ cond (eqb l.argument (suc v)) (l.kind ∷ wants (move_of u (marker_of l)) v) (wants (move_of u (marker_of l)) v)
label_step K l u v r z hu hm hv h =
    wants_step u (marker_of l) v hu hm hv h
    ∙ ap₂ (λ (a k : ℕ). cond (eqb a (suc v)) (k ∷ wants (move_of u (marker_of l)) v) (wants (move_of u (marker_of l)) v)) (marker_variable r z) (marker_kind r z)

abbrev pub Wants : ℕ → List Label → Type 0
Wants u ls = (v : ℕ) → v < 3 → kinds_of (suc v) ls ≡ wants u v

pub settled_wants : (K : ℕ) {u : ℕ} {ls : List Label} → Settled u ls → All (Right K) ls → u < 27 → Wants u ls
unfolding kinds_of
settled_wants K shut a hu v hv = sym (equal_true _ _ (every_at (λ v. equal (wants 26 v) []) 3 refl v hv))
settled_wants K (over k s) a hu v hv = rw (eq-eqb _ _ k) (settled_wants K s a.1 hu v hv)
settled_wants K (took {l = l} {u = u} k j h s) a hu v hv = rw (ne_eqb _ _ k, label_step K l u v a.0 k hu j hv h, settled_wants K s a.1 h v hv)

-- only where all are shut is nothing wanted
none_wanted : ℕ → Bool
none_wanted u = eqb u 26 || not (every (λ v. equal [] (wants u v)) 3)

pub wants_settled : (K : ℕ) → K ≤ 3 → (ls : List Label) → All (Right K) ls → (u : ℕ) → u < 27 → Wants u ls → Settled u ls
unfolding kinds_of none_wanted
wants_settled K hK [] a u hu w = go (eqb u 26) refl (every_at none_wanted 27 refl u hu)
  where
    go : (b : Bool) → eqb u 26 ≡ b → (b || not (every (λ v. equal [] (wants u v)) 3)) ≡ true → Settled u []
    go true e f = rw (eqb-true u 26 e) shut
    go false e f = absurd (false≢true (rw (equal_refl [] (wants u 2) (w 2 (omega arith)), equal_refl [] (wants u 1) (w 1 (omega arith)), equal_refl [] (wants u 0) (w 0 (omega arith))) at f))
wants_settled K hK (l ∷ ls) a u hu w = go (ℕ_discrete l.kind 0) (wants_settled K hK ls a.1)
  where
    go : Dec (l.kind ≡ 0) → ((u : ℕ) → u < 27 → Wants u ls → Settled u ls) → Settled u (l ∷ ls)
    go (yes k) ih = over k (ih u hu (λ v hv. rw (eq-eqb _ _ k) at (w v hv)))
    go (no k) ih = took k m h (ih (move_of u (marker_of l)) h rest)
      where
        m : marker_of l < 6
        m = right_marker a.0 hK k

        var : suc (marker_of l / 2) ≡ l.argument
        var = marker_variable a.0 k

        kind : suc (marker_of l % 2) ≡ l.kind
        kind = marker_kind a.0 k

        own : l.kind ∷ kinds_of (suc (marker_of l / 2)) ls ≡ wants u (marker_of l / 2)
        own = rw (ne_eqb _ _ k, eq-eqb l.argument (suc (marker_of l / 2)) (sym var)) at (w (marker_of l / 2) (omega (arith, m)))

        h : move_of u (marker_of l) < 27
        h = wants_taken u (marker_of l) (kinds_of (suc (marker_of l / 2)) ls) hu m (ap (λ (x : ℕ). x ∷ kinds_of (suc (marker_of l / 2)) ls) kind ∙ own)

        rest : Wants (move_of u (marker_of l)) ls
        rest v hv = pick (ℕ_discrete l.argument (suc v)) (rw (ne_eqb _ _ k) at (w v hv ∙ label_step K l u v a.0 k hu m hv h))
          where
            pick : Dec (l.argument ≡ suc v) → cond (eqb l.argument (suc v)) (l.kind ∷ kinds_of (suc v) ls) (kinds_of (suc v) ls) ≡ cond (eqb l.argument (suc v)) (l.kind ∷ wants (move_of u (marker_of l)) v) (wants (move_of u (marker_of l)) v) → kinds_of (suc v) ls ≡ wants (move_of u (marker_of l)) v
            pick (yes q) e = let f : l.kind ∷ kinds_of (suc v) ls ≡ l.kind ∷ wants (move_of u (marker_of l)) v = rw (eq-eqb _ _ q) at e in cc
            pick (no q) e = rw (ne_eqb _ _ q) at e

-- over any setting, settles decides whether each variable's markers are what it still wants
pub settles_wants : (K : ℕ) → K ≤ 3 → (ls : List Label) → All (Right K) ls → (u : ℕ) → u < 27 → Decides (Wants u ls) (settles u ls)
settles_wants K hK ls a u hu =
    record {
      so = λ e. settled_wants K (settle ls u e) a hu;
      not_so = λ e w. false≢true (sym e ∙ unsettle (wants_settled K hK ls a u hu w));
    }

-- a variable beyond the K has no markers
none_beyond : (K v : ℕ) → K < v → (ls : List Label) → All (Right K) ls → kinds_of v ls ≡ []
unfolding kinds_of
none_beyond K v h [] a = refl
none_beyond K v h (l ∷ ls) a = go (ℕ_discrete l.kind 0) (none_beyond K v h ls a.1)
  where
    go : Dec (l.kind ≡ 0) → kinds_of v ls ≡ [] → kinds_of v (l ∷ ls) ≡ []
    go (yes k) ih = rw (eq-eqb _ _ k) ih
    go (no k) ih = let s = right_six a.0 k in rw (ne_eqb l.argument v (λ e. omega arith), and-false) ih

-- what the setting to begin in wants
begin_wants : (K v : ℕ) → K ≤ 3 → v < 3 → wants (begin K) v ≡ cond (ltb v K) (1 ∷ 2 ∷ []) []
begin_wants K v hK hv = equal_true _ _ (every_at (λ v. equal (wants (begin K) v) (cond (ltb v K) (1 ∷ 2 ∷ []) [])) 3 (every_at (λ K. every (λ v. equal (wants (begin K) v) (cond (ltb v K) (1 ∷ 2 ∷ []) [])) 3) 4 refl K (omega arith)) v hv)

pub begin_low : (K : ℕ) → K ≤ 3 → begin K < 27
begin_low K hK = ltb-true _ _ (every_at (λ K. ltb (begin K) 27) 4 refl K (omega arith))

-- the paper's validity, variable by variable
pub valid_at : (K : ℕ) (ls : List Label) → valid K ls ≡ true → (v : ℕ) → v < K → kinds_of (suc v) ls ≡ 1 ∷ 2 ∷ []
unfolding valid
valid_at zero ls e v h = absurd (omega arith)
valid_at (suc K) ls e v h = go (ℕ_discrete v K) (valid_at K ls)
  where
    p : (equal (kinds_of (suc K) ls) (1 ∷ 2 ∷ []) ≡ true) × (valid K ls ≡ true)
    p = and_true _ _ e

    go : Dec (v ≡ K) → (valid K ls ≡ true → (v : ℕ) → v < K → kinds_of (suc v) ls ≡ 1 ∷ 2 ∷ []) → kinds_of (suc v) ls ≡ 1 ∷ 2 ∷ []
    go (yes q) ih = rw q (equal_true _ _ p.0)
    go (no q) ih = ih p.1 v (omega arith)

pub valid_all : (K : ℕ) (ls : List Label) → ((v : ℕ) → v < K → kinds_of (suc v) ls ≡ 1 ∷ 2 ∷ []) → valid K ls ≡ true
unfolding valid
valid_all zero ls f = refl
valid_all (suc K) ls f = rw (equal_refl _ _ (f K (omega arith))) (valid_all K ls (λ v h. f v (omega arith)))

valid_wants : (K : ℕ) → K ≤ 3 → (ls : List Label) → All (Right K) ls → Decides (Wants (begin K) ls) (valid K ls)
valid_wants K hK ls a =
    record {
      so = λ e v hv. to v hv (dec_lt v K) (valid_at K ls e v);
      not_so = λ e w. false≢true (sym e ∙ valid_all K ls (λ v h. w v (omega arith) ∙ begin_wants K v hK (omega arith) ∙ (rw (lt-ltb v K h))));
    }
  where
    to : (v : ℕ) → v < 3 → Dec (v < K) → (v < K → kinds_of (suc v) ls ≡ 1 ∷ 2 ∷ []) → kinds_of (suc v) ls ≡ wants (begin K) v
    to v hv (yes h) f = rw (begin_wants K v hK hv, lt-ltb v K h) (f h)
    to v hv (no h) f = rw (begin_wants K v hK hv, le-ltb v K (omega arith)) (none_beyond K (suc v) (omega arith) ls a)

pub settles_valid : (K : ℕ) → K ≤ 3 → (ls : List Label) → All (λ l. RightLabel K l.kind l.argument) ls → settles (begin K) ls ≡ valid K ls
settles_valid K hK ls a = decided_one _ _ (settles_wants K hK ls a (begin K) (begin_low K hK)) (valid_wants K hK ls a)
