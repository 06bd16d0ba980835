-- The price of a run as one number is its weight and its key, and the key of a settled run is the key of the set it marks.
--
-- label_key, labels_key   what one label, and a list of labels, adds to the key
-- tally m p ls          the digits that ls, begun at position p, puts at the marker m: together the key (key_tallies)
-- tally_place           of a settled list that is the one digit of the marker's place
-- key_marked            so the key is that of the set
-- big_plain             the price of a list of rows in weights and keys
use Rattle.std.specs.Prelude.{◌≡◌, true, cond, eqb}
use Rattle.std.proofs.Math.Path.{refl}
use Rattle.std.proofs.Common.{sym, ap, ◌∙◌, subst, eq-eqb, ne_eqb}
use mathlib.Core.List.{List, [], ◌∷◌, map}
use Rattle.std.proofs.Math.Option.{Option, none, some}
use Prim.Native.Nat.{ℕ, zero, suc, ◌+◌, ◌-◌, ◌*◌, ◌^◌, ◌<◌, min}
use native.Mathlib.Omega.{arith}
use Rattle.std.proofs.Math.Decide.{ℕ_discrete}
use Rattle.basics.specs.Lists.{All}
use Rattle.weight.specs.Weight.{mark, joint_to}
use Rattle.weight.specs.Totals.{after, weight}
use Rattle.weight.specs.Tropical.{least, tropical}
use Rattle.spans.specs.Spans.{digit}
use Rattle.marks.specs.Labels.{Label, is_byte, marked}
use Rattle.setting.specs.Setting.{move_of, marker_of}
use Rattle.setting.specs.Settled.{Settled, shut, over, took, Right}
use Rattle.table.specs.declared.Row.{Row}
use Rattle.table.specs.Table.{Automaton, label_of}
use Rattle.togo.specs.ToGo.{Spot, pass}
use Rattle.togo.specs.Price.{base, cap, key_at, key_of, big_price, big_end, placed}
use Rattle.togo.specs.Runs.{next_pos, stop_at, stops, plain, passed}
use Rattle.togo.specs.Marks.{had_marker, is_marker, place, taken, still, placed_marked}
use Rattle.best.specs.Code.{digit_zero}

abbrev label_key : ℕ → Label → ℕ
label_key p l = cond (is_byte l) 0 (digit (marker_of l) p * 1026 ^ (5 - marker_of l))

unfoldable pub labels_key : ℕ → List Label → ℕ
labels_key p [] = 0
labels_key p (l ∷ ls) = label_key p l + labels_key (next_pos p l) ls

unfoldable tally : ℕ → ℕ → List Label → ℕ
tally m p [] = 0
tally m p (l ∷ ls) = cond (is_marker m l) (digit m p) 0 + tally m (next_pos p l) ls

no_tally : (m : ℕ) → m < 6 → {u : ℕ} {ls : List Label} → Settled u ls → u < 27 → had_marker m u ≡ true → (p : ℕ) → tally m p ls ≡ 0
unfolding tally
no_tally m hm shut hu o p = refl
no_tally m hm (over k s) hu o p = rw (eq-eqb _ _ k) (omega (arith, no_tally m hm s hu o (p + 1)))
no_tally m hm (took {l = l} {u = u} k j h s) hu o p = let t = still u (marker_of l) m hu j hm h o in rw (ne_eqb _ _ k, t.0) (omega (arith, no_tally m hm s h t.1 p))

tally_place : (m : ℕ) → m < 6 → {u : ℕ} {ls : List Label} → Settled u ls → u < 27 → (p : ℕ) → tally m p ls ≡ digit m (place m p ls)
unfolding tally place
tally_place m hm shut hu p = sym (digit_zero m)
tally_place m hm (over k s) hu p = rw (eq-eqb _ _ k) (omega (arith, tally_place m hm s hu (p + 1)))
tally_place m hm (took {l = l} {ls = ls} {u = u} k j h s) hu p = go (ℕ_discrete (marker_of l) m) (tally_place m hm s h p)
  where
    go : Dec (marker_of l ≡ m) → tally m p ls ≡ digit m (place m p ls) → tally m p (l ∷ ls) ≡ digit m (place m p (l ∷ ls))
    go (yes e) ih = rw (ne_eqb _ _ k, eq-eqb _ _ e) (omega (arith, no_tally m hm s h (subst (λ (x : ℕ). had_marker x (move_of u (marker_of l)) ≡ true) e (taken u (marker_of l) hu j h)) p))
    go (no e) ih = rw (ne_eqb _ _ k, ne_eqb _ _ e) (omega arith)

-- six digits as one number
abbrev six : (ℕ → ℕ) → ℕ
six f = f 0 * 1026 ^ 5 + f 1 * 1026 ^ 4 + f 2 * 1026 ^ 3 + f 3 * 1026 ^ 2 + f 4 * 1026 + f 5

one_digit : (j p : ℕ) → j < 6 → digit j p * 1026 ^ (5 - j) ≡ six (λ m. cond (eqb j m) (digit m p) 0)
one_digit zero p h = omega arith
one_digit (suc zero) p h = omega arith
one_digit (suc (suc zero)) p h = omega arith
one_digit (suc (suc (suc zero))) p h = omega arith
one_digit (suc (suc (suc (suc zero)))) p h = omega arith
one_digit (suc (suc (suc (suc (suc zero))))) p h = omega arith
one_digit (suc (suc (suc (suc (suc (suc j)))))) p h = absurd (omega arith)

key_tallies : {u : ℕ} {ls : List Label} → Settled u ls → (p : ℕ) → labels_key p ls ≡ six (λ m. tally m p ls)
unfolding labels_key tally
key_tallies shut p = refl
key_tallies (over k s) p = rw (eq-eqb _ _ k) (omega (arith, key_tallies s (p + 1)))
key_tallies (took {l = l} k j h s) p = rw (ne_eqb _ _ k) (omega (arith, key_tallies s p, one_digit (marker_of l) p j))

pub key_marked : (K : ℕ) (ls : List Label) → All (Right K) ls → (u : ℕ) → u < 27 → Settled u ls → labels_key 1 ls ≡ key_of (marked ls)
key_marked K ls a u hu s = key_tallies s 1 ∙ sums (λ m. tally m 1 ls) (λ m. digit m (placed (marked ls) m)) each
  where
    each : (m : ℕ) → m < 6 → tally m 1 ls ≡ digit m (placed (marked ls) m)
    each m hm = tally_place m hm s hu 1 ∙ ap (digit m) (sym (placed_marked K ls a m hm))

    sums : (f g : ℕ → ℕ) → ((m : ℕ) → m < 6 → f m ≡ g m) → six f ≡ g 0 * 1026 ^ 5 + (g 1 * 1026 ^ 4 + (g 2 * 1026 ^ 3 + (g 3 * 1026 ^ 2 + (g 4 * 1026 ^ 1 + (g 5 * 1026 ^ 0 + 0)))))
    sums f g e = omega (arith, e 0 (omega arith), e 1 (omega arith), e 2 (omega arith), e 3 (omega arith), e 4 (omega arith), e 5 (omega arith))

mix : (w s k l : ℕ) → joint_to cap (w * base + k) (min cap (s * base + l)) ≡ min cap (joint_to mark w s * base + (k + l))
unfolding joint_to
mix w s k l = omega arith

module _ (A : Automaton) where
  abbrev weights : List Row → Spot → ℕ
  weights rs s = plain tropical (λ s r. r.weight) A.end rs s

  abbrev bigs : List Row → Spot → ℕ
  bigs rs s = plain (least cap) big_price (big_end A) rs s

  pub big_plain : (rs : List Row) (s : Spot) → bigs rs s ≡ min cap (weights rs s * base + labels_key s.pos (map label_of rs))
  unfolding weight labels_key after
  big_plain [] s = unfold stops big_end in go s.rest
    where
      go : (bs : List ℕ) → stop_at (least cap) (min cap (A.end s.state * base)) bs ≡ min cap (stop_at tropical (A.end s.state) bs * base + 0)
      go [] = omega arith
      go (b ∷ bs) = omega arith
  big_plain (r ∷ rs) s = go (pass s r) refl (big_plain rs)
    where
      l : Label
      l = label_of r

      rest : ℕ
      rest = labels_key (next_pos s.pos l) (map label_of rs)

      price : big_price s r ≡ r.weight * base + label_key s.pos l
      price = unfold big_price key_at in refl

      go : (o : Option Spot) → pass s r ≡ o → ((d : Spot) → bigs rs d ≡ min cap (weights rs d * base + labels_key d.pos (map label_of rs)))
          → after (least cap) pass big_price (stops (least cap) (big_end A)) s r (λ d. bigs rs d) o
          ≡ min cap (after tropical pass (λ s r. r.weight) (stops tropical A.end) s r (λ d. weights rs d) o * base + (label_key s.pos l + rest))
      go none e ih = omega arith
      go (some d) e ih =
          rw (price, ih d)
          (mix r.weight (weights rs d) (label_key s.pos l) (labels_key d.pos (map label_of rs))
          ∙ ap (λ (p : ℕ). min cap (joint_to mark r.weight (weights rs d) * base + (label_key s.pos l + labels_key p (map label_of rs)))) (passed s r d e).at)
