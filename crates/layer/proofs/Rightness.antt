-- A layer is right where each cell is the weight to go from its configuration. The byte step and the closing make a right layer of a
-- right one, and the closing one of the end words.
use mathlib.Core.Path.{◌≡◌, refl, sym, ap, ap₂, ◌∙◌}
use mathlib.Core.Bool.{Bool, true, false, cond, ◌&&◌, not, and-false}
use mathlib.Core.List.{List, [], ◌∷◌}
use Prim.Native.Nat.{ℕ, zero, suc, ◌+◌, ◌-◌, ◌*◌, ◌^◌, ◌≤◌, ◌<◌, min}
use native.Mathlib.Omega.{arith}
use native.Mathlib.Decide.{ℕ_discrete, dec_lt}
use lib.ListN.{length, get_or}
use lib.Dec.{ltb, eqb}
use borrow.Author.Tests.{eq-eqb, ne_eqb, lt-ltb, le-ltb}
use Rattle.std.specs.Prelude.{Option, None, Some}
use Rattle.std.specs.Option.{is_some}
use Rattle.basics.specs.Lists.{All}
use Rattle.weight.specs.Weight.{lighter_to, joint_to}
use Rattle.weight.specs.Semiring.{sum}
use Rattle.weight.specs.Sums.{sum_plus, zero_sum, sum_zero, sum_ext_all}
use Rattle.weight.specs.Tropical.{least, joint_comm, joint_cap, cap_cap}
use Rattle.weight.specs.Totals.{togo, after}
use Rattle.spans.specs.Spans.{digit}
use Rattle.marks.specs.Labels.{is_byte, reads}
use Rattle.setting.specs.Setting.{move_of, begin}
use Rattle.setting.specs.Settled.{move_had, right_marker}
use Rattle.table.specs.declared.Row.{Row}
use Rattle.table.specs.Table.{Automaton, label_of, RightRow}
use Rattle.togo.specs.ToGo.{Config, marker, pass, read_on, next, step, admits, held, ending, had, kernel}
use Rattle.togo.specs.Price.{base, cap, key_at, big_price, big_end}
use Rattle.layer.specs.Layer.{Cells, brings, carries, charge, toll_of, Tolls, Relaxed, Closed, at, Right}
use Rattle.layer.proofs.Closing.{moves_up, carries_byte, carries_out}

joint_normal : (a b : ℕ) → lighter_to cap (joint_to cap a b) cap ≡ joint_to cap a b
unfolding lighter_to joint_to
joint_normal a b = omega arith

cap_joint : (a b : ℕ) → lighter_to cap cap (joint_to cap a b) ≡ joint_to cap a b
unfolding lighter_to joint_to
cap_joint a b = omega arith

none_joint : (a : ℕ) → joint_to cap cap a ≡ cap
none_joint a = joint_comm cap cap a ∙ joint_cap cap a

plain : (x : ℕ) → x ≡ x + 0
plain x = omega arith

cut_cap : (x : ℕ) → lighter_to cap (min cap x) cap ≡ min cap x
unfolding lighter_to
cut_cap x = omega arith

brings_apart : (b : ℕ) (old : Cells) (q u : ℕ) (r : Row) → (r.from ≡ q → ⊥) → brings b old q u r ≡ cap
unfolding brings
brings_apart b old q u r s = rw (ne_eqb _ _ s) (simp and-false)

brings_marker : (b : ℕ) (old : Cells) (q u : ℕ) (r : Row) → (r.kind ≡ 0 → ⊥) → brings b old q u r ≡ cap
unfolding brings
brings_marker b old q u r z = rw (ne_eqb _ _ z)

carries_apart : (ts : List (Option ℕ)) (l : Cells) (q u : ℕ) (r : Row) → (r.from ≡ q → ⊥) → carries ts l q u r ≡ cap
unfolding carries
carries_apart ts l q u r s = rw (ne_eqb _ _ s) (simp and-false)

-- a toll at a position of a line fits a word of 64 bits
pub toll_open : (m p : ℕ) → m < 6 → p ≤ 1025 → digit m p * 1026 ^ (5 - m) < base
toll_open zero p h l = omega arith
toll_open (suc zero) p h l = omega arith
toll_open (suc (suc zero)) p h l = omega arith
toll_open (suc (suc (suc zero))) p h l = omega arith
toll_open (suc (suc (suc (suc zero)))) p h l = omega arith
toll_open (suc (suc (suc (suc (suc zero))))) p h l = omega arith
toll_open (suc (suc (suc (suc (suc (suc m)))))) p h l = absurd (omega arith)

had_le : (u : ℕ) → had u ≤ 6
had_le u = omega arith

normal : (t : Bool) (a b : ℕ) → lighter_to cap cap (cond t (joint_to cap a b) cap) ≡ cond t (joint_to cap a b) cap
normal true a b = cap_joint a b
normal false a b = cap_cap cap

carries_normal : (ts : List (Option ℕ)) (l : Cells) (q u : ℕ) (r : Row) → lighter_to cap cap (carries ts l q u r) ≡ carries ts l q u r
unfolding carries
carries_normal ts l q u r =
    normal (not (is_byte (label_of r)) && (ltb (move_of u (marker r)) 27 && (is_some (get_or ts (marker r) None) && eqb r.from q)))
    (r.weight * base + charge (get_or ts (marker r) None))
    (l r.to (move_of u (marker r)))

-- the price of a row, where it is admitted
module _ (allow : ℕ → ℕ → Bool) (c : Config) (r : Row) where
  held_byte : r.kind ≡ 0 → held (least cap) allow big_price c r ≡ r.weight * base
  unfolding held admits big_price key_at
  held_byte z = rw (eq-eqb _ _ z) (sym (plain (r.weight * base)))

  held_open : (r.kind ≡ 0 → ⊥) → allow (marker r) c.spot.pos ≡ true → held (least cap) allow big_price c r ≡ r.weight * base + digit (marker r) c.spot.pos * 1026 ^ (5 - marker r)
  unfolding held admits big_price key_at
  held_open z e = rw (ne_eqb _ _ z, e)

  held_shut : (r.kind ≡ 0 → ⊥) → allow (marker r) c.spot.pos ≡ false → held (least cap) allow big_price c r ≡ cap
  unfolding held admits
  held_shut z e = rw (ne_eqb _ _ z, e)

module _ (allow : ℕ → ℕ → Bool) (A : Automaton) where
  abbrev go_on : ℕ → Config → ℕ
  go_on m c = togo (least cap) step (held (least cap) allow big_price) (ending (least cap) (big_end A)) A.rows m c

  -- what a row does at a cell, said by the automaton
  abbrev does : ℕ → Config → Row → ℕ
  does m c r = after (least cap) step (held (least cap) allow big_price) (ending (least cap) (big_end A)) c r (go_on m) (step c r)

  module _ (ts : List (Option ℕ)) (p : ℕ) (tolls : Tolls allow p ts) (hp : p ≤ 1025) (last : Cells) (q u m : ℕ) (r : Row) (row : RightRow A.states A.vars r) (vars : A.vars ≤ 3) where
    -- a marker row's part is one step of it
    module _ (bs : List ℕ) (s : r.from ≡ q) (z : r.kind ≡ 0 → ⊥)
        (higher : move_of u (marker r) < 27 → last r.to (move_of u (marker r)) ≡ go_on m (at bs p r.to (move_of u (marker r)))) where
      six : marker r < 6
      six = right_marker row.label vars z

      carried : carries ts last q u r ≡ does m (at bs p q u) r
      unfolding carries step pass next after toll_of
      carried = go (dec_lt (move_of u (marker r)) 27) (allow (marker r) p) refl
        where
          toll_at : (t : Bool) → allow (marker r) p ≡ t → get_or ts (marker r) None ≡ cond t (Some (digit (marker r) p * 1026 ^ (5 - marker r))) None
          toll_at t e = rw e at (tolls.toll (marker r) six)

          go : Dec (move_of u (marker r) < 27) → (t : Bool) → allow (marker r) p ≡ t → carries ts last q u r ≡ does m (at bs p q u) r
          go (no h) t e = rw (eq-eqb _ _ s, ne_eqb _ _ z, le-ltb (move_of u (marker r)) 27 (omega arith))
          go (yes h) true e =
              rw (eq-eqb _ _ s, ne_eqb _ _ z, lt-ltb _ _ h, toll_at true e)
              (ap₂ (joint_to cap) (sym (held_open allow (at bs p q u) r z e)) (higher h))
          go (yes h) false e =
              rw (eq-eqb _ _ s, ne_eqb _ _ z, lt-ltb _ _ h, toll_at false e)
              (sym (ap (λ (x : ℕ). joint_to cap x (go_on m (at bs p r.to (move_of u (marker r))))) (held_shut allow (at bs p q u) r z e) ∙ none_joint _))

    -- a row from another state brings nothing
    apart : (bs : List ℕ) → (r.from ≡ q → ⊥) → cap ≡ does m (at bs p q u) r
    unfolding step pass after
    apart bs s = rw (ne_eqb _ _ s)

    -- at the line's end
    term_end : (move_of u (marker r) < 27 → (r.kind ≡ 0 → ⊥) → last r.to (move_of u (marker r)) ≡ go_on m (at [] p r.to (move_of u (marker r)))) → carries ts last q u r ≡ does m (at [] p q u) r
    unfolding step pass read_on after
    term_end higher = go (ℕ_discrete r.from q) (ℕ_discrete r.kind 0)
      where
        go : Dec (r.from ≡ q) → Dec (r.kind ≡ 0) → carries ts last q u r ≡ does m (at [] p q u) r
        go (no s) z = carries_apart ts last q u r s ∙ apart [] s
        go (yes s) (yes z) = carries_byte ts last q u r z ∙ rw (eq-eqb _ _ s, eq-eqb _ _ z)
        go (yes s) (no z) = carried [] s z (λ h. higher h z)

    -- a byte row's part
    module _ (b : ℕ) (bs : List ℕ) (old : Cells) (older : old r.to u ≡ go_on m (at bs (p + 1) r.to u)) (s : r.from ≡ q) (z : r.kind ≡ 0) where
      brought : (t : Bool) → reads (label_of r) b ≡ t → lighter_to cap (brings b old q u r) cap ≡ does m (at (b ∷ bs) p q u) r
      unfolding brings step pass read_on next after
      brought true e = rw (eq-eqb _ _ s, eq-eqb _ _ z, e) (joint_normal _ _ ∙ ap₂ (joint_to cap) (sym (held_byte allow (at (b ∷ bs) p q u) r z)) older)
      brought false e = rw (eq-eqb _ _ s, eq-eqb _ _ z, e) (cap_cap cap)

    -- before a byte
    term : (b : ℕ) (bs : List ℕ) (old : Cells) → old r.to u ≡ go_on m (at bs (p + 1) r.to u) → (move_of u (marker r) < 27 → (r.kind ≡ 0 → ⊥) → last r.to (move_of u (marker r)) ≡ go_on m (at (b ∷ bs) p r.to (move_of u (marker r)))) → lighter_to cap (brings b old q u r) (carries ts last q u r) ≡ does m (at (b ∷ bs) p q u) r
    term b bs old older higher = go (ℕ_discrete r.from q) (ℕ_discrete r.kind 0)
      where
        go : Dec (r.from ≡ q) → Dec (r.kind ≡ 0) → lighter_to cap (brings b old q u r) (carries ts last q u r) ≡ does m (at (b ∷ bs) p q u) r
        go (no s) z = ap₂ (lighter_to cap) (brings_apart b old q u r s) (carries_apart ts last q u r s) ∙ cap_cap cap ∙ apart (b ∷ bs) s
        go (yes s) (yes z) = ap (lighter_to cap (brings b old q u r)) (carries_byte ts last q u r z) ∙ brought b bs old older s z (reads (label_of r) b) refl
        go (yes s) (no z) = ap (λ (x : ℕ). lighter_to cap x (carries ts last q u r)) (brings_marker b old q u r z) ∙ carries_normal ts last q u r ∙ carried (b ∷ bs) s z (λ h. higher h z)

  -- what a marker brings where all variables are shut
  none_carried : (ts : List (Option ℕ)) (l : Cells) (q u : ℕ) (r : Row) → RightRow A.states A.vars r → A.vars ≤ 3 → u < 27 → had u ≡ 6 → carries ts l q u r ≡ cap
  none_carried ts l q u r row vars hu e = go (dec_lt (move_of u (marker r)) 27) (ℕ_discrete r.kind 0)
    where
      seven : (a w : ℕ) → a ≡ 6 → w ≡ suc a → w ≤ 6 → ⊥
      seven a w e up h = omega arith

      go : Dec (move_of u (marker r) < 27) → Dec (r.kind ≡ 0) → carries ts l q u r ≡ cap
      go h (yes z) = carries_byte ts l q u r z
      go (no h) (no z) = carries_out ts l q u r (omega arith)
      go (yes h) (no z) = absurd (seven (had u) _ e (move_had u (marker r) hu (right_marker row.label vars z) h) (had_le (move_of u (marker r))))

-- sums of the numbers that measure what is left
one_less : (m a w : ℕ) → a + suc m ≡ 6 → w ≡ suc a → w + m ≡ 6
one_less m a w e up = omega arith

none_more : (a w : ℕ) → a + 0 ≡ 6 → w ≡ suc a → w ≤ 6 → ⊥
none_more a w e up h = omega arith

whole : (a : ℕ) → a ≤ 6 → a + (6 - a) ≡ 6
whole a h = omega arith

fewer : (l a w : ℕ) → w ≡ suc a → w ≤ 6 → suc l + (6 - w) ≡ l + (6 - a)
fewer l a w e h = omega arith

suc_left : (l x : ℕ) → suc (l + x) ≡ suc l + x
suc_left l x = omega arith

zero_left : (x : ℕ) → x ≡ 0 + x
zero_left x = omega arith

module _ (allow : ℕ → ℕ → Bool) (A : Automaton) (vars : A.vars ≤ 3) (rows : All (RightRow A.states A.vars) A.rows) (ts : List (Option ℕ)) (p : ℕ) (tolls : Tolls allow p ts) (hp : p ≤ 1025) (mid last : Cells) (closed : Closed (begin A.vars) ts A.rows mid last) where
  module _ (bs : List ℕ) (b : ℕ) (old blank : Cells) (right : Right allow A bs (p + 1) old) (empty : (q u : ℕ) → q < A.states → u < 27 → blank q u ≡ cap) (relaxed : Relaxed (begin A.vars) b A.rows old blank mid) where
    body : (q u : ℕ) → q < A.states → begin A.vars ≤ u → u < 27 → ((t w : ℕ) → t < A.states → begin A.vars ≤ w → w < 27 → had w ≡ suc (had u) → last t w ≡ kernel (least cap) allow big_price (big_end A) A.rows (at (b ∷ bs) p t w)) → last q u ≡ kernel (least cap) allow big_price (big_end A) A.rows (at (b ∷ bs) p q u)
    unfolding kernel togo
    body q u hq hl hu ih =
        closed.cell q u hl hu
        ∙ ap (λ (z : ℕ). lighter_to cap z (sum (least cap) (carries ts last q u) A.rows)) (relaxed.cell q u hl hu ∙ ap (λ (z : ℕ). lighter_to cap z (sum (least cap) (brings b old q u) A.rows)) (empty q u hq hu) ∙ zero_sum (least cap) (brings b old q u) A.rows)
        ∙ sym (sum_plus (least cap) (brings b old q u) (carries ts last q u) A.rows)
        ∙ sum_ext_all (least cap) (RightRow A.states A.vars) _ (does allow A (length bs + (6 - had u)) (at (b ∷ bs) p q u)) A.rows rows (λ r f. term allow A ts p tolls hp last q u (length bs + (6 - had u)) r f vars b bs old (right.cell r.to u f.leads hl hu) (λ h z. higher r f h z))
        ∙ ap (λ (z : ℕ). go_on allow A z (at (b ∷ bs) p q u)) (suc_left (length bs) (6 - had u))
      where
        higher : (r : Row) → RightRow A.states A.vars r → move_of u (marker r) < 27 → (r.kind ≡ 0 → ⊥) → last r.to (move_of u (marker r)) ≡ go_on allow A (length bs + (6 - had u)) (at (b ∷ bs) p r.to (move_of u (marker r)))
        higher r f h z =
            let up : had (move_of u (marker r)) ≡ suc (had u) = move_had u (marker r) hu (right_marker f.label vars z) h in
            let rise : u < move_of u (marker r) = moves_up u (marker r) hu in
            ih r.to (move_of u (marker r)) f.leads (omega arith) h up
            ∙ ap (λ (z : ℕ). go_on allow A z (at (b ∷ bs) p r.to (move_of u (marker r)))) (fewer (length bs) (had u) (had (move_of u (marker r))) up (had_le (move_of u (marker r))))

    all_cells : (m q u : ℕ) → had u + m ≡ 6 → q < A.states → begin A.vars ≤ u → u < 27 → last q u ≡ kernel (least cap) allow big_price (big_end A) A.rows (at (b ∷ bs) p q u)
    all_cells zero q u e hq hl hu = body q u hq hl hu (λ t w ht hw hv up. absurd (none_more (had u) (had w) e up (had_le w)))
    all_cells (suc m) q u e hq hl hu = body q u hq hl hu (λ t w ht hw hv up. all_cells m t w (one_less m (had u) (had w) e up) ht hw hv)

    pub right_byte : Right allow A (b ∷ bs) p last
    right_byte = record { cell = λ q u hq hl hu. all_cells (6 - had u) q u (whole (had u) (had_le u)) hq hl hu }

  module _ (ended : (q u : ℕ) → q < A.states → u < 27 → mid q u ≡ cond (eqb u 26) (big_end A q) cap) where
    all_end : (m q u : ℕ) → had u + m ≡ 6 → q < A.states → begin A.vars ≤ u → u < 27 → last q u ≡ go_on allow A m (at [] p q u)
    unfolding togo ending big_end
    all_end zero q u e hq hl hu =
        closed.cell q u hl hu
        ∙ ap₂ (lighter_to cap) (ended q u hq hu) (sum_ext_all (least cap) (RightRow A.states A.vars) _ (λ (r : Row). cap) A.rows rows (λ r f. none_carried allow A ts last q u r f vars hu (six (had u) e)) ∙ sum_zero (least cap) A.rows)
        ∙ fit (eqb u 26)
      where
        six : (a : ℕ) → a + 0 ≡ 6 → a ≡ 6
        six a e = omega arith

        fit : (t : Bool) → lighter_to cap (cond t (big_end A q) cap) cap ≡ cond t (big_end A q) cap
        fit true = cut_cap (A.end q * base)
        fit false = cap_cap cap
    all_end (suc m) q u e hq hl hu =
        closed.cell q u hl hu
        ∙ ap (λ (z : ℕ). lighter_to cap z (sum (least cap) (carries ts last q u) A.rows)) (ended q u hq hu ∙ early (ℕ_discrete u 26))
        ∙ zero_sum (least cap) (carries ts last q u) A.rows
        ∙ sum_ext_all (least cap) (RightRow A.states A.vars) _ (does allow A m (at [] p q u)) A.rows rows
        (λ r f. term_end allow A ts p tolls hp last q u m r f vars
        (λ h z. let rise : u < move_of u (marker r) = moves_up u (marker r) hu in
        all_end m r.to (move_of u (marker r))
        (one_less m (had u) _ e (move_had u (marker r) hu (right_marker f.label vars z) h))
        f.leads
        (omega arith)
        h))
      where
        early : Dec (u ≡ 26) → cond (eqb u 26) (big_end A q) cap ≡ cap
        early (yes k) = let x : had 26 + suc m ≡ 6 = rw k at e in absurd (omega arith)
        early (no k) = rw (ne_eqb _ _ k)

    pub right_end : Right allow A [] p last
    unfolding kernel
    right_end = record { cell = λ q u hq hl hu. all_end (6 - had u) q u (whole (had u) (had_le u)) hq hl hu ∙ ap (λ (z : ℕ). go_on allow A z (at [] p q u)) (zero_left (6 - had u)) }
