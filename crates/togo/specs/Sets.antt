-- The weight of a set is the weight to go with each marker held to its place in the set, in every semiring.
--
-- Pinned t allow      the positions allowed are those of the set t
-- unused_zero         a set has 0 at the markers of the variables that are not used
-- pinned_same         a settled list of right labels stays within the places of a set exactly when it marks the set
-- set_togo            THE THEOREM
-- set_togo_weights    the same with weights
use Rattle.std.specs.Prelude.{◌≡◌, refl, Bool, true, false, cond, ◌&&◌, List, [], ◌∷◌, map, ℕ, zero, suc, ◌+◌, ◌-◌, ◌*◌, ◌/◌, ◌≤◌, ◌<◌, min, eqb, ltb, length}
use Rattle.std.proofs.Common.{sym, ap, ◌∙◌, arith, eqb-true, eq-eqb, ltb-true}
use Rattle.std.proofs.lemmas.Bool.{false≢true}
use Rattle.basics.specs.Every.{every, every_at}
use Rattle.basics.specs.Lists.{All, all_map, lists}
use Rattle.basics.specs.Members.{AllIn, lists_in}
use Rattle.weight.specs.Weight.{mark, lighter_to, joint_to}
use Rattle.weight.specs.Semiring.{Semi, sum}
use Rattle.weight.specs.Tropical.{tropical}
use Rattle.spans.specs.declared.Spans.{Spans}
use Rattle.spans.specs.Spans.{SetOfSpans, same}
use Rattle.spans.specs.Order.{same_true, same_refl}
use Rattle.marks.specs.Labels.{Label, spells, valid, marked}
use Rattle.setting.specs.Setting.{settles, begin}
use Rattle.setting.specs.Settled.{Settled, settle, settles_valid, begin_low, Right}
use Rattle.table.specs.declared.Row.{Row}
use Rattle.table.specs.Table.{Automaton, automaton_of, label_of, RightTable}
use Rattle.runs.specs.Runs.{Value, chain, set_weight, weight_of_set}
use Rattle.runs.specs.Rows.{marks, set_rows, sum_ext_in, zero_joint_fits}
use Rattle.togo.specs.ToGo.{Spot, had, rows_to_go, kernel, begun}
use Rattle.togo.specs.Price.{placed}
use Rattle.togo.specs.Runs.{within, plain, plain_chain}
use Rattle.togo.specs.Marks.{had_marker, place, no_place, within_places, places_within, placed_marked}
use Rattle.togo.specs.Right.{RightAutomaton, right_automaton, right_labels, kernel_runs_to}

abbrev pub Pinned : Spans → (ℕ → ℕ → Bool) → Type 0
Pinned t allow = (m p : ℕ) → m < 6 → allow m p ≡ eqb (placed t m) p

-- two sets with the same six numbers
pub placed_all : (a b : Spans) → ((m : ℕ) → m < 6 → placed a m ≡ placed b m) → a ≡ b
placed_all a b f = λ i. record { s1 = f 0 (omega arith) i; e1 = f 1 (omega arith) i; s2 = f 2 (omega arith) i; e2 = f 3 (omega arith) i; s3 = f 4 (omega arith) i; e3 = f 5 (omega arith) i }

-- the markers had in the setting to begin in are those of the variables that are not used
pub begin_had : (K m : ℕ) → K ≤ 3 → m < 6 → had_marker m (begin K) ≡ ltb K (suc (m / 2))
begin_had K m hK hm = eqs _ _ (every_at (λ m. alike (had_marker m (begin K)) (ltb K (suc (m / 2)))) 6 (every_at (λ K. every (λ m. alike (had_marker m (begin K)) (ltb K (suc (m / 2)))) 6) 4 refl K (omega arith)) m hm)
  where
    alike : Bool → Bool → Bool
    alike a b = cond a b (cond b false true)

    eqs : (a b : Bool) → alike a b ≡ true → a ≡ b
    eqs true true e = refl
    eqs true false e = absurd (false≢true e)
    eqs false true e = absurd (false≢true e)
    eqs false false e = refl

pub unused_zero : (K n : ℕ) (t : Spans) → K ≤ 3 → SetOfSpans K n t → (m : ℕ) → m < 6 → had_marker m (begin K) ≡ true → placed t m ≡ 0
unused_zero K n t hK s m hm o = go m hm (ltb-true _ _ (sym (begin_had K m hK hm) ∙ o))
  where
    go : (m : ℕ) → m < 6 → K < suc (m / 2) → placed t m ≡ 0
    go zero h u = (s.one.unused u).0
    go (suc zero) h u = (s.one.unused u).1
    go (suc (suc zero)) h u = (s.two.unused u).0
    go (suc (suc (suc zero))) h u = (s.two.unused u).1
    go (suc (suc (suc (suc zero)))) h u = (s.three.unused u).0
    go (suc (suc (suc (suc (suc zero))))) h u = (s.three.unused u).1
    go (suc (suc (suc (suc (suc (suc m)))))) h u = absurd (omega arith)

module _ (K n : ℕ) (t : Spans) (hK : K ≤ 3) (set : SetOfSpans K n t) (allow : ℕ → ℕ → Bool) (pins : Pinned t allow) where
  pub pinned_same : (ls : List Label) → All (Right K) ls → Settled (begin K) ls → within allow 1 ls ≡ same (marked ls) t
  pinned_same ls a s = go (within allow 1 ls) refl (same (marked ls) t) refl
    where
      each : (m : ℕ) → m < 6 → within allow 1 ls ≡ true → (o : Bool) → had_marker m (begin K) ≡ o → place m 1 ls ≡ placed t m
      each m hm e true o = no_place m hm s (begin_low K hK) o 1 ∙ sym (unused_zero K n t hK set m hm o)
      each m hm e false o = sym (eqb-true (placed t m) (place m 1 ls) (sym (pins m (place m 1 ls) hm) ∙ within_places allow m hm s (begin_low K hK) 1 e o))

      go : (a : Bool) → within allow 1 ls ≡ a → (b : Bool) → same (marked ls) t ≡ b → a ≡ b
      go true e b f = sym (same_refl (marked ls) t (placed_all (marked ls) t (λ m hm. placed_marked K ls a m hm ∙ each m hm e (had_marker m (begin K)) refl))) ∙ f
      go false e false f = refl
      go false e true f =
          sym e
          ∙ places_within allow s (begin_low K hK) 1
          (λ m hm o. pins m (place m 1 ls) hm ∙ eq-eqb _ _ (ap (λ (x : Spans). placed x m) (sym (same_true (marked ls) t f)) ∙ placed_marked K ls a m hm))

pub rows_left : (K : ℕ) (line : List ℕ) → K ≤ 3 → rows_to_go line (begin K) ≡ length line + 2 * K
rows_left K line hK = ap (λ (x : ℕ). length line + x) (eqb-true (6 - had (begin K)) (2 * K) (every_at (λ K. eqb (6 - had (begin K)) (2 * K)) 4 refl K (omega arith)))

-- which runs count, said by settings and by validity
module _ (S : Semi) (w : Value S) (A : Automaton) (right : RightAutomaton A) (line : List ℕ) (t : Spans) (set : SetOfSpans A.vars (length line) t) (allow : ℕ → ℕ → Bool) (pins : Pinned t allow) where
  abbrev start : Spot
  start = (begun line (begin A.vars)).spot

  one_run : (rs : List Row) → AllIn A.rows rs
      → cond (within allow 1 (map label_of rs) && settles (begin A.vars) (map label_of rs)) (plain S (λ s r. w r.weight) (λ q. w (A.end q)) rs start) S.zero ≡ cond (marks A line t rs) (chain S w A 0 rs) S.zero
  one_run rs i =
      ap (λ (x : S.W). cond (within allow 1 ls && settles (begin A.vars) ls) x S.zero) (plain_chain S w A rs start)
      ∙ go (settles (begin A.vars) ls) refl (spells ls line)
    where
      ls : List Label
      ls = map label_of rs

      a : All (Right A.vars) ls
      a = right_labels A right rs i

      v : settles (begin A.vars) ls ≡ valid A.vars ls
      v = settles_valid A.vars right.few ls a

      cases : (p b : Bool) (x : S.W) → cond (b && true) (cond p x S.zero) S.zero ≡ cond ((p && true) && b) x S.zero
      cases true true x = refl
      cases true false x = refl
      cases false true x = refl
      cases false false x = refl

      never : (p b c : Bool) (x y : S.W) → cond (b && false) x S.zero ≡ cond ((p && false) && c) y S.zero
      never true true c x y = refl
      never true false c x y = refl
      never false true c x y = refl
      never false false c x y = refl

      go : (s : Bool) → settles (begin A.vars) ls ≡ s → (p : Bool)
          → cond (within allow 1 ls && settles (begin A.vars) ls) (cond p (chain S w A 0 rs) S.zero) S.zero ≡ cond ((p && valid A.vars ls) && same (marked ls) t) (chain S w A 0 rs) S.zero
      go true e p = rw (← v, e, pinned_same A.vars (length line) t right.few set allow pins ls a (settle ls (begin A.vars) e)) (cases p (same (marked ls) t) (chain S w A 0 rs))
      go false e p = rw (← v, e) (never p (within allow 1 ls) (same (marked ls) t) (cond p (chain S w A 0 rs) S.zero) (chain S w A 0 rs))

  pub set_togo : ((x : S.W) → S.times (w mark) x ≡ S.zero)
      → ((rs : List Row) → AllIn A.rows rs → S.times (w 0) (chain S w A 0 rs) ≡ chain S w A 0 rs)
      → ((q : ℕ) → q < A.states → S.plus S.zero (w (A.end q)) ≡ w (A.end q))
      → set_weight S w A line t ≡ kernel S allow (λ s r. w r.weight) (λ q. w (A.end q)) A.rows (begun line (begin A.vars))
  set_togo none unit normal =
      set_rows S w A line t right.some_state right.first right.other none unit
      ∙ ap (λ (n : ℕ). sum S (λ rs. cond (marks A line t rs) (chain S w A 0 rs) S.zero) (lists n A.rows)) (sym (rows_left A.vars line right.few))
      ∙ sum_ext_in S _ _ (lists (rows_to_go line (begin A.vars)) A.rows) (λ rs i. sym (one_run rs (lists_in A.rows _ rs i).all))
      ∙ sym (kernel_runs_to S allow (λ s r. w r.weight) (λ q. w (A.end q)) A.rows line (begin A.vars) A.states right.some_state (all_map (λ r h. h.leads) A.rows right.rights) normal)

-- with weights
pub chain_low : (A : Automaton) → RightAutomaton A → (rs : List Row) → chain tropical (λ n. n) A 0 rs ≤ mark
unfolding chain joint_to
chain_low A h [] = h.ends 0 h.some_state
chain_low A h (r ∷ rs) = go (eqb r.from 0)
  where
    go : (b : Bool) → cond b (min mark (r.weight + chain tropical (λ n. n) A r.to rs)) mark ≤ mark
    go true = omega arith
    go false = omega arith

mark_joint : (x : ℕ) → joint_to mark mark x ≡ mark
unfolding joint_to
mark_joint x = omega arith

lighter_fits : (x : ℕ) → x ≤ mark → lighter_to mark mark x ≡ x
unfolding lighter_to
lighter_fits x h = omega arith

pub set_weights : (A : Automaton) → RightAutomaton A → (line : List ℕ) (t : Spans)
    → weight_of_set A line t ≡ sum tropical (λ rs. cond (marks A line t rs) (chain tropical (λ n. n) A 0 rs) mark) (lists (length line + 2 * A.vars) A.rows)
set_weights A h line t = set_rows tropical (λ n. n) A line t h.some_state h.first h.other mark_joint (λ rs i. zero_joint_fits _ (chain_low A h rs))

pub set_togo_weights : (ws : List ℕ) → RightTable ws → (line : List ℕ) (t : Spans) → SetOfSpans (automaton_of ws).vars (length line) t → (allow : ℕ → ℕ → Bool) → Pinned t allow
    → weight_of_set (automaton_of ws) line t ≡ kernel tropical allow (λ s r. r.weight) (automaton_of ws).end (automaton_of ws).rows (begun line (begin (automaton_of ws).vars))
set_togo_weights ws table line t set allow pins =
    let h = right_automaton ws table in
    set_togo tropical (λ n. n) (automaton_of ws) h line t set allow pins mark_joint (λ rs i. zero_joint_fits _ (chain_low (automaton_of ws) h rs)) (λ q l. lighter_fits ((automaton_of ws).end q) (h.ends q l))
