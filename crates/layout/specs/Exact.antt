-- The words of the least arcs are the exact table, and the exact table is one table.
--
-- exact_of            of any arcs that are the least totals of a tree
-- exact               of a text's arcs: for every text of at most 255 bytes
-- table_one           two tables of one tree are equal
use Rattle.std.specs.Prelude.{◌≡◌, refl, ◌⊎◌, Bool, cond, ltb, length, get_or, take}
use Rattle.std.proofs.Common.{sym, ap₂, ◌∙◌, inl, inr, arith, take-append-drop, get_or-take, ext_get_or, length-take-le}
use Rattle.std.proofs.Math.Path.{ap}
use Rattle.std.proofs.Math.Bool.{true, false}
use mathlib.Core.List.{List, [], ◌∷◌, ◌++◌, append-nil}
use Prim.Native.Nat.{ℕ, zero, suc, ◌+◌, ◌-◌, ◌≤◌, ◌<◌}
use Rattle.basics.specs.Lists.{All}
use Rattle.basics.specs.Members.{In, first, later, none_in, lone_in, cons_in, all_in, append_in}
use Rattle.weight.specs.Weight.{mark, Least}
use Rattle.weight.specs.Least.{least_one}
use Rattle.marks.specs.Labels.{Label}
use Rattle.table.specs.declared.Row.{Row}
use Rattle.table.specs.Table.{rows_from, label_of}
use Rattle.table.specs.Rows.{rows_length}
use Rattle.pattern.specs.Grammar.{Pat, Pattern, steps_of}
use Rattle.pattern.specs.Derivations.{labels_of, nth_label, Follows}
use Rattle.arcs.specs.Exact.{arc_of, layout, present, arc_inside}
use Rattle.layout.specs.Gather.{gather, in_all, gather_in}
use Rattle.layout.specs.Layout.{RowOf, Before, Rising, rows_in, Joins, TableOf}
use Rattle.layout.specs.Words.{row_of, arrow, rows_for, rows_of, words_of, spread, table_words, spread_back, Said, said, in_rows, words_of_length, end_at, rows_at}

-- rows one after another
rising_append : (rs ss : List Row) → Rising rs → Rising ss → ((r s : Row) → In r rs → In s ss → Before r s) → Rising (rs ++ ss)
rising_append [] ss h k f = k
rising_append (r ∷ rs) ss h k f = (in_all (Before r) (rs ++ ss) (λ s i. go s (append_in s rs ss i)), rising_append rs ss h.1 k (λ x y i j. f x y (later i) j))
  where
    go : (s : Row) → In s rs ⊎ In s ss → Before r s
    go s (inl i) = all_in (Before r) s rs h.0 i
    go s (inr i) = f r s first i

rising_gather : (f : ℕ → List Row) (n : ℕ) → ((i : ℕ) → Rising (f i)) → ((i j : ℕ) (r s : Row) → i < j → In r (f i) → In s (f j) → Before r s) → Rising (gather f n)
unfolding gather
rising_gather f zero h g = tt
rising_gather f (suc n) h g = rising_append (gather f n) (f n) (rising_gather f n h g) (h n) (λ r s i j. (let k = gather_in f n r i in g k.at n r s k.low k.stands j))

module _ (A : ℕ → ℕ → ℕ) (L : ℕ → Label) (m : ℕ) where
  arrow_is : (x p : ℕ) (r : Row) → In r (arrow A L x p) → (r.from ≡ x) × (r.to ≡ suc p)
  unfolding arrow
  arrow_is x p r i = go (ltb (A x (suc p)) mark) i
    where
      go : (t : Bool) → In r (cond t (row_of A L x p ∷ []) []) → (r.from ≡ x) × (r.to ≡ suc p)
      go true i = rw (lone_in i) (refl, refl)
      go false i = absurd (none_in i)

  arrow_rising : (x p : ℕ) → Rising (arrow A L x p)
  unfolding arrow
  arrow_rising x p = go (ltb (A x (suc p)) mark)
    where
      go : (t : Bool) → Rising (cond t (row_of A L x p ∷ []) [])
      go true = (tt, tt)
      go false = tt

  for_rising : (x : ℕ) → Rising (rows_for A L m x)
  for_rising x = rising_gather (arrow A L x) m (arrow_rising x) (λ p q r s h i j. (let e = arrow_is x p r i in let f = arrow_is x q s j in inr (omega arith, omega arith)))

  from_is : (x : ℕ) (r : Row) → In r (rows_for A L m x) → r.from ≡ x
  from_is x r i = let k = gather_in (arrow A L x) m r i in (arrow_is x k.at r k.stands).0

  rows_rising : Rising (rows_of A L m)
  rows_rising = rising_gather (rows_for A L m) (suc m) for_rising (λ x y r s h i j. inl (omega (arith, from_is x r i, from_is y s j)))

-- arcs that are the least totals of a tree
module _ (K : ℕ) (a : Pat) (A : ℕ → ℕ → ℕ)
    (least : (x y : ℕ) → Least (Follows a x y) (A x y))
    (there : (x y c : ℕ) → Follows a x y c → A x y < mark)
    (inside : (x y : ℕ) → A x y < mark → (x ≤ steps_of a) × (y ≤ steps_of a)) where
  abbrev L : ℕ → Label
  L = nth_label (labels_of a)

  abbrev m : ℕ
  m = steps_of a

  rows_are : rows_in a (words_of A L K m) ≡ rows_of A L m
  unfolding words_of
  rows_are = ap (λ (n : ℕ). rows_from (words_of A L K m) (3 + n) (length (rows_of A L m))) (omega arith) ∙ rw append-nil at (rows_at A L K m [])

  row_right : (r : Row) → Said A L m r → RowOf a r
  row_right r s = rw s.is (record { leaves = omega (arith, s.low); some = omega arith; leads = omega (arith, s.under); does = ap L (omega arith); light = s.there; least = least s.x (suc s.p) })

  step_of : (x y c : ℕ) → Follows a x y c → 1 ≤ y → Joins x y (rows_of A L m)
  step_of x zero c f h = absurd (omega arith)
  step_of x (suc p) c f h =
      let e = there x (suc p) c f in
      let i = inside x (suc p) e in
      record { row = row_of A L x p; stands = in_rows A L m x p (omega (arith, i.0)) (omega (arith, i.1)) e; leaves = refl; leads = refl }

  pub exact_of : TableOf K a (words_of A L K m)
  unfolding words_of
  exact_of =
      record {
        states = omega arith;
        vars = refl;
        long = omega (arith, words_of_length A L K m);
        ends = λ x h. rw (rw append-nil at (end_at A L K m [] x 0 (omega arith))) (least x 0);
        rows = rw rows_are (in_all (RowOf a) (rows_of A L m) (λ r i. row_right r (said A L m r i)));
        every = λ x y c f h. rw rows_are (step_of x y c f h);
        order = rw rows_are (rows_rising A L m);
      }

-- THE WORDS OF A TEXT'S ARCS ARE THE EXACT TABLE
pub exact : {K : ℕ} {s : List ℕ} {a : Pat} → Pattern K s a → length s ≤ 255 → TableOf K a (table_words K a)
exact {K} {s} {a} p h = exact_of K a (arc_of a) (layout p h) (present p h) (arc_inside a)

-- rows in a rising list stand in one order only
never_both : (r s : Row) → Before r s → Before s r → ⊥
never_both r s (inl h) (inl k) = omega arith
never_both r s (inl h) (inr k) = omega (arith, k.0)
never_both r s (inr h) (inl k) = omega (arith, h.0)
never_both r s (inr h) (inr k) = omega (arith, h.1, k.1)

same_head : (r s : Row) (rs ss : List Row) → All (Before r) rs → All (Before s) ss → In r (s ∷ ss) → In s (r ∷ rs) → r ≡ s
same_head r s rs ss h k i j = go (cons_in i) (cons_in j)
  where
    go : (r ≡ s) ⊎ In r ss → (s ≡ r) ⊎ In s rs → r ≡ s
    go (inl e) j = e
    go (inr i) (inl e) = sym e
    go (inr i) (inr j) = absurd (never_both r s (all_in (Before r) s rs h j) (all_in (Before s) r ss k i))

same_tail : (r s x : Row) (rs ss : List Row) → r ≡ s → All (Before r) rs → In x rs → In x (s ∷ ss) → In x ss
same_tail r s x rs ss e h i j = go (cons_in j)
  where
    go : (x ≡ s) ⊎ In x ss → In x ss
    go (inl f) = let b : Before r r = rw (f ∙ sym e) at (all_in (Before r) x rs h i) in absurd (never_both r r b b)
    go (inr k) = k

same_rows : (rs ss : List Row) → Rising rs → Rising ss → ((r : Row) → In r rs → In r ss) → ((s : Row) → In s ss → In s rs) → rs ≡ ss
same_rows [] [] h k f g = refl
same_rows [] (s ∷ ss) h k f g = absurd (none_in (g s first))
same_rows (r ∷ rs) [] h k f g = absurd (none_in (f r first))
same_rows (r ∷ rs) (s ∷ ss) h k f g =
    let e = same_head r s rs ss h.0 k.0 (f r first) (g s first) in
    ap₂ ◌∷◌ e (same_rows rs ss h.1 k.1 (λ x i. same_tail r s x rs ss e h.0 i (f x (later i))) (λ x i. same_tail s r x ss rs (sym e) k.0 i (g x (later i))))

rowed : {a b c d e f g h i j : ℕ} → a ≡ f → b ≡ g → c ≡ h → d ≡ i → e ≡ j
    → ◌≡◌ {A = Row} (record { from = a; to = b; kind = c; argument = d; weight = e }) (record { from = f; to = g; kind = h; argument = i; weight = j })
rowed p q r s t = cc

-- there is one row of a table for two states
row_one : (a : Pat) (r s : Row) → RowOf a r → RowOf a s → r.from ≡ s.from → r.to ≡ s.to → r ≡ s
row_one a r s p q e f =
    let l : label_of r ≡ label_of s = p.does ∙ ap (λ (n : ℕ). nth_label (labels_of a) (n - 1)) f ∙ sym q.does in
    let w : r.weight ≡ s.weight = least_one (Follows a r.from r.to) _ _ p.least (rw (← e, ← f) at q.least) in
    let k : r.kind ≡ s.kind = ap (λ (l : Label). l.kind) l in
    let g : r.argument ≡ s.argument = ap (λ (l : Label). l.argument) l in
    rowed e f k g w

-- THE EXACT TABLE IS ONE TABLE
module _ {K : ℕ} {a : Pat} where
  rows_within : {ws vs : List ℕ} → TableOf K a ws → TableOf K a vs → (r : Row) → In r (rows_in a ws) → In r (rows_in a vs)
  rows_within {ws} {vs} t u r i =
      let o = all_in (RowOf a) r (rows_in a ws) t.rows i in
      let j = u.every r.from r.to r.weight (o.least.attained o.light) o.some in
      let e = row_one a j.row r (all_in (RowOf a) j.row (rows_in a vs) u.rows j.stands) o j.leaves j.leads in
      rw e at j.stands

  rows_one : {ws vs : List ℕ} → TableOf K a ws → TableOf K a vs → rows_in a ws ≡ rows_in a vs
  rows_one {ws} {vs} t u = same_rows (rows_in a ws) (rows_in a vs) t.order u.order (rows_within t u) (rows_within u t)

  count_one : {ws vs : List ℕ} → TableOf K a ws → TableOf K a vs → get_or ws 2 0 ≡ get_or vs 2 0
  count_one {ws} {vs} t u = sym (rows_length ws (3 + (steps_of a + 1)) (get_or ws 2 0)) ∙ ap length (rows_one t u) ∙ rows_length vs (3 + (steps_of a + 1)) (get_or vs 2 0)

  front_at : {ws vs : List ℕ} → TableOf K a ws → TableOf K a vs → (i : ℕ) → i < 3 + (steps_of a + 1) → get_or ws i 0 ≡ get_or vs i 0
  front_at t u zero h = t.states ∙ sym u.states
  front_at t u (suc zero) h = t.vars ∙ sym u.vars
  front_at t u (suc (suc zero)) h = count_one t u
  front_at {ws} {vs} t u (suc (suc (suc x))) h =
      let e : 3 + x ≡ suc (suc (suc x)) = omega arith in
      let g : x ≤ steps_of a = omega arith in
      rw e at (least_one (Follows a x 0) _ _ (t.ends x g) (u.ends x g))

  front : {ws vs : List ℕ} → TableOf K a ws → TableOf K a vs → take (3 + (steps_of a + 1)) ws ≡ take (3 + (steps_of a + 1)) vs
  front {ws} {vs} t u =
      let f = length-take-le (3 + (steps_of a + 1)) ws (omega (arith, t.long)) in
      let g = length-take-le (3 + (steps_of a + 1)) vs (omega (arith, u.long)) in
      ext_get_or 0 _ _ (f ∙ sym g) (λ i h. get_or-take (3 + (steps_of a + 1)) ws i 0 (omega arith) ∙ front_at t u i (omega arith) ∙ sym (get_or-take (3 + (steps_of a + 1)) vs i 0 (omega arith)))

  pub table_one : {ws vs : List ℕ} → TableOf K a ws → TableOf K a vs → ws ≡ vs
  table_one {ws} {vs} t u =
      sym (take-append-drop (3 + (steps_of a + 1)) ws)
      ∙ ap₂ ◌++◌ (front t u) (spread_back ws _ _ t.long ∙ ap spread (rows_one t u) ∙ sym (spread_back vs _ _ u.long))
      ∙ take-append-drop (3 + (steps_of a + 1)) vs
