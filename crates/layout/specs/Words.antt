-- METHOD. The words of a table, from its arcs and its labels.
--
-- A x y               the arc from state x to state y; to 0, the end word of x. The mark where there is none
-- L p                 what step p does, p from 0
-- rows_of A L m        the rows of a table of m steps, by from, then by to
-- spread rs           the words of rows, five for each
-- words_of A L K m     the words of the table with K variables
-- table_words K a      the words of the table of the tree a
-- said, in_rows       a row is one of these exactly where there is an arc
-- end_at, rows_at     the end words and the rows, read back from the words
-- words_same          arcs and labels that are the same make the same words
use Rattle.std.specs.Prelude.{◌≡◌, Bool, cond, List, [], ◌∷◌, ◌++◌, get_or, drop}
use Rattle.std.proofs.Math.Path.{refl}
use Rattle.std.proofs.Common.{sym, ap, ap₂, ◌∙◌, append_assoc, drop_of_length-le, get_or-drop, drop-drop, drop_at, drop-cons, lt-ltb, ltb-true}
use Rattle.std.proofs.Math.Bool.{true, false}
use Prim.Native.Nat.{ℕ, zero, suc, ◌+◌, ◌*◌, ◌≤◌, ◌<◌}
use native.Mathlib.Omega.{arith}
use Rattle.std.proofs.Math.Dec.{ltb}
use Rattle.std.proofs.Math.ListN.{length, length-append}
use Rattle.basics.specs.Members.{In, first, none_in, lone_in}
use Rattle.weight.specs.Weight.{mark}
use Rattle.marks.specs.Labels.{Label}
use Rattle.table.specs.declared.Row.{Row}
use Rattle.table.specs.Table.{row_of_words, rows_from}
use Rattle.pattern.specs.Grammar.{Pat, steps_of}
use Rattle.pattern.specs.Derivations.{labels_of, nth_label}
use Rattle.arcs.specs.Exact.{arc_of}
use Rattle.layout.specs.Gather.{gather, in_gather, gather_in, gather_same, gather_few, ones_length, ones_at}

abbrev pub row_of : (ℕ → ℕ → ℕ) → (ℕ → Label) → ℕ → ℕ → Row
row_of A L x p = record { from = x; to = suc p; kind = (L p).kind; argument = (L p).argument; weight = A x (suc p) }

-- from state x to step p, where there is an arc
unfoldable pub arrow : (ℕ → ℕ → ℕ) → (ℕ → Label) → ℕ → ℕ → List Row
arrow A L x p = cond (ltb (A x (suc p)) mark) (row_of A L x p ∷ []) []

abbrev pub rows_for : (ℕ → ℕ → ℕ) → (ℕ → Label) → ℕ → ℕ → List Row
rows_for A L m x = gather (arrow A L x) m

abbrev pub rows_of : (ℕ → ℕ → ℕ) → (ℕ → Label) → ℕ → List Row
rows_of A L m = gather (rows_for A L m) (suc m)

abbrev pub ends_of : (ℕ → ℕ → ℕ) → ℕ → List ℕ
ends_of A n = gather (λ x. A x 0 ∷ []) n

unfoldable pub spread : List Row → List ℕ
spread [] = []
spread (r ∷ rs) = r.from ∷ r.to ∷ r.kind ∷ r.argument ∷ r.weight ∷ spread rs

unfoldable pub words_of : (ℕ → ℕ → ℕ) → (ℕ → Label) → ℕ → ℕ → List ℕ
words_of A L K m = suc m ∷ K ∷ length (rows_of A L m) ∷ (ends_of A (suc m) ++ spread (rows_of A L m))

abbrev pub table_words : ℕ → Pat → List ℕ
table_words K a = words_of (arc_of a) (nth_label (labels_of a)) K (steps_of a)

-- rows and their words
pub spread_length : (rs : List Row) → length (spread rs) ≡ 5 * length rs
unfolding spread
spread_length [] = refl
spread_length (r ∷ rs) = omega (arith, spread_length rs)

pub spread_append : (rs ss : List Row) → spread (rs ++ ss) ≡ spread rs ++ spread ss
unfolding spread
spread_append [] ss = refl
spread_append (r ∷ rs) ss = ap (λ (l : List ℕ). r.from ∷ r.to ∷ r.kind ∷ r.argument ∷ r.weight ∷ l) (spread_append rs ss)

-- what stands at a place behind which the words us stand
there : (ws us : List ℕ) (at j : ℕ) → drop at ws ≡ us → get_or ws (at + j) 0 ≡ get_or us j 0
there ws us at j e = sym (get_or-drop at ws j 0) ∙ ap (λ (l : List ℕ). get_or l j 0) e

pub rows_back : (ws : List ℕ) (at : ℕ) (rs : List Row) (rest : List ℕ) → drop at ws ≡ spread rs ++ rest → rows_from ws at (length rs) ≡ rs
unfolding spread rows_from
rows_back ws at [] rest e = refl
rows_back ws at (r ∷ rs) rest e =
    ap₂ ◌∷◌ (rowed (here at (omega arith) ∙ there ws _ at 0 e) (there ws _ at 1 e) (there ws _ at 2 e) (there ws _ at 3 e) (there ws _ at 4 e))
    (rows_back ws (at + 5) rs rest (sym (drop-drop 5 at ws) ∙ ap (drop 5) e))
  where
    here : (i : ℕ) → i ≡ at + 0 → get_or ws i 0 ≡ get_or ws (at + 0) 0
    here i e = ap (λ (j : ℕ). get_or ws j 0) e

    rowed : {a b c d e : ℕ} → get_or ws at 0 ≡ a → get_or ws (at + 1) 0 ≡ b → get_or ws (at + 2) 0 ≡ c → get_or ws (at + 3) 0 ≡ d → get_or ws (at + 4) 0 ≡ e → row_of_words ws at ≡ record { from = a; to = b; kind = c; argument = d; weight = e }
    rowed p q r s t = cc

word_on : (ws : List ℕ) (at next : ℕ) → next ≡ suc at → at < length ws → drop at ws ≡ get_or ws at 0 ∷ drop next ws
word_on ws at next e h = rw e (drop-cons ws at 0 h)

pub spread_back : (ws : List ℕ) (at n : ℕ) → length ws ≡ at + 5 * n → drop at ws ≡ spread (rows_from ws at n)
unfolding spread rows_from
spread_back ws at zero h = drop_of_length-le ws {i = at} (omega arith)
spread_back ws at (suc n) h =
    word_on ws at (at + 1) (omega arith) (omega arith)
    ∙ ap (λ (l : List ℕ). get_or ws at 0 ∷ l) (word_on ws (at + 1) (at + 2) (omega arith) (omega arith)
    ∙ ap (λ (l : List ℕ). get_or ws (at + 1) 0 ∷ l) (word_on ws (at + 2) (at + 3) (omega arith) (omega arith)
    ∙ ap (λ (l : List ℕ). get_or ws (at + 2) 0 ∷ l) (word_on ws (at + 3) (at + 4) (omega arith) (omega arith)
    ∙ ap (λ (l : List ℕ). get_or ws (at + 3) 0 ∷ l) (word_on ws (at + 4) (at + 5) (omega arith) (omega arith)
    ∙ ap (λ (l : List ℕ). get_or ws (at + 4) 0 ∷ l) (spread_back ws (at + 5) n (omega arith))))))

-- the rows of a table, one by one
module _ (A : ℕ → ℕ → ℕ) (L : ℕ → Label) (m : ℕ) where
  -- what a row says
  pub record Said (r : Row) : Type 0 where
    pub x : ℕ
    pub p : ℕ
    pub low : x < suc m
    pub under : p < m
    pub there : A x (suc p) < mark
    pub is : r ≡ row_of A L x p

  arrow_in : (x p : ℕ) (r : Row) → In r (arrow A L x p) → (A x (suc p) < mark) × (r ≡ row_of A L x p)
  unfolding arrow
  arrow_in x p r i = go (ltb (A x (suc p)) mark) refl i
    where
      go : (t : Bool) → ltb (A x (suc p)) mark ≡ t → In r (cond t (row_of A L x p ∷ []) []) → (A x (suc p) < mark) × (r ≡ row_of A L x p)
      go true e i = (ltb-true _ _ e, lone_in i)
      go false e i = absurd (none_in i)

  in_arrow : (x p : ℕ) → A x (suc p) < mark → In (row_of A L x p) (arrow A L x p)
  unfolding arrow
  in_arrow x p h = rw (lt-ltb _ _ h) first

  pub said : (r : Row) → In r (rows_of A L m) → Said r
  said r i =
      let s = gather_in (rows_for A L m) (suc m) r i in
      let t = gather_in (arrow A L s.at) m r s.stands in
      let e = arrow_in s.at t.at r t.stands in
      record { x = s.at; p = t.at; low = s.low; under = t.low; there = e.0; is = e.1 }

  pub in_rows : (x p : ℕ) → x < suc m → p < m → A x (suc p) < mark → In (row_of A L x p) (rows_of A L m)
  in_rows x p h g e = in_gather (rows_for A L m) (suc m) x _ h (in_gather (arrow A L x) m p _ g (in_arrow x p e))

  few_at : (x p : ℕ) → length (arrow A L x p) ≤ 1
  unfolding arrow
  few_at x p = go (ltb (A x (suc p)) mark)
    where
      go : (t : Bool) → length (cond t (row_of A L x p ∷ []) []) ≤ 1
      go true = omega arith
      go false = omega arith

  -- at most m from each state
  pub few_rows : length (rows_of A L m) ≤ m * suc m
  few_rows = gather_few (rows_for A L m) m (suc m) (λ x. (let h = gather_few (arrow A L x) 1 m (few_at x) in omega arith))

-- behind the first three words
three : (x : ℕ) → 3 + x ≡ suc (suc (suc x))
three x = omega arith

-- the words after each other
module _ (A : ℕ → ℕ → ℕ) (L : ℕ → Label) (K m : ℕ) where
  pub words_of_length : length (words_of A L K m) ≡ 3 + suc m + 5 * length (rows_of A L m)
  unfolding words_of
  words_of_length = omega (arith, length-append (ends_of A (suc m)) (spread (rows_of A L m)), ones_length (λ x. A x 0) (suc m), spread_length (rows_of A L m))

  module _ (rest : List ℕ) where
    pub end_at : (x d : ℕ) → x < suc m → get_or (words_of A L K m ++ rest) (3 + x) d ≡ A x 0
    unfolding words_of
    end_at x d h = rw (three, append_assoc) (ones_at (λ x. A x 0) (suc m) x d (spread (rows_of A L m) ++ rest) h)

    pub rows_at : rows_from (words_of A L K m ++ rest) (3 + suc m) (length (rows_of A L m)) ≡ rows_of A L m
    unfolding words_of
    rows_at = rows_back _ (3 + suc m) (rows_of A L m) rest (rw (three, append_assoc) (drop_at (ends_of A (suc m)) _ (suc m) (ones_length (λ x. A x 0) (suc m))))

-- arcs and labels that are the same up to m make the same words
module _ (A B : ℕ → ℕ → ℕ) (L M : ℕ → Label) (K m : ℕ) (arcs : (x y : ℕ) → x ≤ m → y ≤ m → A x y ≡ B x y) (labels : (p : ℕ) → p < m → L p ≡ M p) where
  arrow_same : (x p : ℕ) → x < suc m → p < m → arrow A L x p ≡ arrow B M x p
  unfolding arrow
  arrow_same x p h g = rw (arcs x (suc p) (omega arith) (omega arith), labels p g)

  rows_same : rows_of A L m ≡ rows_of B M m
  rows_same = gather_same _ _ (suc m) (λ x h. gather_same _ _ m (λ p g. arrow_same x p h g))

  ends_same : ends_of A (suc m) ≡ ends_of B (suc m)
  ends_same = gather_same _ _ (suc m) (λ x h. ap (λ (w : ℕ). w ∷ []) (arcs x 0 (omega arith) (omega arith)))

  pub words_same : words_of A L K m ≡ words_of B M K m
  unfolding words_of
  words_same = rw (rows_same, ends_same)
