-- The weight to go is the total over all runs: each list of rows that can be taken one after the other, reads the line and
-- settles the variables, with its markers where they are allowed.
--
-- stops S end s   what a run may stop with at a spot: at the line's end, its end price
-- next_pos p l     the position after the label l at position p
-- within          the markers of a list of labels stand where they are allowed
-- plain           what a list of rows weighs from a spot, settings aside
-- held_weight     settings, and a place for each marker, leave the runs that they should: the others weigh zero
-- kernel_runs     THE THEOREM, in any semiring
-- plain_chain     a list of rows weighs what it does as a chain where it spells the line, else zero
use Rattle.std.specs.Prelude.{◌≡◌, ◌&&◌, ◌||◌, eqb, ltb, length}
use Rattle.std.proofs.Math.Path.{refl, sym, ap}
use Rattle.std.proofs.Common.{◌∙◌, arith, ne_eqb}
use Rattle.std.proofs.Math.Bool.{Bool, true, false, cond}
use mathlib.Core.List.{List, [], ◌∷◌, map}
use Rattle.std.proofs.Math.Option.{Option, none, some}
use Prim.Native.Nat.{ℕ, suc, ◌+◌}
use Rattle.std.proofs.Math.Decide.{ℕ_discrete}
use Rattle.basics.specs.Lists.{lists}
use Rattle.weight.specs.Semiring.{Semi, sum}
use Rattle.weight.specs.Sums.{sum_ext}
use Rattle.weight.specs.Totals.{after, weight, total, total_togo}
use Rattle.marks.specs.Labels.{Label, is_byte, reads, spells}
use Rattle.setting.specs.Setting.{move_of, marker_of, settles}
use Rattle.table.specs.declared.Row.{Row}
use Rattle.table.specs.Table.{Automaton, label_of}
use Rattle.runs.specs.Runs.{Value, chain}
use Rattle.togo.specs.ToGo.{Spot, Config, marker, read_on, pass, next, both, step, admits, held, ending, rows_to_go, kernel, begun}

abbrev pub stop_at : (S : Semi) → S.W → List ℕ → S.W
stop_at S w [] = w
stop_at S w (b ∷ bs) = S.zero

unfoldable pub stops : (S : Semi) → (ℕ → S.W) → Spot → S.W
stops S end s = stop_at S (end s.state) s.rest

abbrev pub next_pos : ℕ → Label → ℕ
next_pos p l = cond (is_byte l) (p + 1) p

unfoldable pub within : (ℕ → ℕ → Bool) → ℕ → List Label → Bool
within allow p [] = true
within allow p (l ∷ ls) = (is_byte l || allow (marker_of l) p) && within allow (next_pos p l) ls

abbrev pub plain : (S : Semi) → (Spot → Row → S.W) → (ℕ → S.W) → List Row → Spot → S.W
plain S price end rs s = weight S pass price (stops S end) rs s

-- what a row that can be taken does: it leads to its state, and moves the position and the line together
pub record Passed (s : Spot) (r : Row) (d : Spot) : Type 0 where
  pub leads : d.state ≡ r.to
  pub at : d.pos ≡ next_pos s.pos (label_of r)
  pub left : length s.rest ≡ cond (is_byte (label_of r)) 1 0 + length d.rest

pub passed : (s : Spot) (r : Row) (d : Spot) → pass s r ≡ some d → Passed s r d
unfolding pass read_on
passed s r d e = let t = go (eqb r.from s.state) (is_byte (label_of r)) s.rest e in record { leads = t.0; at = t.1; left = t.2 }
  where
    Three : Bool → List ℕ → Type 0
    Three k bs = (d.state ≡ r.to) × (d.pos ≡ cond k (s.pos + 1) s.pos) × (length bs ≡ cond k 1 0 + length d.rest)

    on : (b : ℕ) (bs : List ℕ) (t : Bool) → cond t (some (record { rest = bs; pos = s.pos + 1; state = r.to })) none ≡ some d → Three true (b ∷ bs)
    on b bs true e = let q : bs ≡ d.rest = cc in (cc, cc, rw (← q) (omega arith))
    on b bs false e = let z : ◌≡◌ {A = ℕ} 0 1 = cc in absurd (omega arith)

    go : (f k : Bool) (bs : List ℕ) → cond f (cond k (read_on bs s.pos r) (some (record { rest = bs; pos = s.pos; state = r.to }))) none ≡ some d → Three k bs
    go false k bs e = let z : ◌≡◌ {A = ℕ} 0 1 = cc in absurd (omega arith)
    go true true [] e = let z : ◌≡◌ {A = ℕ} 0 1 = cc in absurd (omega arith)
    go true true (b ∷ bs) e = on b bs (reads (label_of r) b) e
    go true false bs e = let q : bs ≡ d.rest = cc in (cc, cc, rw (← q) (omega arith))

abbrev follow : (ℕ → Bool) → Option ℕ → Bool
follow f none = false
follow f (some u) = f u

settles_next : (r : Row) (rs : List Row) (u : ℕ) → settles u (map label_of (r ∷ rs)) ≡ follow (λ u. settles u (map label_of rs)) (next u r)
unfolding settles next
settles_next r rs u = go (is_byte (label_of r)) (ltb (move_of u (marker r)) 27)
  where
    go : (k t : Bool) → cond k (settles u (map label_of rs)) (cond t (settles (move_of u (marker r)) (map label_of rs)) false) ≡ follow (λ u. settles u (map label_of rs)) (cond k (some u) (cond t (some (move_of u (marker r))) none))
    go true t = refl
    go false true = refl
    go false false = refl

settles_none : (u : ℕ) → settles u [] ≡ eqb u 26
unfolding settles
settles_none u = refl

module _ (S : Semi) where
  pull : (a w s : Bool) (x y : S.W) → S.times (cond a x S.zero) (cond (w && s) y S.zero) ≡ cond ((a && w) && s) (S.times x y) S.zero
  pull true true true x y = refl
  pull true true false x y = S.times_zero x
  pull true false s x y = S.times_zero x
  pull false w s x y = S.times_comm S.zero (cond (w && s) y S.zero) ∙ S.times_zero (cond (w && s) y S.zero)

  zero_cond : (b : Bool) → S.zero ≡ cond b S.zero S.zero
  zero_cond true = refl
  zero_cond false = refl

  none_set : (b : Bool) (x : S.W) → S.zero ≡ cond (b && false) x S.zero
  none_set true x = refl
  none_set false x = refl

  pub ending_stops : (end : ℕ → S.W) (c : Config) → ending S end c ≡ cond (eqb c.setting 26) (stops S end c.spot) S.zero
  unfolding ending stops
  ending_stops end c = go c.spot.rest
    where
      go : (bs : List ℕ) → ending S end (record { spot = record { rest = bs; pos = c.spot.pos; state = c.spot.state }; setting = c.setting }) ≡ cond (eqb c.setting 26) (stop_at S (end c.spot.state) bs) S.zero
      go [] = refl
      go (b ∷ bs) = zero_cond (eqb c.setting 26)

  pub ending_normal : (end : ℕ → S.W) → ((q : ℕ) → S.plus S.zero (end q) ≡ end q) → (c : Config) → S.plus S.zero (ending S end c) ≡ ending S end c
  unfolding stops
  ending_normal end normal c = rw (ending_stops end c) (go (eqb c.setting 26) c.spot.state c.spot.rest)
    where
      go : (b : Bool) (q : ℕ) (bs : List ℕ) → S.plus S.zero (cond b (stop_at S (end q) bs) S.zero) ≡ cond b (stop_at S (end q) bs) S.zero
      go true q [] = normal q
      go true q (b ∷ bs) = S.zero_zero
      go false q bs = S.zero_zero

  -- a run ends only where all variables are shut, at the line's end
  pub ending_early : (end : ℕ → S.W) (c : Config) (k : ℕ) → rows_to_go c.spot.rest c.setting ≡ suc k → ending S end c ≡ S.zero
  unfolding stops
  ending_early end c k e = ending_stops end c ∙ go (ℕ_discrete c.setting 26) c.spot.rest e
    where
      go : Dec (c.setting ≡ 26) → (bs : List ℕ) → rows_to_go bs c.setting ≡ suc k → cond (eqb c.setting 26) (stop_at S (end c.spot.state) bs) S.zero ≡ S.zero
      go (yes h) [] e = let z : rows_to_go [] 26 ≡ suc k = rw h at e in absurd (omega arith)
      go (yes h) (b ∷ bs) e = sym (zero_cond (eqb c.setting 26))
      go (no h) bs e = rw (ne_eqb _ _ h)

module _ (S : Semi) (allow : ℕ → ℕ → Bool) (price : Spot → Row → S.W) (end : ℕ → S.W) where
  abbrev held_run : List Row → Config → S.W
  held_run rs c = weight S step (held S allow price) (ending S end) rs c

  abbrev as_run : List Row → Config → S.W
  as_run rs c = cond (within allow c.spot.pos (map label_of rs) && settles c.setting (map label_of rs)) (plain S price end rs c.spot) S.zero

  pub held_weight : (rs : List Row) (c : Config) → held_run rs c ≡ as_run rs c
  unfolding weight within step after held admits
  held_weight [] c = ending_stops S end c ∙ ap (λ (b : Bool). cond b (stops S end c.spot) S.zero) (sym (settles_none c.setting))
  held_weight (r ∷ rs) c = rw (settles_next r rs c.setting) (go (pass c.spot r) refl (next c.setting r) (held_weight rs))
    where
      A : Bool
      A = admits allow c.spot.pos r

      W : ℕ → Bool
      W p = within allow p (map label_of rs)

      T : ℕ → Bool
      T u = settles u (map label_of rs)

      X : Spot → S.W
      X d = plain S price end rs d

      go : (o : Option Spot) → pass c.spot r ≡ o → (s : Option ℕ) → ((d : Config) → held_run rs d ≡ as_run rs d)
          → after S step (held S allow price) (ending S end) c r (held_run rs) (both o s) ≡ cond ((A && W (next_pos c.spot.pos (label_of r))) && follow T s) (after S pass price (stops S end) c.spot r X o) S.zero
      go none e s ih = zero_cond S ((A && W (next_pos c.spot.pos (label_of r))) && follow T s)
      go (some d) e none ih = none_set S (A && W (next_pos c.spot.pos (label_of r))) _
      go (some d) e (some u) ih =
          rw (← (passed c.spot r d e).at) (ap (S.times (held S allow price c r)) (ih (record { spot = d; setting = u })) ∙ pull S A (W d.pos) (T u) (price c.spot r) (X d))

  pub kernel_runs : (rows : List Row) (bytes : List ℕ) (u : ℕ) → ((q : ℕ) → S.plus S.zero (end q) ≡ end q)
      → kernel S allow price end rows (begun bytes u) ≡ sum S (λ rs. cond (within allow 1 (map label_of rs) && settles u (map label_of rs)) (plain S price end rs (begun bytes u).spot) S.zero) (lists (rows_to_go bytes u) rows)
  unfolding kernel total
  kernel_runs rows bytes u normal =
      sym (total_togo S step (held S allow price) (ending S end) (ending_normal S end normal) rows (rows_to_go bytes u) (begun bytes u))
      ∙ sum_ext S _ _ (lists (rows_to_go bytes u) rows) (λ rs. held_weight rs (begun bytes u))

-- the runs of a table: what is left of them once they spell the line
module _ (S : Semi) (w : Value S) (A : Automaton) where
  abbrev row_price : Spot → Row → S.W
  row_price s r = w r.weight

  abbrev end_price : ℕ → S.W
  end_price q = w (A.end q)

  draw : (b : Bool) (x y : S.W) → S.times x (cond b y S.zero) ≡ cond b (S.times x y) S.zero
  draw true x y = refl
  draw false x y = S.times_zero x

  pub plain_chain : (rs : List Row) (s : Spot) → plain S row_price end_price rs s ≡ cond (spells (map label_of rs) s.rest) (chain S w A s.state rs) S.zero
  unfolding weight spells chain stops pass read_on after
  plain_chain [] s = go s.rest
    where
      go : (bs : List ℕ) → stop_at S (end_price s.state) bs ≡ cond (spells [] bs) (end_price s.state) S.zero
      go [] = refl
      go (b ∷ bs) = refl
  plain_chain (r ∷ rs) s = go (eqb r.from s.state) (is_byte (label_of r)) refl s.rest (plain_chain rs)
    where
      Rest : Spot → S.W
      Rest d = plain S row_price end_price rs d

      Is : Type 0
      Is = (d : Spot) → Rest d ≡ cond (spells (map label_of rs) d.rest) (chain S w A d.state rs) S.zero

      Goal : Bool → Bool → List ℕ → Type 0
      Goal f k bs =
          after S pass row_price (stops S end_price) s r Rest (cond f (cond k (read_on bs s.pos r) (some (record { rest = bs; pos = s.pos; state = r.to }))) none)
          ≡ cond (spells (map label_of (r ∷ rs)) bs) (cond f (S.times (w r.weight) (chain S w A r.to rs)) S.zero) S.zero

      on : (b : ℕ) (bs : List ℕ) → is_byte (label_of r) ≡ true → (t : Bool) → reads (label_of r) b ≡ t → Is → Goal true true (b ∷ bs)
      on b bs e true g ih = rw (e, g) (ap (S.times (w r.weight)) (ih _) ∙ draw (spells (map label_of rs) bs) (w r.weight) (chain S w A r.to rs))
      on b bs e false g ih = rw (e, g)

      go : (f k : Bool) → is_byte (label_of r) ≡ k → (bs : List ℕ) → Is → Goal f k bs
      go false k e bs ih = zero_cond S (spells (map label_of (r ∷ rs)) bs)
      go true true e [] ih = rw e
      go true true e (b ∷ bs) ih = on b bs e (reads (label_of r) b) refl ih
      go true false e [] ih = rw e (ap (S.times (w r.weight)) (ih _) ∙ draw (spells (map label_of rs) []) (w r.weight) (chain S w A r.to rs))
      go true false e (b ∷ bs) ih = rw e (ap (S.times (w r.weight)) (ih _) ∙ draw (spells (map label_of rs) (b ∷ bs)) (w r.weight) (chain S w A r.to rs))
