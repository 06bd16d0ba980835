-- What one cell becomes, and a loop that has done n of the cells.
--
-- Done f old n now    n cells done, each by the rule f, the others as they were
use mathlib.Core.Path.{◌≡◌, refl, ap, ap₂, ◌∙◌}
use mathlib.Core.List.{List}
use Prim.Native.Nat.{ℕ, ◌+◌, ◌*◌, ◌/◌, ◌%◌, ◌≤◌, ◌<◌, min}
use native.Mathlib.Omega.{arith}
use native.Mathlib.Decide.{ℕ_discrete, dec_lt}
use lib.ListN.{length, get_or, set, length-set}
use lib.Seq.{get_or-set_same, get_or-set_other}
use lib.Dec.{leb, ltb}
use borrow.Author.Tests.{le-leb}
use Rattle.weight.specs.Weight.{lighter, joint, mark, lighter_to, joint_to}
use Rattle.grid.specs.Grow.{flat}
use Rattle.grid.specs.Cells.{bridge, extra}

-- the cells of the first row and the first column are bridged by nothing
edge_column : (l : List ℕ) (lo hi next k : ℕ) → k % 32 ≡ 0 → bridge l lo hi next k ≡ mark
unfolding bridge
edge_column l lo hi next k e = rw (le-leb (k % 32) next (omega arith)) (flat (leb (k / 32) lo) (ltb hi (k / 32)))

edge_row : (l : List ℕ) (lo hi next k : ℕ) → k / 32 ≡ 0 → bridge l lo hi next k ≡ mark
unfolding bridge
edge_row l lo hi next k e = rw (le-leb (k / 32) lo (omega arith))

bridge_same : (l m : List ℕ) (lo hi next i : ℕ) → min mark (get_or l (i / 32 * 32) 0) ≡ min mark (get_or m (i / 32 * 32) 0) → min mark (get_or l (i % 32) 0) ≡ min mark (get_or m (i % 32) 0) → bridge l lo hi next i ≡ bridge m lo hi next i
unfolding bridge joint_to
bridge_same l m lo hi next i e f =
    let g : joint (get_or l (i / 32 * 32) 0) (get_or l (i % 32) 0) ≡ joint (get_or m (i / 32 * 32) 0) (get_or m (i % 32) 0) = omega arith in
    rw g

pub record Done (f : ℕ → ℕ) (old : List ℕ) (n : ℕ) (now : List ℕ) : Type 0 where
  pub long : length now ≡ length old
  pub done : (k : ℕ) → k < n → get_or now k 0 ≡ f k
  pub left : (k : ℕ) → n ≤ k → get_or now k 0 ≡ get_or old k 0

pub done_none : (f : ℕ → ℕ) (old : List ℕ) → Done f old 0 old
done_none f old = record { long = refl; done = λ k h. absurd (omega arith); left = λ k h. refl }

pub done_more : (f : ℕ → ℕ) (old : List ℕ) (n : ℕ) (now : List ℕ) (v : ℕ) → 1024 ≤ length old → n < 1024 → v ≡ f n → Done f old n now → Done f old (n + 1) (set now n v)
done_more f old n now v l h e d = record { long = length-set now n v ∙ d.long; done = λ k b. at k b (ℕ_discrete k n); left = λ k b. get_or-set_other now n k v 0 (omega arith) ∙ d.left k (omega arith) }
  where
    at : (k : ℕ) → k < n + 1 → Dec (k ≡ n) → get_or (set now n v) k 0 ≡ f k
    at k b (yes i) = rw i (get_or-set_same now n v 0 (omega (arith, d.long)) ∙ e)
    at k b (no i) = get_or-set_other now n k v 0 (omega arith) ∙ d.done k (omega arith)

abbrev pub link_rule : ℕ → ℕ → ℕ → List ℕ → ℕ → ℕ
link_rule lo hi next old k = lighter (get_or old k 0) (bridge old lo hi next k)

pub link_next : (lo hi next : ℕ) (old : List ℕ) (n : ℕ) (now : List ℕ) → Done (link_rule lo hi next old) old n now → lighter (get_or now n 0) (bridge now lo hi next n) ≡ link_rule lo hi next old n
unfolding lighter_to
link_next lo hi next old n now d = ap₂ lighter (d.left n (omega arith)) (bridge_same now old lo hi next n (same (n / 32 * 32) (edge_column old lo hi next (n / 32 * 32) (omega arith)) (dec_lt _ n)) (same (n % 32) (edge_row old lo hi next (n % 32) (omega arith)) (dec_lt _ n)))
  where
    same : (k : ℕ) → bridge old lo hi next k ≡ mark → Dec (k < n) → min mark (get_or now k 0) ≡ min mark (get_or old k 0)
    same k e (yes h) = let g : get_or now k 0 ≡ lighter (get_or old k 0) mark = d.done k h ∙ ap (lighter (get_or old k 0)) e in omega arith
    same k e (no h) = ap (min mark) (d.left k (omega arith))

abbrev pub raise_rule : ℕ → ℕ → ℕ → ℕ → ℕ → List ℕ → ℕ → ℕ
raise_rule lo hi ending next beginning old k = joint (get_or old k 0) (extra lo hi ending next beginning k)
