-- METHOD. Arcs as 32 × 32 words, from x to y at x * 32 + y, and what each function does to them.
--
-- Cleared new         there are no arcs
-- Leafed o            the step after o is first and last, at no charge
-- bridge              what the cell i gets by way of the end of a step after lo up to hi and the beginning of a step after next
-- Linked lo hi next   each cell has become the lighter of itself and that
-- extra               what is charged more at the ends of the steps after lo up to hi, and at the beginnings of those after next
-- Raised              each cell has become the sum of itself and that
-- Joined o mid n m    linked and then raised: the part of the steps after o up to mid, and then the part of the steps after mid,
--                     where n and m are their weights for no step
use Rattle.std.specs.Prelude.{◌≡◌, cond, List, ℕ, ◌+◌, ◌*◌, ◌/◌, ◌%◌, ◌<◌, get_or, leb, ltb, eqb}
use Rattle.weight.specs.Weight.{lighter, joint, mark}

unfoldable pub bridge : List ℕ → ℕ → ℕ → ℕ → ℕ → ℕ
bridge l lo hi next i =
    cond (leb (i / 32) lo)
    mark
    (cond (ltb hi (i / 32)) mark (cond (leb (i % 32) next) mark (joint (get_or l (i / 32 * 32) 0) (get_or l (i % 32) 0))))

unfoldable pub extra : ℕ → ℕ → ℕ → ℕ → ℕ → ℕ → ℕ
extra lo hi ending next beginning i =
    cond (eqb (i % 32) 0)
    (cond (leb (i / 32) lo) 0 (cond (ltb hi (i / 32)) 0 ending))
    (cond (eqb (i / 32) 0) (cond (leb (i % 32) next) 0 beginning) 0)

pub record Cleared (new : List ℕ) : Type 0 where
  pub cell : (i : ℕ) → i < 1024 → get_or new i 0 ≡ mark

pub record Leafed (o : ℕ) (old new : List ℕ) : Type 0 where
  pub cell : (i : ℕ) → get_or new i 0 ≡ cond (eqb i (o + 1)) 0 (cond (eqb i ((o + 1) * 32)) 0 (get_or old i 0))

pub record Linked (lo hi next : ℕ) (old new : List ℕ) : Type 0 where
  pub cell : (i : ℕ) → i < 1024 → get_or new i 0 ≡ lighter (get_or old i 0) (bridge old lo hi next i)

pub record Raised (lo hi ending next beginning : ℕ) (old new : List ℕ) : Type 0 where
  pub cell : (i : ℕ) → i < 1024 → get_or new i 0 ≡ joint (get_or old i 0) (extra lo hi ending next beginning i)

pub record Joined (o mid n m : ℕ) (old new : List ℕ) : Type 0 where
  pub between : List ℕ
  pub link : Linked o mid mid old between
  pub raise : Raised o mid m mid n between new
