-- MEANING. Labels: what a row of a table, or a step of a text, does (01, "The table"). Definitions only.
--
-- Label               kind 0 reads one byte from lo to hi, argument lo × 256 + hi; kind 1 opens and kind 2 closes the
--                     variable named by the argument
-- RightLabel K k a    kind k and argument a are of one of these forms, with K variables
-- is_byte l            l reads a byte; else it is a marker
-- reads l b           the byte b is one that l reads
-- spells ls bs        the labels ls, one after another, read the bytes bs, all of them
-- kinds_of v ls        the kinds of the markers of variable v in ls, in their order
-- valid K ls          each of the variables 1 to K is opened once and closed once, not before it is opened
-- place_of k v p ls    the position at which ls, begun at position p, first has the marker of kind k of variable v; 0 if it has none
-- marked ls           the set that ls marks: the positions at which each variable is opened and closed
use Rattle.std.specs.Prelude.{Bool, true, false, cond, ◌&&◌, not, List, [], ◌∷◌, ℕ, zero, suc, ◌+◌, ◌/◌, ◌%◌, ◌≤◌, ◌<◌, leb, eqb}
use Rattle.basics.specs.Lists.{equal}
use Rattle.spans.specs.declared.Spans.{Spans}

pub record Label : Type 0 where
  pub kind : ℕ
  pub argument : ℕ

-- for kind 0, lo ≤ hi ≤ 255; for a marker, a variable from 1 to K
pub data RightLabel (K : ℕ) : ℕ → ℕ → Type 0 where
  byte : {arg : ℕ} → arg < 65536 → arg / 256 ≤ arg % 256 → RightLabel K 0 arg
  opens : {arg : ℕ} → 1 ≤ arg → arg ≤ K → RightLabel K 1 arg
  closes : {arg : ℕ} → 1 ≤ arg → arg ≤ K → RightLabel K 2 arg

abbrev pub is_byte : Label → Bool
is_byte l = eqb l.kind 0

unfoldable pub reads : Label → ℕ → Bool
reads l b = leb (l.argument / 256) b && leb b (l.argument % 256)

unfoldable pub spells : List Label → List ℕ → Bool
spells [] [] = true
spells [] (b ∷ bs) = false
spells (l ∷ ls) [] = not (is_byte l) && spells ls []
spells (l ∷ ls) (b ∷ bs) = cond (is_byte l) (reads l b && spells ls bs) (spells ls (b ∷ bs))

unfoldable pub kinds_of : ℕ → List Label → List ℕ
kinds_of v [] = []
kinds_of v (l ∷ ls) = cond (not (is_byte l) && eqb l.argument v) (l.kind ∷ kinds_of v ls) (kinds_of v ls)

unfoldable pub valid : ℕ → List Label → Bool
valid zero ls = true
valid (suc K) ls = equal (kinds_of (suc K) ls) (1 ∷ 2 ∷ []) && valid K ls

unfoldable pub place_of : ℕ → ℕ → ℕ → List Label → ℕ
place_of k v p [] = 0
place_of k v p (l ∷ ls) = cond (eqb l.kind k && eqb l.argument v) p (place_of k v (cond (is_byte l) (p + 1) p) ls)

unfoldable pub marked : List Label → Spans
marked ls =
    record {
      s1 = place_of 1 1 1 ls;
      e1 = place_of 2 1 1 ls;
      s2 = place_of 1 2 1 ls;
      e2 = place_of 2 2 1 ls;
      s3 = place_of 1 3 1 ls;
      e3 = place_of 2 3 1 ls;
    }
