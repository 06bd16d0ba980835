-- MEANING. The grammar of a pattern: which text is which tree (01, "The pattern on the card"). k is the number of variables. Definitions only.
--
-- Pat               what a text says: a byte of a range is read, nothing is read, one or the other, one after the other, zero or more
--                   passes, a weight charged when what stands before it is left, a variable opened before and closed after, a group
-- steps_of a         the steps of a tree: the atoms that read a byte, and two for each capture
-- nesting_of a       the brackets of a tree open at once: groups and captures
-- Posts w a b       the postfixes w, from left to right, take the tree a to the tree b
-- Pattern k w a     the text w is a pattern, and a is its tree; so Term, Factor and Atom
use Rattle.std.specs.Prelude.{◌≡◌, List, [], ◌∷◌, ◌++◌, ℕ, ◌+◌, ◌*◌, ◌-◌, ◌≤◌, max}
use Rattle.pattern.specs.declared.Class.TheVariants.{Plain}
use Rattle.pattern.specs.Bytes.{byte_class, Shown, Digit}

pub data Pat : Type 0 where
  reads : ℕ → ℕ → Pat
  nothing : Pat
  alt : Pat → Pat → Pat
  cat : Pat → Pat → Pat
  star : Pat → Pat
  charge : ℕ → Pat → Pat
  capture : ℕ → Pat → Pat
  grouped : Pat → Pat

unfoldable pub steps_of : Pat → ℕ
steps_of (reads lo hi) = 1
steps_of nothing = 0
steps_of (alt a b) = steps_of a + steps_of b
steps_of (cat a b) = steps_of a + steps_of b
steps_of (star a) = steps_of a
steps_of (charge n a) = steps_of a
steps_of (capture v a) = 2 + steps_of a
steps_of (grouped a) = steps_of a

unfoldable pub nesting_of : Pat → ℕ
nesting_of (reads lo hi) = 0
nesting_of nothing = 0
nesting_of (alt a b) = max (nesting_of a) (nesting_of b)
nesting_of (cat a b) = max (nesting_of a) (nesting_of b)
nesting_of (star a) = nesting_of a
nesting_of (charge n a) = nesting_of a
nesting_of (capture v a) = 1 + nesting_of a
nesting_of (grouped a) = 1 + nesting_of a

pub data Posts : List ℕ → Pat → Pat → Type 0 where
  none : {a : Pat} → Posts [] a a
  starred : {w : List ℕ} {a b : Pat} → Posts w (star a) b → Posts (42 ∷ w) a b
  marked : {x y z : ℕ} {w : List ℕ} {a b : Pat} → Digit x → Digit y → Digit z
      → Posts w (charge ((x - 48) * 100 + (y - 48) * 10 + (z - 48)) a) b → Posts (35 ∷ x ∷ y ∷ z ∷ w) a b

mutual
  pub data Pattern (k : ℕ) : List ℕ → Pat → Type 0 where
    lone : {w : List ℕ} {a : Pat} → Term k w a → Pattern k w a
    either : {u v : List ℕ} {a b : Pat} → Term k u a → Pattern k v b → Pattern k (u ++ 124 ∷ v) (alt a b)

  pub data Term (k : ℕ) : List ℕ → Pat → Type 0 where
    last : {w : List ℕ} {a : Pat} → Factor k w a → Term k w a
    thence : {u v : List ℕ} {a b : Pat} → Factor k u a → Term k v b → Term k (u ++ v) (cat a b)

  pub data Factor (k : ℕ) : List ℕ → Pat → Type 0 where
    with : {u v : List ℕ} {a b : Pat} → Atom k u a → Posts v a b → Factor k (u ++ v) b

  pub data Atom (k : ℕ) : List ℕ → Pat → Type 0 where
    plain : {c : ℕ} → byte_class c ≡ Plain → Atom k (c ∷ []) (reads c c)
    escaped : {c : ℕ} → Shown c → Atom k (92 ∷ c ∷ []) (reads c c)
    any : Atom k (46 ∷ []) (reads 0 255)
    range : {lo hi : ℕ} → Shown lo → Shown hi → lo ≤ hi → Atom k (91 ∷ lo ∷ 45 ∷ hi ∷ 93 ∷ []) (reads lo hi)
    empty : Atom k (126 ∷ []) nothing
    group : {w : List ℕ} {a : Pat} → Pattern k w a → Atom k (40 ∷ (w ++ 41 ∷ [])) (grouped a)
    named : {d : ℕ} {w : List ℕ} {a : Pat} → 49 ≤ d → d ≤ 48 + k → Pattern k w a → Atom k (123 ∷ d ∷ 58 ∷ (w ++ 125 ∷ [])) (capture (d - 48) a)
