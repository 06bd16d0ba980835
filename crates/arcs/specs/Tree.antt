-- METHOD. A pattern as a tree of steps and tolls, and its derivations.
--
-- Tree            a step with its kind and argument; a toll, charged where it is passed; nothing; and what is built of them
-- size a          the number of steps
-- tolls a         the sum of the tolls
-- leaves a        what the steps do, in their order
-- TreeDer a o t   t is a derivation of a, whose steps are numbered from o on
-- Derives a w c   some derivation has the steps w, and c is charged in it
-- Meets a x y c   in some derivation y comes directly after x, with c charged between
use Rattle.std.specs.Prelude.{◌≡◌, List, [], ◌∷◌, ◌++◌, ℕ, ◌+◌}
use Rattle.basics.specs.Members.{In}
use Rattle.marks.specs.Labels.{Label}
use Rattle.pattern.specs.Derivations.{Item, step, charged, steps, charges, gaps}

pub data Tree : Type 0 where
  leaf : ℕ → ℕ → Tree
  toll : ℕ → Tree
  empty : Tree
  alt : Tree → Tree → Tree
  cat : Tree → Tree → Tree
  star : Tree → Tree

unfoldable pub size : Tree → ℕ
size (leaf k v) = 1
size (toll n) = 0
size empty = 0
size (alt a b) = size a + size b
size (cat a b) = size a + size b
size (star a) = size a

unfoldable pub tolls : Tree → ℕ
tolls (leaf k v) = 0
tolls (toll n) = n
tolls empty = 0
tolls (alt a b) = tolls a + tolls b
tolls (cat a b) = tolls a + tolls b
tolls (star a) = tolls a

unfoldable pub leaves : Tree → List Label
leaves (leaf k v) = record { kind = k; argument = v } ∷ []
leaves (toll n) = []
leaves empty = []
leaves (alt a b) = leaves a ++ leaves b
leaves (cat a b) = leaves a ++ leaves b
leaves (star a) = leaves a

pub data TreeDer : Tree → ℕ → List Item → Type 0 where
  taken : {k v o : ℕ} → TreeDer (leaf k v) o (step o ∷ [])
  paid : {n o : ℕ} → TreeDer (toll n) o (charged n ∷ [])
  blank : {o : ℕ} → TreeDer empty o []
  left : {a b : Tree} {o : ℕ} {t : List Item} → TreeDer a o t → TreeDer (alt a b) o t
  right : {a b : Tree} {o : ℕ} {t : List Item} → TreeDer b (o + size a) t → TreeDer (alt a b) o t
  then : {a b : Tree} {o : ℕ} {t s : List Item} → TreeDer a o t → TreeDer b (o + size a) s → TreeDer (cat a b) o (t ++ s)
  stop : {a : Tree} {o : ℕ} → TreeDer (star a) o []
  pass : {a : Tree} {o : ℕ} {t s : List Item} → TreeDer a o t → TreeDer (star a) o s → TreeDer (star a) o (t ++ s)

pub record Derives (a : Tree) (w : List ℕ) (c : ℕ) : Type 0 where
  pub trace : List Item
  pub derived : TreeDer a 0 trace
  pub word : steps trace ≡ w
  pub cost : charges trace ≡ c

pub record Meets (a : Tree) (x y c : ℕ) : Type 0 where
  pub trace : List Item
  pub derived : TreeDer a 0 trace
  pub taken : In (record { from = x; to = y; total = c }) (gaps 0 0 trace)
