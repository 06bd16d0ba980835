-- METHOD. What the parser has put into the cells (c₀ before, c₁ after) and the labels (l₀ before, l₁ after).
--
-- Labelled ls o l₀ l₁     the labels ls stand from step o on, kind and argument of step p at 2p and 2p + 1, and what stood before them stands
-- Grown a o c₀ c₁ l₀ l₁ n the steps of a are numbered from o on, and there is room for them: its arcs and its labels are there; n is its
--                         weight for no step, room or not
-- Turned turn o mid ..    the same of what postfixes make of a tree, whose steps go from o up to mid
-- numbered k             the number of a kind, in the words of a table
-- Stepped o k v ..        a step of the kind with number k, and argument v
-- Entered o b .. r        the opening of the bracket b, with r steps: a group has none
-- Left o b st nul .. r    the closing of the bracket b, with an inside of st steps and weight nul for none; r is the weight of the whole
use Rattle.std.specs.Prelude.{◌≡◌, List, [], ◌∷◌, ℕ, ◌+◌, ◌*◌, ◌≤◌, ◌<◌, length, get_or}
use Rattle.weight.specs.Weight.{mark, joint}
use Rattle.marks.specs.Labels.{Label}
use Rattle.pattern.specs.Grammar.{Pat, steps_of}
use Rattle.pattern.specs.Derivations.{labels_of, nth_label}
use Rattle.arcs.specs.Tree.{tolls}
use Rattle.arcs.specs.Core.{core}
use Rattle.arcs.specs.Arcs.{arc}
use Rattle.grid.specs.Cells.{Leafed, Joined}
use Rattle.grid.specs.Grow.{Fresh, Built}
use Rattle.parser.specs.declared.Kind.{Kind}
use Rattle.parser.specs.declared.Kind.TheVariants.{Reads, Opens, Closes}
use Rattle.parser.specs.declared.Bracket.{Bracket}
use Rattle.parser.specs.declared.Bracket.TheVariants.{Group, Capture}

pub record Labelled (ls : List Label) (o : ℕ) (l₀ l₁ : List ℕ) : Type 0 where
  pub kinds : (i : ℕ) → i < length ls → get_or l₁ (2 * (o + i)) 0 ≡ (nth_label ls i).kind
  pub arguments : (i : ℕ) → i < length ls → get_or l₁ (2 * (o + i) + 1) 0 ≡ (nth_label ls i).argument
  pub before : (j : ℕ) → j < 2 * o → get_or l₁ j 0 ≡ get_or l₀ j 0

pub record Grown (a : Pat) (o : ℕ) (c₀ c₁ l₀ l₁ : List ℕ) (n : ℕ) : Type 0 where
  pub root : n ≡ arc (core a) o 0 0
  pub built : o + steps_of a ≤ 31 → tolls (core a) ≤ mark → Fresh o c₀ → Built (core a) o c₀ c₁ n
  pub labelled : o + steps_of a ≤ 31 → Labelled (labels_of a) o l₀ l₁

pub record Turned (turn : Pat → Pat) (o mid n : ℕ) (c₀ c₁ : List ℕ) (m : ℕ) : Type 0 where
  pub root : (a : Pat) → n ≡ arc (core a) o 0 0 → m ≡ arc (core (turn a)) o 0 0
  pub grows : (a : Pat) → tolls (core a) ≤ tolls (core (turn a))
  pub same : (a : Pat) → labels_of (turn a) ≡ labels_of a
  pub built : (a : Pat) (old : List ℕ) → o + steps_of a ≡ mid → tolls (core (turn a)) ≤ mark → Fresh o old → Built (core a) o old c₀ n → Built (core (turn a)) o old c₁ m

abbrev pub numbered : Kind → ℕ
numbered Reads = 0
numbered Opens = 1
numbered Closes = 2

pub record Stepped (o k v : ℕ) (c₀ c₁ l₀ l₁ : List ℕ) (n : ℕ) : Type 0 where
  pub root : n ≡ mark
  pub leaf : o < 31 → Leafed o c₀ c₁
  pub labelled : o < 31 → Labelled (record { kind = k; argument = v } ∷ []) o l₀ l₁

abbrev pub Entered : (o : ℕ) (b : Bracket) (c₀ c₁ l₀ l₁ : List ℕ) (r : ℕ) → Type 0
Entered o Group c₀ c₁ l₀ l₁ r = (r ≡ 0) × (c₁ ≡ c₀) × (l₁ ≡ l₀)
Entered o (Capture v) c₀ c₁ l₀ l₁ r = (r ≡ 1) × Stepped o 1 v c₀ c₁ l₀ l₁ mark

-- after the closing step, the inside joined to it, and the opening step to both
pub record Shut (o v st nul : ℕ) (c₀ c₁ l₀ l₁ : List ℕ) (r : ℕ) : Type 0 where
  pub one : List ℕ
  pub two : List ℕ
  pub closed : Stepped (o + 1 + st) 2 v c₀ one l₀ l₁ mark
  pub inner : Joined (o + 1) (o + 1 + st) nul mark one two
  pub outer : Joined o (o + 1) mark (joint nul mark) two c₁
  pub root : r ≡ joint mark (joint nul mark)

abbrev pub Left : (o : ℕ) (b : Bracket) (st nul : ℕ) (c₀ c₁ l₀ l₁ : List ℕ) (r : ℕ) → Type 0
Left o Group st nul c₀ c₁ l₀ l₁ r = (r ≡ nul) × (c₁ ≡ c₀) × (l₁ ≡ l₀)
Left o (Capture v) st nul c₀ c₁ l₀ l₁ r = Shut o v st nul c₀ c₁ l₀ l₁ r
