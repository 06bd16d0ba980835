-- METHOD. What the parser's functions find, by cases on their answers.
--
-- Fails P r         the refusal r is number 3, and P is so of its place
-- Reads k s at n arg a byte from at on, up to n, and arg says which may stand there
-- Heads, Opens      the head of an atom from at on: a byte is read, nothing is read, a bracket is opened; or the place at which there is none
-- Marks s at r      a weight mark from at on as a part with no step, or none
-- Stands, Parses    the part p is a G from at on, whose steps are numbered from o on, with what has grown; or the place at which there is none
-- Posts, Posted     the postfixes after the part p, with what they have turned and the part q with them; or the place at which they go wrong
-- Whole a ..        the cells and the labels are those of the pattern a, whose steps are numbered from 0 on
-- Answers k s ..    the text s is a pattern, so much of it is said, and the cells and labels are its own where it has at most 31 steps;
--                   or number 3 and its place
use Rattle.std.specs.Prelude.{◌≡◌, List, ℕ, ◌+◌, ◌*◌, ◌≤◌, ◌<◌, length, get_or, Result, Ok, Err, MatchResult}
use Rattle.parser.specs.declared.Part.{Part}
use Rattle.refusal.specs.declared.Refusal.{Refusal}
use Rattle.refusal.specs.declared.Refusal.TheVariants.{NoPattern}
use Rattle.parser.specs.declared.Head.{Head}
use Rattle.parser.specs.declared.Head.TheVariants.{Byte, Empty, Open}
use Rattle.pattern.specs.Grammar.{Pat, reads, nothing, steps_of, nesting_of, Atom, Pattern}
use Rattle.pattern.specs.Derivations.{labels_of, nth_label}
use Rattle.pattern.specs.Places.{Refused}
use Rattle.pattern.specs.Found.{Done, Stuck, Opened, PostsDone, PostsStuck, Marked, AtomStop}
use Rattle.arcs.specs.Exact.{arc_of}
use Rattle.grid.specs.Grow.{at}
use Rattle.parser.specs.Brackets.{closed_by, wrapped}
use Rattle.parser.specs.Grown.{Grown, Turned}

pub data Fails (P : ℕ → Type 0) : Refusal → Type 0 where
  fails : {place : ℕ} → P place → Fails P (NoPattern place)

pub record Reads (k : ℕ) (s : List ℕ) (at n arg : ℕ) : Type 0 where
  pub lo : ℕ
  pub hi : ℕ
  pub argument : arg ≡ lo * 256 + hi
  pub done : Done Atom AtomStop k s at n (reads lo hi)

abbrev pub Heads : ℕ → List ℕ → ℕ → Head → Type 0
Heads k s at (Byte n arg) = Reads k s at n arg
Heads k s at (Empty n) = Done Atom AtomStop k s at n nothing
Heads k s at (Open n b) = Opened k s at n (closed_by b) (wrapped b)

abbrev pub Opens : ℕ → List ℕ → ℕ → Result Head Refusal → Type 0
Opens k s at r = MatchResult r (Heads k s at) (Fails (Stuck Atom k s at))

abbrev pub Marks : List ℕ → ℕ → Result Part Refusal → Type 0
Marks s at r = MatchResult r (λ p. Marked s at p.next p.nul) (Fails (PostsStuck s at))

pub record Stands (G : ℕ → List ℕ → Pat → Type 0) (S : ℕ → ℕ → Type 0) (k : ℕ) (s : List ℕ) (at o : ℕ) (c₀ c₁ l₀ l₁ : List ℕ) (p : Part) : Type 0 where
  pub tree : Pat
  pub is : Done G S k s at p.next tree
  pub counts : p.steps ≡ steps_of tree
  pub depth : p.deep ≡ nesting_of tree
  pub grown : Grown tree o c₀ c₁ l₀ l₁ p.nul

abbrev pub Parses : (G : ℕ → List ℕ → Pat → Type 0) (S : ℕ → ℕ → Type 0) (k : ℕ) (s : List ℕ) (at o : ℕ) (c₀ c₁ l₀ l₁ : List ℕ) → Result Part Refusal → Type 0
Parses G S k s at o c₀ c₁ l₀ l₁ r = MatchResult r (Stands G S k s at o c₀ c₁ l₀ l₁) (Fails (Stuck G k s at))

pub record Posts (s : List ℕ) (o : ℕ) (p : Part) (c₀ c₁ : List ℕ) (q : Part) : Type 0 where
  pub turn : Pat → Pat
  pub is : PostsDone s p.next q.next turn
  pub same_steps : q.steps ≡ p.steps
  pub same_depth : q.deep ≡ p.deep
  pub turned : Turned turn o (o + p.steps) p.nul c₀ c₁ q.nul

abbrev pub Posted : (s : List ℕ) (o : ℕ) (p : Part) (c₀ c₁ : List ℕ) → Result Part Refusal → Type 0
Posted s o p c₀ c₁ r = MatchResult r (Posts s o p c₀ c₁) (Fails (PostsStuck s p.next))

pub record Whole (a : Pat) (cells labels : List ℕ) : Type 0 where
  pub arcs : (x y : ℕ) → 0 < x + y → x < 32 → y < 32 → at cells x y ≡ arc_of a x y
  pub kinds : (i : ℕ) → i < steps_of a → get_or labels (2 * i) 0 ≡ (nth_label (labels_of a) i).kind
  pub arguments : (i : ℕ) → i < steps_of a → get_or labels (2 * i + 1) 0 ≡ (nth_label (labels_of a) i).argument

pub record Read (k : ℕ) (s cells labels : List ℕ) (n st dp nul : ℕ) : Type 0 where
  pub tree : Pat
  pub parsed : Pattern k s tree
  pub all : n ≡ length s
  pub counts : st ≡ steps_of tree
  pub deep : dp ≡ nesting_of tree
  pub root : nul ≡ arc_of tree 0 0
  pub whole : steps_of tree ≤ 31 → Whole tree cells labels

pub data Answers (k : ℕ) (s cells labels : List ℕ) : Result Part Refusal → Type 0 where
  is_text : {p : Part} → Read k s cells labels p.next p.steps p.deep p.nul → Answers k s cells labels (Ok p)
  no_text : {p : ℕ} → Refused k s p → Answers k s cells labels (Err (NoPattern p))
