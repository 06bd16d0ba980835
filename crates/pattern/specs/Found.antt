-- METHOD. What a part of a text is found to be, from a place of the text s on.
--
-- Done G S k s at n a       from at up to n stands a G, whose tree is a; S holds of the byte at n, if there is one
-- Stuck G k s at p          the text from at up to p begins a G, and with the byte at p, if there is one, it begins none
-- Opened k s at n c wrap    from at up to n a bracket is opened, which the byte c closes; wrap makes its tree of its inside's
-- PostsDone s at n turn     from at up to n stand all the postfixes there are; turn is what they make of a tree
-- PostsStuck s at p         as Stuck, of postfixes
-- Marked s at n w           from at up to n stands a weight mark, of weight w
-- AtomStop ..               what the byte after an atom, a factor, a term, a pattern is not
use Rattle.std.specs.Prelude.{◌≡◌, true, false, List, [], ◌∷◌, ◌++◌, ℕ, ◌+◌, ◌≤◌, ◌<◌, length, get_or, eqb}
use Rattle.std.proofs.Math.Seq.{slice}
use Rattle.pattern.specs.Grammar.{Pat, charge, steps_of, nesting_of, Posts, Pattern, Atom}
use Rattle.pattern.specs.Machine.{Todo, Bracket, closing, wants, after, dead, opened, starts, run, done}

pub record Done (G : ℕ → List ℕ → Pat → Type 0) (S : ℕ → ℕ → Type 0) (k : ℕ) (s : List ℕ) (at n : ℕ) (a : Pat) : Type 0 where
  pub past : at < n
  pub within : n ≤ length s
  pub derives : G k (slice at n s) a
  pub few : at + steps_of a ≤ n
  pub shallow : at + nesting_of a ≤ n
  pub stops : n < length s → S k (get_or s n 0)

pub record Stuck (G : ℕ → List ℕ → Pat → Type 0) (k : ℕ) (s : List ℕ) (at p : ℕ) : Type 0 where
  pub from : at ≤ p
  pub within : p ≤ length s
  pub rest : List ℕ
  pub tree : Pat
  pub viable : G k (slice at p s ++ rest) tree
  pub dies : p < length s → (d : Todo) → run k (wants d) (slice at (p + 1) s) ≡ dead
  pub short : (d : Todo) → done (run k (wants d) (slice at p s)) ≡ false
  pub some : at < length s → starts k (get_or s at 0) ≡ true → at < p

pub record Opened (k : ℕ) (s : List ℕ) (at n c : ℕ) (wrap : Pat → Pat) : Type 0 where
  pub past : at < n
  pub within : n ≤ length s
  pub bracket : Bracket
  pub closes : c ≡ closing bracket
  pub makes : {w : List ℕ} {a : Pat} → Pattern k w a → Atom k (slice at n s ++ (w ++ closing bracket ∷ [])) (wrap a)
  pub opens : (d : Todo) → run k (wants d) (slice at n s) ≡ wants (opened d bracket wrap)
  pub few : (a : Pat) → at + steps_of (wrap a) ≤ n + 1 + steps_of a
  pub deepens : (a : Pat) → nesting_of (wrap a) ≡ 1 + nesting_of a

pub record PostsDone (s : List ℕ) (at n : ℕ) (turn : Pat → Pat) : Type 0 where
  pub past : at ≤ n
  pub within : n ≤ length s
  pub derives : (a : Pat) → Posts (slice at n s) a (turn a)
  pub counts : (a : Pat) → steps_of (turn a) ≡ steps_of a
  pub level : (a : Pat) → nesting_of (turn a) ≡ nesting_of a
  pub stops : n < length s → (eqb (get_or s n 0) 42 ≡ false) × (eqb (get_or s n 0) 35 ≡ false)

pub record PostsStuck (s : List ℕ) (at p : ℕ) : Type 0 where
  pub from : at ≤ p
  pub within : p ≤ length s
  pub rest : List ℕ
  pub tree : Pat → Pat
  pub viable : (a : Pat) → Posts (slice at p s ++ rest) a (tree a)
  pub dies : p < length s → (k : ℕ) (d : Todo) (a : Pat) → run k (after d a) (slice at (p + 1) s) ≡ dead
  pub short : (k : ℕ) (d : Todo) (a : Pat) → done (run k (after d a) (slice at p s)) ≡ false

abbrev pub AtomStop : ℕ → ℕ → Type 0
AtomStop k c = Unit {0}

abbrev pub FactorStop : ℕ → ℕ → Type 0
FactorStop k c = (eqb c 42 ≡ false) × (eqb c 35 ≡ false)

abbrev pub TermStop : ℕ → ℕ → Type 0
TermStop k c = (eqb c 42 ≡ false) × (eqb c 35 ≡ false) × (starts k c ≡ false)

abbrev pub PatternStop : ℕ → ℕ → Type 0
PatternStop k c = (eqb c 42 ≡ false) × (eqb c 35 ≡ false) × (starts k c ≡ false) × (eqb c 124 ≡ false)

pub record Marked (s : List ℕ) (at n w : ℕ) : Type 0 where
  pub past : at < n
  pub within : n ≤ length s
  pub joins : {v : List ℕ} {a b : Pat} → Posts v (charge w a) b → Posts (slice at n s ++ v) a b
  pub runs : (k : ℕ) (d : Todo) (a : Pat) → run k (after d a) (slice at n s) ≡ after d (charge w a)
