-- METHOD. A machine that reads a pattern byte by byte, and builds its tree. Where it is dead no text of the grammar goes on.
--
-- Todo, Frame       what waits for the tree that is being read: of the pattern, of the term, and the open brackets
-- St                what the machine has read of the text
-- starts k c        an atom begins with the byte c; begin is the machine's step there
-- step, run         the machine on one byte, and on a text
-- done s            a whole pattern stands, and no bracket is open
use Rattle.std.specs.Prelude.{Bool, true, false, cond, ◌&&◌, ◌||◌, List, [], ◌∷◌, ℕ, ◌+◌, ◌*◌, ◌-◌, leb, eqb}
use Rattle.pattern.specs.declared.Class.{Class}
use Rattle.pattern.specs.declared.Class.TheVariants.{Plain, Reserved, Illegal}
use Rattle.pattern.specs.Bytes.{byte_class, shown}
use Rattle.pattern.specs.Grammar.{Pat, reads, nothing, alt, cat, star, charge, capture, grouped}

-- round or curly
pub data Bracket : Type 0 where
  round curly : Bracket

abbrev pub closing : Bracket → ℕ
closing round = 41
closing curly = 125

-- an open bracket: the byte that closes it, what it makes of its inside, and what waits outside: of the pattern, of the term
pub record Frame : Type 0 where
  pub close : Bracket
  pub wrap : Pat → Pat
  pub outer : Pat → Pat
  pub before : Pat → Pat

-- what waits: of the pattern, of the term, and the open brackets
pub record Todo : Type 0 where
  pub outer : Pat → Pat
  pub before : Pat → Pat
  pub frames : List Frame

pub data St : Type 0 where
  wants : Todo → St  -- an atom is to come
  after : Todo → Pat → St  -- a factor stands
  esc : Todo → St  -- after \
  br1 : Todo → St  -- after [
  br2 : Todo → ℕ → St  -- after [lo
  br3 : Todo → ℕ → St  -- after [lo-
  br4 : Todo → ℕ → ℕ → St  -- after [lo-hi
  va1 : Todo → St  -- after {
  va2 : Todo → ℕ → St  -- after {d
  ch1 : Todo → Pat → St  -- after #
  ch2 : Todo → Pat → ℕ → St
  ch3 : Todo → Pat → ℕ → ℕ → St
  dead : St

abbrev pub opened : Todo → Bracket → (Pat → Pat) → Todo
opened d c f = record { outer = λ x. x; before = λ x. x; frames = record { close = c; wrap = f; outer = d.outer; before = d.before } ∷ d.frames }

-- the next factor of the term
abbrev pub more : Todo → Pat → Todo
more d a = record { outer = d.outer; before = λ x. d.before (cat a x); frames = d.frames }

-- the next term of the pattern
abbrev pub other : Todo → Pat → Todo
other d a = record { outer = λ x. d.outer (alt (d.before a) x); before = λ x. x; frames = d.frames }

abbrev pub special : ℕ → Todo → ℕ → St
special k d c =
    cond (eqb c 92) (esc d)
    (cond (eqb c 46) (after d (reads 0 255))
    (cond (eqb c 126) (after d nothing)
    (cond (eqb c 91) (br1 d)
    (cond (eqb c 40) (wants (opened d round grouped))
    (cond (eqb c 123 && leb 1 k) (va1 d) dead)))))

abbrev pub starting : Class → ℕ → Todo → ℕ → St
starting Plain k d c = after d (reads c c)
starting Reserved k d c = special k d c
starting Illegal k d c = dead

abbrev pub starts_by : Class → ℕ → ℕ → Bool
starts_by Plain k c = true
starts_by Reserved k c = eqb c 92 || (eqb c 46 || (eqb c 126 || (eqb c 91 || (eqb c 40 || (eqb c 123 && leb 1 k)))))
starts_by Illegal k c = false

-- whether an atom begins with c
abbrev pub starts : ℕ → ℕ → Bool
starts k c = starts_by (byte_class c) k c

-- an atom begins with c
abbrev pub begin : ℕ → Todo → ℕ → St
begin k d c = starting (byte_class c) k d c

abbrev pub shut : Todo → Pat → List Frame → ℕ → St → St
shut d a [] c s = s
shut d a (f ∷ fs) c s =
    cond (eqb c (closing f.close)) (after (record { outer = f.outer; before = f.before; frames = fs }) (f.wrap (d.outer (d.before a)))) s

abbrev pub follow : ℕ → Todo → Pat → ℕ → St
follow k d a c =
    cond (eqb c 42) (after d (star a))
    (cond (eqb c 35) (ch1 d a)
    (cond (eqb c 124) (wants (other d a))
    (shut d a d.frames c (begin k (more d a) c))))

abbrev pub digit : ℕ → Bool
digit c = leb 48 c && leb c 57

abbrev pub step : ℕ → St → ℕ → St
step k (wants d) c = begin k d c
step k (after d a) c = follow k d a c
step k (esc d) c = cond (shown c) (after d (reads c c)) dead
step k (br1 d) c = cond (shown c) (br2 d c) dead
step k (br2 d lo) c = cond (eqb c 45) (br3 d lo) dead
step k (br3 d lo) c = cond (shown c && leb lo c) (br4 d lo c) dead
step k (br4 d lo hi) c = cond (eqb c 93) (after d (reads lo hi)) dead
step k (va1 d) c = cond (leb 49 c && leb c (48 + k)) (va2 d c) dead
step k (va2 d v) c = cond (eqb c 58) (wants (opened d curly (capture (v - 48)))) dead
step k (ch1 d a) c = cond (digit c) (ch2 d a c) dead
step k (ch2 d a x) c = cond (digit c) (ch3 d a x c) dead
step k (ch3 d a x y) c = cond (digit c) (after d (charge ((x - 48) * 100 + (y - 48) * 10 + (c - 48)) a)) dead
step k dead c = dead

abbrev pub run : ℕ → St → List ℕ → St
run k s [] = s
run k s (c ∷ w) = run k (step k s c) w

abbrev pub bare : List Frame → Bool
bare [] = true
bare (f ∷ fs) = false

-- a whole pattern stands, and no bracket is open
abbrev pub done : St → Bool
done (wants d) = false
done (after d a) = bare d.frames
done (esc d) = false
done (br1 d) = false
done (br2 d x) = false
done (br3 d x) = false
done (br4 d x y) = false
done (va1 d) = false
done (va2 d x) = false
done (ch1 d a) = false
done (ch2 d a x) = false
done (ch3 d a x y) = false
done dead = false
