-- MEANING. The bench examples of 01 that have a star, as one table (01, "Bench examples"). Definitions only.
--
-- Said                what is said of a line: a reading, with its weight and its set of spans; or that there is none
-- Answered            a line, and what is said of it
-- Card                K, the text and its tree; the words that it compiles to and how many they are, the room that it wants; and lines
--                     with their answers. 01 prints the words of the first three cards
-- examples            THE TABLE
-- Within c            c keeps 01's limits: 255 bytes, 16 brackets open at once, 31 steps, three variables
-- Compiles c          the text of c is a pattern, the tree of c is its tree, c keeps the limits, and its compiled table is exactly
--                     the words of c
-- Says K text line s  s is what the text, by its own derivations, says of the line
-- Holds c             c compiles to its words, and each of its lines has its answer
use Rattle.std.specs.Prelude.{◌≡◌, List, [], ◌∷◌, ℕ, ◌≤◌, length}
use Rattle.basics.specs.Lists.{All}
use Rattle.weight.specs.Weight.{mark}
use Rattle.spans.specs.declared.Spans.{Spans}
use Rattle.spans.specs.Spans.{none}
use Rattle.table.specs.Table.{most_vars}
use Rattle.pattern.specs.Grammar.{Pat, reads, nothing, alt, cat, star, charge, capture, grouped, steps_of, nesting_of, Pattern}
use Rattle.pattern.specs.Best.{TextBest, TextNone}
use Rattle.layout.specs.Layout.{TableOf}

pub data Said : Type 0 where
  reading : ℕ → Spans → Said
  no_reading : Said

pub record Answered : Type 0 where
  pub line : List ℕ
  pub said : Said

pub record Card : Type 0 where
  pub vars : ℕ
  pub text : List ℕ
  pub tree : Pat
  pub words : List ℕ
  pub room : ℕ
  pub lines : List Answered

abbrev on : List ℕ → Said → Answered
on line said = record { line = line; said = said }

abbrev span : ℕ → ℕ → Spans
span s e = record { s1 = s; e1 = e; s2 = 0; e2 = 0; s3 = 0; e3 = 0 }

abbrev spans : ℕ → ℕ → ℕ → ℕ → Spans
spans s e u f = record { s1 = s; e1 = e; s2 = u; e2 = f; s3 = 0; e3 = 0 }

-- the byte `a`
abbrev a : Pat
a = reads 97 97

-- a
abbrev pub letter : Card
letter =
    record {
      vars = 0;
      text = 97 ∷ [];
      tree = a;
      words = 2 ∷ 0 ∷ 1 ∷ 4294967295 ∷ 0 ∷ 0 ∷ 1 ∷ 0 ∷ 24929 ∷ 0 ∷ [];
      room = 10;
      lines = [];
    }

-- ~#007
abbrev pub toll : Card
toll =
    record {
      vars = 0;
      text = 126 ∷ 35 ∷ 48 ∷ 48 ∷ 55 ∷ [];
      tree = charge 7 nothing;
      words = 1 ∷ 0 ∷ 0 ∷ 7 ∷ [];
      room = 4;
      lines = on [] (reading 7 none) ∷ on (97 ∷ []) no_reading ∷ [];
    }

-- (a#002)*#005
abbrev pub loop : Card
loop =
    record {
      vars = 0;
      text = 40 ∷ 97 ∷ 35 ∷ 48 ∷ 48 ∷ 50 ∷ 41 ∷ 42 ∷ 35 ∷ 48 ∷ 48 ∷ 53 ∷ [];
      tree = charge 5 (star (grouped (charge 2 a)));
      words = 2 ∷ 0 ∷ 2 ∷ 5 ∷ 7 ∷ 0 ∷ 1 ∷ 0 ∷ 24929 ∷ 0 ∷ 1 ∷ 1 ∷ 0 ∷ 24929 ∷ 2 ∷ [];
      room = 15;
      lines = on [] (reading 5 none) ∷ on (97 ∷ []) (reading 7 none) ∷ on (97 ∷ 97 ∷ []) (reading 9 none) ∷ [];
    }

-- a#003|a#001
abbrev pub choice : Card
choice =
    record {
      vars = 0;
      text = 97 ∷ 35 ∷ 48 ∷ 48 ∷ 51 ∷ 124 ∷ 97 ∷ 35 ∷ 48 ∷ 48 ∷ 49 ∷ [];
      tree = alt (charge 3 a) (charge 1 a);
      words = 3 ∷ 0 ∷ 2 ∷ mark ∷ 3 ∷ 1 ∷ 0 ∷ 1 ∷ 0 ∷ 24929 ∷ 0 ∷ 0 ∷ 2 ∷ 0 ∷ 24929 ∷ 0 ∷ [];
      room = 16;
      lines = on (97 ∷ []) (reading 1 none) ∷ [];
    }

-- {1:a*}
abbrev pub whole : Card
whole =
    record {
      vars = 1;
      text = 123 ∷ 49 ∷ 58 ∷ 97 ∷ 42 ∷ 125 ∷ [];
      tree = capture 1 (star a);
      words = 4 ∷ 1 ∷ 5 ∷ mark ∷ mark ∷ mark ∷ 0 ∷ 0 ∷ 1 ∷ 1 ∷ 1 ∷ 0 ∷ 1 ∷ 2 ∷ 0 ∷ 24929 ∷ 0 ∷ 1 ∷ 3 ∷ 2 ∷ 1 ∷ 0 ∷ 2 ∷ 2 ∷ 0 ∷ 24929 ∷ 0 ∷ 2 ∷ 3 ∷ 2 ∷ 1 ∷ 0 ∷ [];
      room = 32;
      lines = on (97 ∷ 97 ∷ []) (reading 0 (span 1 3)) ∷ on [] (reading 0 (span 1 1)) ∷ [];
    }

-- ({1:a})*
abbrev pub again : Card
again =
    record {
      vars = 1;
      text = 40 ∷ 123 ∷ 49 ∷ 58 ∷ 97 ∷ 125 ∷ 41 ∷ 42 ∷ [];
      tree = star (grouped (capture 1 a));
      words = 4 ∷ 1 ∷ 4 ∷ 0 ∷ mark ∷ mark ∷ 0 ∷ 0 ∷ 1 ∷ 1 ∷ 1 ∷ 0 ∷ 1 ∷ 2 ∷ 0 ∷ 24929 ∷ 0 ∷ 2 ∷ 3 ∷ 2 ∷ 1 ∷ 0 ∷ 3 ∷ 1 ∷ 1 ∷ 1 ∷ 0 ∷ [];
      room = 27;
      lines = on (97 ∷ []) (reading 0 (span 1 2)) ∷ on (97 ∷ 97 ∷ []) no_reading ∷ on [] no_reading ∷ [];
    }

-- {1:~}{2:~}
abbrev pub empties : Card
empties =
    record {
      vars = 2;
      text = 123 ∷ 49 ∷ 58 ∷ 126 ∷ 125 ∷ 123 ∷ 50 ∷ 58 ∷ 126 ∷ 125 ∷ [];
      tree = cat (capture 1 nothing) (capture 2 nothing);
      words = 5 ∷ 2 ∷ 4 ∷ mark ∷ mark ∷ mark ∷ mark ∷ 0 ∷ 0 ∷ 1 ∷ 1 ∷ 1 ∷ 0 ∷ 1 ∷ 2 ∷ 2 ∷ 1 ∷ 0 ∷ 2 ∷ 3 ∷ 1 ∷ 2 ∷ 0 ∷ 3 ∷ 4 ∷ 2 ∷ 2 ∷ 0 ∷ [];
      room = 28;
      lines = on [] (reading 0 (spans 1 1 1 1)) ∷ [];
    }

-- .*{1:[0-9][0-9]*}.*
abbrev pub digits : Card
digits =
    record {
      vars = 1;
      text = 46 ∷ 42 ∷ 123 ∷ 49 ∷ 58 ∷ 91 ∷ 48 ∷ 45 ∷ 57 ∷ 93 ∷ 91 ∷ 48 ∷ 45 ∷ 57 ∷ 93 ∷ 42 ∷ 125 ∷ 46 ∷ 42 ∷ [];
      tree = cat (star (reads 0 255)) (cat (capture 1 (cat (reads 48 57) (star (reads 48 57)))) (star (reads 0 255)));
      words =
          7 ∷ 1 ∷ 11 ∷ mark ∷ mark ∷ mark ∷ mark ∷ mark ∷ 0 ∷ 0
          ∷ 0 ∷ 1 ∷ 0 ∷ 255 ∷ 0
          ∷ 0 ∷ 2 ∷ 1 ∷ 1 ∷ 0
          ∷ 1 ∷ 1 ∷ 0 ∷ 255 ∷ 0
          ∷ 1 ∷ 2 ∷ 1 ∷ 1 ∷ 0
          ∷ 2 ∷ 3 ∷ 0 ∷ 12345 ∷ 0
          ∷ 3 ∷ 4 ∷ 0 ∷ 12345 ∷ 0
          ∷ 3 ∷ 5 ∷ 2 ∷ 1 ∷ 0
          ∷ 4 ∷ 4 ∷ 0 ∷ 12345 ∷ 0
          ∷ 4 ∷ 5 ∷ 2 ∷ 1 ∷ 0
          ∷ 5 ∷ 6 ∷ 0 ∷ 255 ∷ 0
          ∷ 6 ∷ 6 ∷ 0 ∷ 255 ∷ 0
          ∷ [];
      room = 65;
      lines = on (49 ∷ 50 ∷ 51 ∷ []) (reading 0 (span 1 2)) ∷ [];
    }

abbrev pub examples : List Card
examples = letter ∷ toll ∷ loop ∷ choice ∷ whole ∷ again ∷ empties ∷ digits ∷ []

pub record Within (c : Card) : Type 0 where
  pub short : length c.text ≤ 255
  pub shallow : nesting_of c.tree ≤ 16
  pub few_steps : steps_of c.tree ≤ 31
  pub few_vars : c.vars ≤ most_vars

pub record Compiles (c : Card) : Type 0 where
  pub parsed : Pattern c.vars c.text c.tree
  pub within : Within c
  pub table : TableOf c.vars c.tree c.words
  pub fills : length c.words ≡ c.room

abbrev pub Says : ℕ → List ℕ → List ℕ → Said → Type 0
Says K text line (reading w t) = TextBest K text line w t
Says K text line no_reading = TextNone K text line

pub record Holds (c : Card) : Type 0 where
  pub compiles : Compiles c
  pub answers : All (λ x. Says c.vars c.text x.line x.said) c.lines
