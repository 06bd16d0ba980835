-- The texts of the examples are in the grammar, each with the tree that its card has.
--
-- Parsed c        the text of c is a pattern, with the tree of c
-- texts_parse     so it is with every card of the table
use Rattle.std.specs.Prelude.{◌≡◌, refl, true, ◌&&◌, List, [], ◌∷◌, ◌++◌, ℕ, ◌+◌, ◌*◌, ◌-◌, leb}
use Rattle.std.proofs.Common.{arith, leb-true}
use Rattle.basics.specs.Every.{and_true}
use Rattle.basics.specs.Lists.{All}
use Rattle.pattern.specs.Bytes.{byte_class, Digit}
use Rattle.pattern.specs.Grammar.{Pat, reads, charge, Pattern, lone, either, last, thence, with, Atom, plain, any, range, empty, group, named, Posts, none, starred, marked}
use Rattle.examples.specs.Cards.{Card, letter, toll, loop, choice, whole, again, empties, digits, examples}

pub record Parsed (c : Card) : Type 0 where
  pub is : Pattern c.vars c.text c.tree

digit : (c : ℕ) → (leb 48 c && leb c 57) ≡ true → Digit c
digit c e = let p = and_true (leb 48 c) (leb c 57) e in record { low = leb-true 48 c p.0; high = leb-true c 57 p.1 }

-- a weight mark #00c
tolled : {w : List ℕ} {a b : Pat} (c : ℕ) → (leb 48 c && leb c 57) ≡ true → Posts w (charge ((48 - 48) * 100 + (48 - 48) * 10 + (c - 48)) a) b
    → Posts (35 ∷ 48 ∷ 48 ∷ c ∷ w) a b
tolled c e p = marked (digit 48 refl) (digit 48 refl) (digit c e) p

sole : {k : ℕ} {u v : List ℕ} {a b : Pat} → Atom k u a → Posts v a b → Pattern k (u ++ v) b
sole x q = lone (last (with x q))

a : {k : ℕ} → Atom k (97 ∷ []) (reads 97 97)
unfolding byte_class
a = plain refl

decimal : {k : ℕ} → Atom k (91 ∷ 48 ∷ 45 ∷ 57 ∷ 93 ∷ []) (reads 48 57)
decimal = range {lo = 48} {hi = 57} (record { low = omega arith; high = omega arith }) (record { low = omega arith; high = omega arith }) (omega arith)

letter_parses : Parsed letter
letter_parses = record { is = sole a none }

toll_parses : Parsed toll
toll_parses = record { is = sole empty (tolled 55 refl none) }

loop_parses : Parsed loop
loop_parses = record { is = sole (group (sole a (tolled 50 refl none))) (starred (tolled 53 refl none)) }

choice_parses : Parsed choice
choice_parses = record { is = either (last (with a (tolled 51 refl none))) (sole a (tolled 49 refl none)) }

whole_parses : Parsed whole
whole_parses = record { is = sole (named {d = 49} (omega arith) (omega arith) (sole a (starred none))) none }

again_parses : Parsed again
again_parses = record { is = sole (group (sole (named {d = 49} (omega arith) (omega arith) (sole a none)) none)) (starred none) }

empties_parses : Parsed empties
empties_parses =
    record { is = lone (thence (with (named {d = 49} (omega arith) (omega arith) (sole empty none)) none) (last (with (named {d = 50} (omega arith) (omega arith) (sole empty none)) none))) }

digits_parses : Parsed digits
digits_parses =
    record {
      is =
          lone
          (thence (with any (starred none))
          (thence (with (named {d = 49} (omega arith) (omega arith) (lone (thence (with decimal none) (last (with decimal (starred none)))))) none)
          (last (with any (starred none)))));
    }

pub texts_parse : All Parsed examples
texts_parse = (letter_parses, (toll_parses, (loop_parses, (choice_parses, (whole_parses, (again_parses, (empties_parses, (digits_parses, tt))))))))
