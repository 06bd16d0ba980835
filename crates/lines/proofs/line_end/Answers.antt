-- `lines::line_end` finds the LF that ends a line: the first from the place on. Assumes nothing.
use Rattle.std.proofs.Common.{◌≡◌, Bool, false, Some, None, ℕ, ◌+◌, ◌-◌, ◌≤◌, ◌<◌, List, length, get_or, drop, take, ◌==◌, sym, ap, ◌∙◌, arith, eqb-true, eq-eqb, true≢false, length-drop, get_or-drop}
use Rattle.std.specs.List.{position, position_or_len}
use Rattle.std.proofs.lemmas.Grind.{common_steps}
use Rattle.std.proofs.lemmas.List.{take_all}
use Rattle.std.proofs.lemmas.List.Quantifiers.{position-Some}
use Rattle.std.proofs.lemmas.List.Sums.{fails_before_first}
use Rattle.lines.specs.Ends.{EndsAt, lf}
use Rattle.lines.proofs.line_end.Goals as goal

abbrev is_lf : ℕ → Bool
is_lf b = b == lf

-- from a place on, a text goes to its end
rest : (l : List ℕ) (f : ℕ) → take (length l - f) (drop f l) ≡ drop f l
rest l f = take_all (length l - f) (drop f l) (omega (arith, length-drop f l))

-- no LF stands where none of what is left is one
plain : (l : List ℕ) (f n : ℕ) → ((k : ℕ) → k < n → is_lf (get_or (drop f l) k 0) ≡ false) → (i : ℕ) → f ≤ i → i < f + n → get_or l i 0 ≡ lf → ⊥
plain l f n g i h m q =
    true≢false (sym (eq-eqb _ _ (get_or-drop f l (i - f) 0 ∙ ap (λ (x : ℕ). get_or l x 0) back ∙ q)) ∙ g (i - f) (omega arith))
  where
    back : f + (i - f) ≡ i
    back = omega arith

found : (l : List ℕ) (f n : ℕ) → f ≤ length l → position is_lf (drop f l) ≡ Some n → EndsAt l f (f + n)
found l f n h e =
    let p = position-Some is_lf (drop f l) n 0 e in
    record {
      from = omega arith;
      within = omega (arith, p.0, length-drop f l);
      none = plain l f n p.2;
      here = λ m. sym (get_or-drop f l n 0) ∙ eqb-true _ _ p.1;
    }

missing : (l : List ℕ) (f : ℕ) → f ≤ length l → position is_lf (drop f l) ≡ None → EndsAt l f (length l)
missing l f h e =
    record {
      from = h;
      within = omega arith;
      none = λ i g m. plain l f (length l - f) (λ k j. fails_before_first is_lf (drop f l) k 0 (omega (arith, long, length-drop f l))) i g (omega arith);
      here = λ m. absurd (omega arith);
    }
  where
    long : length (drop f l) ≤ position_or_len is_lf (drop f l)
    long = grind (arith, common_steps)

pub returns-in-Some : goal.returns-in-Some
returns-in-Some c = found _ _ _ c.requires (ap (position is_lf) (sym (rest _ c.args.at)) ∙ sym c.first_lf.ensures ∙ c.in-Some.is)

pub returns-in-None : goal.returns-in-None
returns-in-None c = missing _ _ c.requires (ap (position is_lf) (sym (rest _ c.args.at)) ∙ sym c.first_lf.ensures ∙ c.in-None.is)
