-- METHOD. The form of a card by places in its text, and that this is the form that Form.antt defines.
--
-- FirstRight text K       line 1 is right, by places
use Rattle.std.specs.Prelude.{◌≡◌, refl, Bool, true, false, nat_eq, Decides, Ok, Err, List, [], ◌∷◌, ◌++◌, ℕ, suc, ◌+◌, ◌-◌, ◌≤◌, ◌<◌, length, get_or, take, drop}
use Rattle.std.proofs.Common.{sym, ap, ◌∙◌, arith, length-append, take-append-drop, length-drop, drop-cons, get_or-drop, get_or-take, drop-drop, length-take-le, true≢false, get_or-append-add, ap₂, add-one, length-take, take-suc}
use Rattle.std.specs.List.{starts_with}
use Rattle.std.proofs.lemmas.Slice.Eq.{slice_eq-Decides}
use Rattle.std.proofs.lemmas.Bool.Decides.{Decides-eqb}
use Rattle.std.proofs.Math.Seq.{slice, length-slice, get_or-append_seam}
use Rattle.std.proofs.lemmas.List.{drop-append-le, take_all}
use Rattle.lines.specs.Ends.{EndsAt, lf}
use Rattle.refusal.specs.declared.CardLine.TheVariants.{First, Second}
use Rattle.card.specs.Form.{vars_key, pattern_key, LineOne, LineTwo, FormOf, right, wrong_one, wrong_two}

pub record FirstRight (text : List ℕ) (K : ℕ) : Type 0 where
  pub long : 7 ≤ length text
  pub key : take 5 (drop 0 text) ≡ vars_key
  pub digit : get_or text 5 0 ≡ 48 + K
  pub decimal : K ≤ 9
  pub ended : get_or text 6 0 ≡ lf

pub first_line : (text : List ℕ) (K : ℕ) → FirstRight text K → LineOne text K (drop 7 text)
first_line text K f =
    record {
      digit = f.decimal;
      whole =
          sym (take-append-drop 5 text)
          ∙ ap (λ (l : List ℕ). l ++ drop 5 text) f.key
          ∙ ap (λ (l : List ℕ). vars_key ++ l) (drop-cons text 5 0 (omega (arith, f.long)) ∙ ap (λ (l : List ℕ). get_or text 5 0 ∷ l) (drop-cons text 6 0 (omega (arith, f.long))))
          ∙ ap (λ (x : ℕ). vars_key ++ (x ∷ get_or text 6 0 ∷ drop 7 text)) f.digit
          ∙ ap (λ (x : ℕ). vars_key ++ ((48 + K) ∷ x ∷ drop 7 text)) f.ended;
    }

pub line_first : (text : List ℕ) (K : ℕ) (rest : List ℕ) → LineOne text K rest → FirstRight text K
line_first text K rest l = rw l.whole (record { long = omega arith; key = refl; digit = refl; decimal = l.digit; ended = refl })

-- from a place on, a text goes to its end
pub from_on : (n : ℕ) (l k : List ℕ) (r : Bool) → r ≡ starts_with nat_eq (take (length l - n) (drop n l)) k → r ≡ starts_with nat_eq (drop n l) k
from_on n l k r e = e ∙ ap (λ (m : List ℕ). starts_with nat_eq m k) (take_all (length l - n) (drop n l) (omega (arith, length-drop n l)))

-- what a key that was compared says
module _ (l k : List ℕ) (r : Bool) (e : r ≡ starts_with nat_eq l k) where
  decides : Decides r (take (length k) l ≡ k)
  decides = let d = slice_eq-Decides Decides-eqb k (take (length k) l) r e in ((λ t. sym (d.0 t)), λ g. d.1 (sym g))

  pub begun : r ≡ true → take (length k) l ≡ k
  begun t = decides.0 t

  pub not_begun : r ≡ false → take (length k) l ≡ k → ⊥
  not_begun f g = true≢false (sym (decides.1 g) ∙ f)

-- how two lists agree on more and more of their start
pub prefix_more : (l k : List ℕ) (i : ℕ) → i < length l → i < length k → take i l ≡ take i k → get_or l i 0 ≡ get_or k i 0 → take (i + 1) l ≡ take (i + 1) k
prefix_more l k i hl hk e g = rw (add-one, take-suc l i 0, take-suc k i 0) (ap₂ (λ (x : List ℕ) (y : ℕ). x ++ (y ∷ [])) e g)

pub prefix_not : (l k : List ℕ) (i : ℕ) → i < length k → (get_or l i 0 ≡ get_or k i 0 → ⊥) → take (length k) l ≡ k → ⊥
prefix_not l k i h f e = f (sym (get_or-take (length k) l i 0 h) ∙ ap (λ (x : List ℕ). get_or x i 0) e)

pub prefix_short : (l k : List ℕ) → length l < length k → take (length k) l ≡ k → ⊥
prefix_short l k h e = let g : length (take (length k) l) ≡ length k = ap length e in omega (arith, g, length-take (length k) l)

cut : (f t : ℕ) (l : List ℕ) → f ≤ t → t ≤ length l → drop f l ≡ slice f t l ++ drop t l
cut f t l p q =
    ap (drop f) (sym (take-append-drop t l)) ∙ drop-append-le f (take t l) (drop t l) (omega (arith, length-take-le t l q))

pub second_line : (text : List ℕ) (to : ℕ) → take 8 (drop 7 text) ≡ pattern_key → EndsAt text 15 to → to < length text → LineTwo (drop 7 text) (slice 15 to text) (drop (suc to) text)
second_line text to key e h =
    record {
      one_line = λ i g q. e.none (15 + i) (omega arith) (omega (arith, length-slice 15 to text e.within, e.from)) (at i (omega (arith, length-slice 15 to text e.within, e.from)) ∙ q);
      whole =
          sym (take-append-drop 8 (drop 7 text))
          ∙ ap (λ (l : List ℕ). l ++ drop 8 (drop 7 text)) key
          ∙ ap (λ (l : List ℕ). pattern_key ++ l) (drop-drop 8 7 text ∙ cut 15 to text e.from e.within ∙ ap (λ (l : List ℕ). slice 15 to text ++ l) (drop-cons text to 0 h ∙ ap (λ (x : ℕ). x ∷ drop (suc to) text) (e.here h)));
    }
  where
    at : (i : ℕ) → 15 + i < to → get_or text (15 + i) 0 ≡ get_or (slice 15 to text) i 0
    at i g = sym (get_or-drop 15 (take to text) i 0 ∙ get_or-take to text (15 + i) 0 g)

-- what a right second line shows
pub record Shown (text p : List ℕ) : Type 0 where
  pub key : take 8 (drop 7 text) ≡ pattern_key
  pub long : 15 + length p < length text
  pub ended : get_or text (15 + length p) 0 ≡ lf

pub line_second : (text p lines : List ℕ) → LineTwo (drop 7 text) p lines → Shown text p
line_second text p lines l =
    record {
      key = ap (take 8) l.whole;
      long = omega (arith, length-drop 7 text, ap length l.whole, length-append p (lf ∷ lines));
      ended = ap (λ (n : ℕ). get_or text n 0) (shift (length p)) ∙ sym (get_or-drop 7 text (8 + length p) 0) ∙ ap (λ (x : List ℕ). get_or x (8 + length p) 0) l.whole ∙ get_or-append-add pattern_key (p ++ lf ∷ lines) (length p) 0 ∙ get_or-append_seam p lf lines 0;
    }
  where
    shift : (n : ℕ) → 15 + n ≡ 7 + (8 + n)
    shift n = omega arith

-- a text with no LF after the key has no second line
pub no_line : (text p lines : List ℕ) (to : ℕ) → EndsAt text 15 to → length text ≤ to → LineTwo (drop 7 text) p lines → ⊥
no_line text p lines to e h l = let s = line_second text p lines l in e.none (15 + length p) (omega arith) (omega (arith, s.long)) s.ended

-- what a right line 1 shows, against what was seen
pub no_first : (text : List ℕ) → ((K : ℕ) → FirstRight text K → ⊥) → FormOf text (Err First)
no_first text f = wrong_one (λ K rest l. f K (line_first text K rest l))

pub no_second : (text : List ℕ) (K : ℕ) → FirstRight text K → ((p lines : List ℕ) → LineTwo (drop 7 text) p lines → ⊥) → FormOf text (Err Second)
no_second text K f g = wrong_two (drop 7 text) (first_line text K f) g

pub both_right : (text : List ℕ) (K to : ℕ) → FirstRight text K → take 8 (drop 7 text) ≡ pattern_key → EndsAt text 15 to → to < length text → FormOf text (Ok (record { vars = K; from = 15; to = to }))
both_right text K to f key e h =
    right {t = to} (slice 15 to text) (drop (suc to) text) (record { second = drop 7 text; one = first_line text K f; two = second_line text to key e h }) refl (omega (arith, length-slice 15 to text e.within, e.from))
