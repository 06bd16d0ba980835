-- Where the pattern of a card stands in its text: the part from `from` up to `to` is the pattern.
--
-- Stands text K from to   there is a card of K variables, whose pattern is that part of the text
-- stands                  what the form of a card says of it
-- wrong_line              or which line is wrong
use Rattle.std.specs.Prelude.{◌≡◌, Result, Ok, Err, List, ◌∷◌, ◌++◌, ℕ, ◌+◌, ◌-◌, ◌≤◌, length, take, drop}
use Rattle.std.proofs.Common.{ap, ◌∙◌, subst, arith, length-append}
use Rattle.std.proofs.Math.Seq.{take-append_seam}
use Rattle.lines.specs.Ends.{lf}
use Rattle.refusal.specs.declared.CardLine.{CardLine}
use Rattle.card.specs.declared.Form.{Form}
use Rattle.card.specs.Form.{IsCard, FormOf, right}

pub record Stands (text : List ℕ) (K from to : ℕ) : Type 0 where
  pub pattern : List ℕ
  pub lines : List ℕ
  pub card : IsCard text K pattern lines
  pub ordered : from ≤ to
  pub within : to ≤ length text
  pub part : take (to - from) (drop from text) ≡ pattern

after : (text : List ℕ) (K : ℕ) (p l : List ℕ) → IsCard text K p l → drop 15 text ≡ p ++ lf ∷ l
after text K p l c = ap (drop 15) c.one.whole ∙ ap (drop 8) c.two.whole

long : (text : List ℕ) (K : ℕ) (p l : List ℕ) → IsCard text K p l → 15 + length p ≤ length text
long text K p l c = omega (arith, ap length c.one.whole, ap length c.two.whole, length-append p (lf ∷ l))

placed : (text : List ℕ) (K from to : ℕ) (p l : List ℕ) → IsCard text K p l → from ≡ 15 → to ≡ 15 + length p → Stands text K from to
placed text K from to p l c e f =
    record {
      pattern = p;
      lines = l;
      card = c;
      ordered = omega arith;
      within = omega (arith, long text K p l c);
      part = rw e (let g : to - 15 ≡ length p = omega arith in rw g (ap (take (length p)) (after text K p l c) ∙ take-append_seam p (lf ∷ l)));
    }

pub stands : {text : List ℕ} {r : Result Form CardLine} {f : Form} → r ≡ Ok f → FormOf text r → Stands text f.vars f.from f.to
stands {text} e a = is (subst (FormOf text) e a)
  where
    is : {f : Form} → FormOf text (Ok f) → Stands text f.vars f.from f.to
    is (right {K} {f} {t} p l c x y) = placed text K f t p l c x y

pub wrong_line : {text : List ℕ} {r : Result Form CardLine} {l : CardLine} → r ≡ Err l → FormOf text r → FormOf text (Err l)
wrong_line {text} e a = subst (FormOf text) e a
