-- A text begins with one card, and has one form: two answers that satisfy the contract of form_of are equal.
--
-- card_one        one K, one pattern, one rest
-- form_one        one answer
use Rattle.std.specs.Prelude.{◌≡◌, refl, Result, List, [], ◌∷◌, ◌++◌, ℕ, suc, ◌<◌, length, get_or, drop}
use Rattle.std.proofs.Common.{sym, ap, ap₂, ◌∙◌, arith}
use Rattle.lines.specs.Ends.{lf}
use Rattle.refusal.specs.declared.CardLine.{CardLine}
use Rattle.card.specs.declared.Form.{Form}
use Rattle.card.specs.Form.{LineOne, LineTwo, IsCard, FormOf, right, wrong_one, wrong_two}
use Rattle.card.specs.Bytes.{line_first}

-- none of the bytes is LF
abbrev Plain : List ℕ → Type 0
Plain p = (i : ℕ) → i < length p → get_or p i 0 ≡ lf → ⊥

tail_plain : (x : ℕ) (p : List ℕ) → Plain (x ∷ p) → Plain p
tail_plain x p f i h = f (suc i) (omega arith)

head_same : {x y : ℕ} {u v : List ℕ} → x ∷ u ≡ y ∷ v → x ≡ y
head_same e = cc

tail_same : {x y : ℕ} {u v : List ℕ} → x ∷ u ≡ y ∷ v → u ≡ v
tail_same e = cc

-- the first LF parts a text in one way
parted : (p q l m : List ℕ) → Plain p → Plain q → p ++ lf ∷ l ≡ q ++ lf ∷ m → (p ≡ q) × (l ≡ m)
parted [] [] l m f g e = (refl, tail_same e)
parted [] (y ∷ q) l m f g e = absurd (g 0 (omega arith) (sym (head_same e)))
parted (x ∷ p) [] l m f g e = absurd (f 0 (omega arith) (head_same e))
parted (x ∷ p) (y ∷ q) l m f g e =
    let r = parted p q l m (tail_plain x p f) (tail_plain y q g) (tail_same e) in
    (ap₂ ◌∷◌ (head_same e) r.0, r.1)

pub line_one_one : (text : List ℕ) (K J : ℕ) (r s : List ℕ) → LineOne text K r → LineOne text J s → (K ≡ J) × (r ≡ s)
line_one_one text K J r s a b =
    (omega (arith, (line_first text K r a).digit, (line_first text J s b).digit), ap (drop 7) (sym a.whole ∙ b.whole))

line_two_one : (text p q l m : List ℕ) → LineTwo text p l → LineTwo text q m → (p ≡ q) × (l ≡ m)
line_two_one text p q l m a b = parted p q l m a.one_line b.one_line (ap (drop 8) (sym a.whole ∙ b.whole))

pub card_one : (text : List ℕ) (K J : ℕ) (p q l m : List ℕ) → IsCard text K p l → IsCard text J q m → (K ≡ J) × (p ≡ q) × (l ≡ m)
card_one text K J p q l m a b =
    let e = line_one_one text K J a.second b.second a.one b.one in
    let f = line_two_one b.second p q l m (rw e.1 at a.two) b.two in
    (e.0, f.0, f.1)

pub form_one : (text : List ℕ) (f g : Result Form CardLine) → FormOf text f → FormOf text g → f ≡ g
form_one text f g (right {K = K} p l a x y) (right {K = J} q m b u v) =
    let e = card_one text K J p q l m a b in
    rw (x, y, u, v, e.0, e.1)
form_one text f g (right p l a x y) (wrong_one n) = absurd (n _ a.second a.one)
form_one text f g (right {K = K} p l a x y) (wrong_two {K = J} s o n) =
    let e = line_one_one text K J a.second s a.one o in
    absurd (n p l (rw e.1 at a.two))
form_one text f g (wrong_one n) (right q m b u v) = absurd (n _ b.second b.one)
form_one text f g (wrong_one n) (wrong_one k) = refl
form_one text f g (wrong_one n) (wrong_two s o k) = absurd (n _ s o)
form_one text f g (wrong_two {K = K} s o n) (right {K = J} q m b u v) =
    let e = line_one_one text K J s b.second o b.one in
    absurd (n q m (rw (← e.1) at b.two))
form_one text f g (wrong_two s o n) (wrong_one k) = absurd (k _ s o)
form_one text f g (wrong_two s o n) (wrong_two r q k) = refl
