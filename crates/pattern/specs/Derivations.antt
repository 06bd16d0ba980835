-- MEANING. What a tree derives, and the weight of a text (01, "The pattern on the card"). No table stands behind it. Definitions only.
--
-- labels_of a          the steps of a tree in the order of the text: what each does
-- nth_label ls p       the p-th of them, from 0
-- Item                a step, by its place among the steps of the text, from 0; or a charge
-- Der a o t           t is a derivation of a, whose steps are numbered from o on
-- steps t, charges t  the steps of a derivation, in their order, and the total charged in it
-- labels_in a t        what the steps of a derivation of a do
-- Gives K a line s c  some derivation of a reads the line with valid markers that mark the set s, and c is charged in it
-- WeightOfText        the weight of a text for a line and a set: the least total charged, or the mark
-- Gap, gaps           from a step to the next, and the total charged between: state 0 is the start and the end, state p + 1 is
--                     "step p was last", p from 0
-- Follows a x y c     in some derivation, validity set aside, y comes directly after x, with c charged between
use Rattle.std.specs.Prelude.{◌≡◌, true, List, [], ◌∷◌, ◌++◌, map, ℕ, zero, suc, ◌+◌, ◌*◌}
use Rattle.basics.specs.Members.{In}
use Rattle.weight.specs.Weight.{Least}
use Rattle.spans.specs.declared.Spans.{Spans}
use Rattle.marks.specs.Labels.{Label, spells, valid, marked}
use Rattle.pattern.specs.Grammar.{Pat, reads, nothing, alt, cat, star, charge, capture, grouped, steps_of, Pattern}

abbrev label : ℕ → ℕ → Label
label k v = record { kind = k; argument = v }

unfoldable pub labels_of : Pat → List Label
labels_of (reads lo hi) = label 0 (lo * 256 + hi) ∷ []
labels_of nothing = []
labels_of (alt a b) = labels_of a ++ labels_of b
labels_of (cat a b) = labels_of a ++ labels_of b
labels_of (star a) = labels_of a
labels_of (charge n a) = labels_of a
labels_of (capture v a) = label 1 v ∷ (labels_of a ++ label 2 v ∷ [])
labels_of (grouped a) = labels_of a

unfoldable pub nth_label : List Label → ℕ → Label
nth_label [] p = label 0 0
nth_label (l ∷ ls) zero = l
nth_label (l ∷ ls) (suc p) = nth_label ls p

pub data Item : Type 0 where
  step : ℕ → Item
  charged : ℕ → Item

-- `*` is zero or more passes; a weight mark is charged once each time what stands before it is left; a capture opens, derives its inside, closes
pub data Der : Pat → ℕ → List Item → Type 0 where
  read : {lo hi o : ℕ} → Der (reads lo hi) o (step o ∷ [])
  empty : {o : ℕ} → Der nothing o []
  left : {a b : Pat} {o : ℕ} {t : List Item} → Der a o t → Der (alt a b) o t
  right : {a b : Pat} {o : ℕ} {t : List Item} → Der b (o + steps_of a) t → Der (alt a b) o t
  then : {a b : Pat} {o : ℕ} {t s : List Item} → Der a o t → Der b (o + steps_of a) s → Der (cat a b) o (t ++ s)
  stop : {a : Pat} {o : ℕ} → Der (star a) o []
  pass : {a : Pat} {o : ℕ} {t s : List Item} → Der a o t → Der (star a) o s → Der (star a) o (t ++ s)
  left_at : {n o : ℕ} {a : Pat} {t : List Item} → Der a o t → Der (charge n a) o (t ++ charged n ∷ [])
  captured : {v o : ℕ} {a : Pat} {t : List Item} → Der a (o + 1) t → Der (capture v a) o (step o ∷ (t ++ step (o + 1 + steps_of a) ∷ []))
  inside : {a : Pat} {o : ℕ} {t : List Item} → Der a o t → Der (grouped a) o t

abbrev pub steps : List Item → List ℕ
steps [] = []
steps (step p ∷ t) = p ∷ steps t
steps (charged n ∷ t) = steps t

abbrev pub charges : List Item → ℕ
charges [] = 0
charges (step p ∷ t) = charges t
charges (charged n ∷ t) = n + charges t

abbrev pub labels_in : Pat → List Item → List Label
labels_in a t = map (nth_label (labels_of a)) (steps t)

pub record Gives (K : ℕ) (a : Pat) (line : List ℕ) (s : Spans) (c : ℕ) : Type 0 where
  pub trace : List Item
  pub derived : Der a 0 trace
  pub reads_line : spells (labels_in a trace) line ≡ true
  pub is_valid : valid K (labels_in a trace) ≡ true
  pub marks : marked (labels_in a trace) ≡ s
  pub cost : charges trace ≡ c

pub record WeightOfText (K : ℕ) (text line : List ℕ) (s : Spans) (w : ℕ) : Type 0 where
  pub tree : Pat
  pub parsed : Pattern K text tree
  pub least : Least (Gives K tree line s) w

pub record Gap : Type 0 where
  pub from : ℕ
  pub to : ℕ
  pub total : ℕ

-- the gaps of a derivation, where x was last and c is charged since
abbrev pub gaps : ℕ → ℕ → List Item → List Gap
gaps x c [] = record { from = x; to = 0; total = c } ∷ []
gaps x c (step p ∷ t) = record { from = x; to = suc p; total = c } ∷ gaps (suc p) 0 t
gaps x c (charged n ∷ t) = gaps x (c + n) t

pub record Follows (a : Pat) (x y c : ℕ) : Type 0 where
  pub trace : List Item
  pub derived : Der a 0 trace
  pub taken : In (record { from = x; to = y; total = c }) (gaps 0 0 trace)
