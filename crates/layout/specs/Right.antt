-- A compiled table keeps every rule of "The table", whatever words stand after it.
--
-- labels_right        what the steps of a text do is of the forms that a row may have
-- right               no compiled table is number 7
use Rattle.std.specs.Prelude.{◌≡◌, refl, Bool, true, false, cond, List, [], ◌∷◌, ◌++◌, leb, length}
use Rattle.std.proofs.Common.{inl, inr, arith, leb-true}
use Prim.Native.Nat.{ℕ, zero, suc, ◌+◌, ◌*◌, ◌-◌, ◌≤◌, ◌<◌}
use Rattle.std.proofs.Math.Decide.{dec_lt}
use Rattle.std.proofs.Math.ListN.{length-append}
use Rattle.basics.specs.Every.{and_true, every_at}
use Rattle.basics.specs.Lists.{All}
use Rattle.weight.specs.Weight.{mark}
use Rattle.marks.specs.Labels.{Label, byte, opens, closes}
use Rattle.setting.specs.Settled.{Right}
use Rattle.table.specs.declared.Row.{Row}
use Rattle.table.specs.Table.{row_of_words, rows_from, RightRow, RightEnd, RightTable, most_weight}
use Rattle.pattern.specs.declared.Class.TheVariants.{Plain, Reserved, Illegal}
use Rattle.pattern.specs.Bytes.{twelve, among, shown, byte_class}
use Rattle.pattern.specs.Grammar.{Pat, reads, nothing, alt, cat, star, charge, capture, grouped, steps_of, Posts, none, starred, marked, Pattern, lone, either, last, thence, with, plain, escaped, any, range, empty, group, named}
use Rattle.pattern.specs.Derivations.{labels_of, nth_label}
use Rattle.arcs.specs.Exact.{arc_of, layout, weights}
use Rattle.layout.specs.Gather.{in_all}
use Rattle.layout.specs.Words.{rows_of, words_of, table_words, Said, said, few_rows, words_of_length, end_at, rows_at}

-- the labels of a text
all_append : {R : Type 0} (P : R → Type 0) (xs ys : List R) → All P xs → All P ys → All P (xs ++ ys)
all_append P [] ys h k = k
all_append P (x ∷ xs) ys h k = (h.0, all_append P xs ys h.1 k)

record Labelled (K : ℕ) (a : Pat) : Type 0 where
  right : All (Right K) (labels_of a)

plain_high : (c : ℕ) → byte_class c ≡ Plain → c ≤ 0x7E
unfolding byte_class
plain_high c e = first (among twelve c) e
  where
    second : (b : Bool) → shown c ≡ b → cond b Plain Illegal ≡ Plain → c ≤ 0x7E
    second true f e = leb-true _ _ (and_true (leb 0x20 c) (leb c 0x7E) f).1
    second false f e = let z : ◌≡◌ {A = ℕ} 0 1 = cc in absurd (omega arith)

    first : (b : Bool) → cond b Reserved (cond (shown c) Plain Illegal) ≡ Plain → c ≤ 0x7E
    first true e = let z : ◌≡◌ {A = ℕ} 0 1 = cc in absurd (omega arith)
    first false e = second (shown c) refl e

reads_right : {K lo hi : ℕ} → lo ≤ hi → hi ≤ 255 → Labelled K (reads lo hi)
unfolding labels_of
reads_right {lo = lo} {hi = hi} l h = record { right = (byte {arg = lo * 256 + hi} (omega arith) (omega arith), tt) }

two_right : {K : ℕ} {a b : Pat} → Labelled K a → Labelled K b → All (Right K) (labels_of a ++ labels_of b)
two_right {K} {a} {b} p q = all_append (Right K) (labels_of a) (labels_of b) p.right q.right

alt_right : {K : ℕ} {a b : Pat} → Labelled K a → Labelled K b → Labelled K (alt a b)
unfolding labels_of
alt_right {a = a} {b = b} p q = record { right = two_right p q }

cat_right : {K : ℕ} {a b : Pat} → Labelled K a → Labelled K b → Labelled K (cat a b)
unfolding labels_of
cat_right {a = a} {b = b} p q = record { right = two_right p q }

nothing_right : {K : ℕ} → Labelled K nothing
unfolding labels_of
nothing_right = record { right = tt }

grouped_right : {K : ℕ} {a : Pat} → Labelled K a → Labelled K (grouped a)
unfolding labels_of
grouped_right p = record { right = p.right }

capture_right : {K d : ℕ} {a : Pat} → 49 ≤ d → d ≤ 48 + K → Labelled K a → Labelled K (capture (d - 48) a)
unfolding labels_of
capture_right {K} {d} {a} l h p = record { right = (opens {arg = d - 48} (omega arith) (omega arith), all_append (Right K) (labels_of a) _ p.right (closes {arg = d - 48} (omega arith) (omega arith), tt)) }

posts_right : {K : ℕ} {w : List ℕ} {a b : Pat} → Posts w a b → Labelled K a → Labelled K b
unfolding labels_of
posts_right none p = p
posts_right (starred q) p = posts_right q (record { right = p.right })
posts_right (marked x y z q) p = posts_right q (record { right = p.right })

text_right : {K : ℕ} {w : List ℕ} {a : Pat} → Pattern K w a → Labelled K a
text_right {K} {w} {a} p =
    elim p as (λ w a x. Labelled K a) (λ w a x. Labelled K a) (λ w a x. Labelled K a) (λ w a x. Labelled K a) [
      | lone (t → h) ↦ h
      | either (t → h) (q → g) ↦ alt_right h g
      | last (f → h) ↦ h
      | thence (f → h) (t → g) ↦ cat_right h g
      | with (x → h) q ↦ posts_right q h
      | plain {c} e ↦ (let h = plain_high c e in reads_right (omega arith) (omega arith))
      | escaped h ↦ reads_right (omega arith) (omega (arith, h.high))
      | any ↦ reads_right (omega arith) (omega arith)
      | range p q l ↦ reads_right l (omega (arith, q.high))
      | empty ↦ nothing_right
      | group (p → h) ↦ grouped_right h
      | named l m (p → h) ↦ capture_right l m h
    ]

labels_count : (a : Pat) → length (labels_of a) ≡ steps_of a
unfolding labels_of steps_of
labels_count (reads lo hi) = refl
labels_count nothing = refl
labels_count (alt a b) = omega (arith, length-append (labels_of a) (labels_of b), labels_count a, labels_count b)
labels_count (cat a b) = omega (arith, length-append (labels_of a) (labels_of b), labels_count a, labels_count b)
labels_count (star a) = labels_count a
labels_count (charge n a) = labels_count a
labels_count (capture v a) = omega (arith, length-append (labels_of a) (record { kind = 2; argument = v } ∷ []), labels_count a)
labels_count (grouped a) = labels_count a

nth_right : (P : Label → Type 0) (ls : List Label) (p : ℕ) → All P ls → p < length ls → P (nth_label ls p)
unfolding nth_label
nth_right P [] p h l = absurd (omega arith)
nth_right P (x ∷ ls) zero h l = h.0
nth_right P (x ∷ ls) (suc p) h l = nth_right P ls p h.1 (omega arith)

pub labels_right : {K : ℕ} {w : List ℕ} {a : Pat} → Pattern K w a → (p : ℕ) → p < steps_of a → Right K (nth_label (labels_of a) p)
labels_right {K} {a = a} t p h = nth_right (Right K) (labels_of a) p (text_right t).right (omega (arith, labels_count a))

-- the rows by their numbers
rows_nth : (P : Row → Type 0) (ws : List ℕ) (at n : ℕ) → All P (rows_from ws at n) → (i : ℕ) → i < n → P (row_of_words ws (at + 5 * i))
unfolding rows_from
rows_nth P ws at zero h i l = absurd (omega arith)
rows_nth P ws at (suc n) h zero l = let e : at + 5 * 0 ≡ at = omega arith in rw e h.0
rows_nth P ws at (suc n) h (suc i) l = let e : at + 5 * suc i ≡ at + 5 + 5 * i = omega arith in rw e (rows_nth P ws (at + 5) n h.1 i (omega arith))

few : (m : ℕ) → m ≤ 31 → m * suc m ≤ 992
few m h = leb-true _ _ (every_at (λ m. leb (m * suc m) 992) 32 refl m (omega arith))

-- arcs that are light, and labels that are right
module _ (A : ℕ → ℕ → ℕ) (L : ℕ → Label) (K m : ℕ) (m_few : m ≤ 31) (K_few : K ≤ 3)
    (capped : (x y : ℕ) → A x y ≤ mark)
    (light : (x y : ℕ) → A x y < mark → A x y ≤ most_weight)
    (labels : (p : ℕ) → p < m → Right K (L p)) where
  end_right : (x : ℕ) → Dec (A x 0 < mark) → RightEnd (A x 0)
  end_right x (yes h) = inl (light x 0 h)
  end_right x (no h) = inr (omega (arith, capped x 0))

  row_right : (r : Row) → Said A L m r → RightRow (suc m) K r
  row_right r s = rw s.is (record { leaves = s.low; leads = omega (arith, s.under); label = labels s.p s.under; light = light s.x (suc s.p) s.there })

  pub words_right : (rest : List ℕ) → RightTable (words_of A L K m ++ rest)
  unfolding words_of
  words_right rest =
      record {
        header = omega arith;
        some_state = omega arith;
        states = omega arith;
        vars = omega arith;
        rows = omega (arith, few_rows A L m, few m m_few);
        long = omega (arith, words_of_length A L K m, length-append (words_of A L K m) rest);
        ends = λ q h. rw (end_at A L K m rest q 0 h) (end_right q (dec_lt (A q 0) mark));
        right = rows_nth (RightRow (suc m) K) (words_of A L K m ++ rest) (3 + suc m) (length (rows_of A L m)) (rw (rows_at A L K m rest) (in_all (RightRow (suc m) K) (rows_of A L m) (λ r i. row_right r (said A L m r i))));
      }

-- A COMPILED TABLE IS NEVER NUMBER 7, and the words after it do not matter
pub right : {K : ℕ} {s : List ℕ} {a : Pat} → Pattern K s a → length s ≤ 255 → steps_of a ≤ 31 → K ≤ 3 → (rest : List ℕ) → RightTable (table_words K a ++ rest)
right {K} {s} {a} p h m k = words_right (arc_of a) (nth_label (labels_of a)) K (steps_of a) m k (λ x y. (layout p h x y).cap) (weights p h) (labels_right p)
