-- Laws of a table's rows and end words, from the rules that its words keep.
--
-- rows_length     rows_from gives as many rows as it is asked for
-- rows_all        what holds of the row at each place holds of all rows
-- rows_more       one row more stands at the end
-- rows_at         the row at each place
-- table_rows      a table has as many rows as its third word says
-- table_row       each of them, by its five words
-- table_few       there are at most 1,024 rows
-- table_room      and the words are long enough for them
-- widened         a row of a table is a row of the largest table
-- table_right     each row of a table is
-- rows_right      in a right table every row keeps the rules for rows
-- rows_light      every row weighs at most 1,000,000
-- end_fits        an end word is at most the mark
-- end_word        an end word is one of the words after the header
-- end_right       an end word keeps the rule for end words
-- end_light       an end word that is not the mark is at most 1,000,000
use Rattle.std.specs.Prelude.{◌≡◌, refl, List, [], ◌∷◌, ◌++◌, ℕ, zero, suc, ◌+◌, ◌*◌, ◌≤◌, ◌<◌, length, get_or}
use Rattle.std.proofs.Common.{ap, inl, inr, add-one, arith}
use Rattle.basics.specs.Lists.{All, all_map, get_d_inside}
use Rattle.weight.specs.Weight.{mark}
use Rattle.marks.specs.Labels.{RightLabel, byte, opens, closes}
use Rattle.table.specs.declared.Row.{Row}
use Rattle.table.specs.Table.{row_of_words, rows_from, RightRow, RightEnd, RightTable, automaton_of, most_states, most_vars, most_rows, most_weight}

pub rows_length : (ws : List ℕ) (at n : ℕ) → length (rows_from ws at n) ≡ n
unfolding rows_from
rows_length ws at zero = refl
rows_length ws at (suc n) = ap suc (rows_length ws (at + 5) n)

pub rows_all : (P : Row → Type 0) (ws : List ℕ) (at n : ℕ) → ((i : ℕ) → i < n → P (row_of_words ws (at + 5 * i))) → All P (rows_from ws at n)
unfolding rows_from
rows_all P ws at zero f = tt
rows_all P ws at (suc n) f =
    (let e : at + 5 * 0 ≡ at = omega arith in rw e at (f 0 (omega arith)), rows_all P ws (at + 5) n (λ i h. let e : at + 5 * suc i ≡ at + 5 + 5 * i = omega arith in rw e at (f (suc i) (omega arith))))

pub rows_more : (ws : List ℕ) (at i : ℕ) → rows_from ws at (i + 1) ≡ rows_from ws at i ++ (row_of_words ws (at + 5 * i) ∷ [])
unfolding rows_from
rows_more ws at zero = let e : at + 5 * 0 ≡ at = omega arith in rw e refl
rows_more ws at (suc i) =
    let p : at + 5 * suc i ≡ (at + 5) + 5 * i = omega arith in
    rw (add-one (suc i), p) (ap {B = List Row} (λ l. row_of_words ws at ∷ l) (rw (add-one i) at (rows_more ws (at + 5) i)))

pub rows_at : (ws : List ℕ) (at n i : ℕ) (d : Row) → i < n → get_or (rows_from ws at n) i d ≡ row_of_words ws (at + 5 * i)
unfolding rows_from
rows_at ws at zero i d h = absurd (omega arith)
rows_at ws at (suc n) zero d h = let e : at + 5 * 0 ≡ at = omega arith in rw e refl
rows_at ws at (suc n) (suc i) d h = let e : at + 5 * suc i ≡ at + 5 + 5 * i = omega arith in rw e (rows_at ws (at + 5) n i d (omega arith))

pub table_rows : (ws : List ℕ) → length (automaton_of ws).rows ≡ get_or ws 2 0
unfolding automaton_of
table_rows ws = rows_length ws (3 + get_or ws 0 0) (get_or ws 2 0)

pub table_row : (ws : List ℕ) (i : ℕ) (d : Row) → i < length (automaton_of ws).rows → get_or (automaton_of ws).rows i d ≡ row_of_words ws (3 + get_or ws 0 0 + 5 * i)
unfolding automaton_of
table_row ws i d h = rows_at ws (3 + get_or ws 0 0) (get_or ws 2 0) i d (rw (table_rows ws) at h)

pub table_few : (ws : List ℕ) → RightTable ws → length (automaton_of ws).rows ≤ most_rows
table_few ws t = rw (table_rows ws) t.rows

pub table_room : (ws : List ℕ) (i : ℕ) → RightTable ws → i < length (automaton_of ws).rows → 3 + (automaton_of ws).states + 5 * i + 5 ≤ length ws
unfolding automaton_of
table_room ws i t h = let e : length (automaton_of ws).rows ≡ get_or ws 2 0 = table_rows ws in omega (arith, t.long)

wider : {K k a : ℕ} → K ≤ most_vars → RightLabel K k a → RightLabel most_vars k a
wider h (byte p q) = byte p q
wider h (opens p q) = opens p (omega arith)
wider h (closes p q) = closes p (omega arith)

pub widened : (ws : List ℕ) (r : Row) → RightTable ws → RightRow (get_or ws 0 0) (get_or ws 1 0) r → RightRow most_states most_vars r
widened ws r t p = record { leaves = omega (arith, p.leaves, t.states); leads = omega (arith, p.leads, t.states); label = wider t.vars p.label; light = p.light }

pub table_right : (ws : List ℕ) (i : ℕ) (r : Row) → RightTable ws → i < length (automaton_of ws).rows → r ≡ row_of_words ws (3 + (automaton_of ws).states + 5 * i) → RightRow most_states most_vars r
unfolding automaton_of
table_right ws i r t h e = rw e (widened ws _ t (t.right i (rw (table_rows ws) at h)))

pub rows_right : (ws : List ℕ) → RightTable ws → All (RightRow (get_or ws 0 0) (get_or ws 1 0)) (automaton_of ws).rows
unfolding automaton_of
rows_right ws t = rows_all (RightRow (get_or ws 0 0) (get_or ws 1 0)) ws (3 + get_or ws 0 0) (get_or ws 2 0) t.right

pub rows_light : (ws : List ℕ) → RightTable ws → All (λ r. r.weight ≤ most_weight) (automaton_of ws).rows
rows_light ws t = all_map (λ r p. p.light) (automaton_of ws).rows (rows_right ws t)

-- the end word as the words give it
pub end_word : (ws : List ℕ) → RightTable ws → (q : ℕ) → q < get_or ws 0 0 → (automaton_of ws).end q ≡ get_or ws (3 + q) 0
unfolding automaton_of
end_word ws t q h = get_d_inside ws (3 + q) mark 0 (omega (arith, t.long))

pub end_right : (ws : List ℕ) → RightTable ws → (q : ℕ) → q < get_or ws 0 0 → RightEnd ((automaton_of ws).end q)
end_right ws t q h = rw (end_word ws t q h) (t.ends q h)

fits : (w : ℕ) → RightEnd w → w ≤ mark
fits w (inl h) = omega arith
fits w (inr e) = omega arith

pub end_fits : (ws : List ℕ) → RightTable ws → (q : ℕ) → q < get_or ws 0 0 → (automaton_of ws).end q ≤ mark
end_fits ws t q h = fits ((automaton_of ws).end q) (end_right ws t q h)

light : (w : ℕ) → w < mark → RightEnd w → w ≤ most_weight
light w l (inl h) = h
light w l (inr e) = absurd (omega arith)

pub end_light : (ws : List ℕ) → RightTable ws → (q : ℕ) → q < get_or ws 0 0 → (automaton_of ws).end q < mark → (automaton_of ws).end q ≤ most_weight
end_light ws t q h l = light ((automaton_of ws).end q) l (end_right ws t q h)
