-- METHOD. Prices as one number: weight × 2^64 + key, where the key packs the positions of the markers so that comparing
-- prices is comparing weights, and among equal weights the printed order. Definitions only.
--
-- base, cap           2^64; the price of "no run"
-- key_at p r           what a row adds to the key at position p: its marker's digit in its place, in base 1026
-- big_price, big_end    the price of a row at a spot, and of an end word
-- number ds           digits in base 1026 as one number
-- key_of t             the key of a set
-- allowed lo hi m p   position p is in the range of marker m: lo and hi hold six numbers each
-- placed t m          the m-th of the six numbers of a set, from 0
-- answer              the price of the best run: what the kernel computes over the whole line
use Rattle.std.specs.Prelude.{Bool, cond, ◌&&◌, List, [], ◌∷◌, ℕ, zero, suc, ◌+◌, ◌-◌, ◌*◌, ◌^◌, min, leb, length, get_or}
use Rattle.weight.specs.Weight.{mark}
use Rattle.weight.specs.Tropical.{least}
use Rattle.spans.specs.declared.Spans.{Spans}
use Rattle.spans.specs.Spans.{digit, digits}
use Rattle.marks.specs.Labels.{is_byte}
use Rattle.setting.specs.Setting.{begin}
use Rattle.table.specs.declared.Row.{Row}
use Rattle.table.specs.Table.{Automaton, label_of}
use Rattle.togo.specs.ToGo.{Spot, marker, kernel, begun}

abbrev pub base : ℕ
base = 18446744073709551616

abbrev pub cap : ℕ
cap = mark * base

unfoldable pub key_at : ℕ → Row → ℕ
key_at p r = cond (is_byte (label_of r)) 0 (digit (marker r) p * 1026 ^ (5 - marker r))

unfoldable pub big_price : Spot → Row → ℕ
big_price s r = r.weight * base + key_at s.pos r

unfoldable pub big_end : Automaton → ℕ → ℕ
big_end A q = min cap (A.end q * base)

abbrev pub number : List ℕ → ℕ
number [] = 0
number (x ∷ xs) = x * 1026 ^ length xs + number xs

abbrev pub key_of : Spans → ℕ
key_of t = number (digits t)

abbrev pub allowed : List ℕ → List ℕ → ℕ → ℕ → Bool
allowed lo hi m p = leb (get_or lo m 0) p && leb p (get_or hi m 0)

abbrev pub placed : Spans → ℕ → ℕ
placed t zero = t.s1
placed t (suc zero) = t.e1
placed t (suc (suc zero)) = t.s2
placed t (suc (suc (suc zero))) = t.e2
placed t (suc (suc (suc (suc zero)))) = t.s3
placed t (suc (suc (suc (suc (suc m))))) = t.e3

unfoldable pub answer : (ℕ → ℕ → Bool) → Automaton → List ℕ → ℕ
answer allow A line = kernel (least cap) allow big_price (big_end A) A.rows (begun line (begin A.vars))
