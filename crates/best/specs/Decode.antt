-- METHOD. The set that a key stands for: what `key_of` packs, taken apart again. Definitions only.
--
-- key_digit k m    the m-th of the six digits of the key k, m from 0, in base 1026
-- undigit m d     the position whose digit at the m-th of the six numbers is d
-- spans_of_key k    the set whose key is k
use Rattle.std.specs.Prelude.{ℕ, ◌-◌, ◌/◌, ◌%◌, ◌^◌}
use Rattle.spans.specs.declared.Spans.{Spans}

abbrev pub key_digit : ℕ → ℕ → ℕ
key_digit k m = k / 1026 ^ (5 - m) % 1026

abbrev pub undigit : ℕ → ℕ → ℕ
undigit m d = d

abbrev pub spans_of_key : ℕ → Spans
spans_of_key k =
    record {
      s1 = undigit 0 (key_digit k 0);
      e1 = undigit 1 (key_digit k 1);
      s2 = undigit 2 (key_digit k 2);
      e2 = undigit 3 (key_digit k 3);
      s3 = undigit 4 (key_digit k 4);
      e3 = undigit 5 (key_digit k 5);
    }
