-- What `all` over the numbers below n decides: that the rule holds of each of them.
use Rattle.std.proofs.Common.{refl, ◌≡◌, ◌∙◌, List, ℕ, ◌+◌, ◌≤◌, ◌<◌, Bool, true, false, length, get_or, take, drop, zero-add, arith, MatchBool}
use Rattle.std.specs.List.{AllWithin, HoldsAt, range_with_len}
use Rattle.std.proofs.lemmas.List.FromFn.{length-range_with_len, get_or-range_with_len}
use Rattle.std.proofs.lemmas.List.{get_or-take, get_or-drop, length-take-le, length-drop}
use Rattle.basics.specs.Decides.{Decides, yes_so, no_so}

pub all_decides : (P : ℕ → Type 0) (n : ℕ) (r : Bool) → MatchBool r (AllWithin P (range_with_len 0 n) 0 (length (range_with_len 0 n))) ((k : ℕ) × (k < length (range_with_len 0 n)) × HoldsAt (λ x. P x → ⊥) (range_with_len 0 n) k) → Decides ((q : ℕ) → q < n → P q) r
all_decides P n true h = yes_so (λ q l. rw (get_or-range_with_len 0 n q 0 l, zero-add) at (h q 0 (omega arith) (rw length-range_with_len l)))
all_decides P n false h =
    let l : h.0 < n = rw length-range_with_len at h.1 in
    no_so (λ f. h.2 0 (rw (get_or-range_with_len 0 n h.0 0 l, zero-add) (f h.0 l)))

-- and over the n words behind a header
pub all_words : (P : ℕ → Type 0) (ws : List ℕ) (n : ℕ) (r : Bool) → 3 + n ≤ length ws → MatchBool r (AllWithin P (take n (drop 3 ws)) 0 (length (take n (drop 3 ws)))) ((k : ℕ) × (k < length (take n (drop 3 ws))) × HoldsAt (λ x. P x → ⊥) (take n (drop 3 ws)) k) → Decides ((q : ℕ) → q < n → P (get_or ws (3 + q) 0)) r
all_words P ws n r l h = go r h
  where
    long : length (take n (drop 3 ws)) ≡ n
    long = length-take-le n (drop 3 ws) (rw length-drop (omega arith))

    word : (q : ℕ) → q < n → get_or (take n (drop 3 ws)) q 0 ≡ get_or ws (3 + q) 0
    word q k = get_or-take n (drop 3 ws) q 0 k ∙ get_or-drop 3 ws q 0

    go : (r : Bool) → MatchBool r (AllWithin P (take n (drop 3 ws)) 0 (length (take n (drop 3 ws)))) ((k : ℕ) × (k < length (take n (drop 3 ws))) × HoldsAt (λ x. P x → ⊥) (take n (drop 3 ws)) k) → Decides ((q : ℕ) → q < n → P (get_or ws (3 + q) 0)) r
    go true h = yes_so (λ q k. rw (word q k) at (h q 0 (omega arith) (rw long k)))
    go false h = let k : h.0 < n = rw long at h.1 in no_so (λ f. h.2 0 (rw (word h.0 k) (f h.0 k)))

-- what a test that said yes, or no, decides
pub says_yes : {P : Type 0} → Decides P true → P
says_yes d = d.so refl

pub says_no : {P : Type 0} → Decides P false → P → ⊥
says_no d = d.not_so refl
