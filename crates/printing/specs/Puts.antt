-- A text put into a lent buffer, as far as there is room.
--
-- Puts d at t e r     the buffer was d and is e: from byte `at` on it holds t, as much of it as there is room for; what is put ends at r
-- puts_one            two results of putting one text are equal
-- put, nothing        what `lines::keep` does with a whole text; the empty text
-- then                two texts put one after the other
-- inside              what is put ends inside the buffer
use Rattle.std.specs.Prelude.{◌≡◌, refl, List, [], ◌∷◌, ◌++◌, ℕ, zero, suc, ◌+◌, ◌-◌, ◌≤◌, min, length, take, drop}
use Rattle.std.proofs.Common.{sym, ap, ◌∙◌, append_assoc, append-nil, arith, length-append, length-take, take-append-drop, take_all, drop-drop}
use Rattle.std.proofs.Math.Decide.{dec_le}
use Rattle.std.proofs.Math.Seq.{take-append-add, paste}
use Rattle.std.proofs.lemmas.List.Edits.{length-paste, take-paste, drop-paste}

pub record Puts (d : List ℕ) (at : ℕ) (t e : List ℕ) (r : ℕ) : Type 0 where
  pub ends : r ≡ min (at + length t) (length d)
  pub same : length e ≡ length d
  pub head : take r e ≡ take (length d) (take at d ++ t)
  pub tail : drop r e ≡ drop r d

-- cutting twice is cutting once
cut : (n : ℕ) (x u : List ℕ) → take n (take n x ++ u) ≡ take n (x ++ u)
cut zero x u = refl
cut (suc n) [] u = refl
cut (suc n) (a ∷ x) u = ap (λ (l : List ℕ). a ∷ l) (cut n x u)

further : (r s : ℕ) (e d : List ℕ) → r ≤ s → drop r e ≡ drop r d → drop s e ≡ drop s d
further r s e d h p =
    let q : r + (s - r) ≡ s = omega arith in
    ap (λ (n : ℕ). drop n e) (sym q) ∙ sym (drop-drop (s - r) r e) ∙ ap (drop (s - r)) p ∙ drop-drop (s - r) r d ∙ ap (λ (n : ℕ). drop n d) q

pub then : {d e f t u : List ℕ} {at r s : ℕ} → at ≤ length d → Puts d at t e r → Puts e r u f s → Puts d at (t ++ u) f s
then {d} {e} {f} {t} {u} {at} {r} {s} h p q =
    record {
      ends = omega (arith, p.ends, p.same, q.ends, length-append t u);
      same = q.same ∙ p.same;
      head =
          q.head
          ∙ ap (λ (n : ℕ). take n (take r e ++ u)) p.same
          ∙ ap (λ (l : List ℕ). take (length d) (l ++ u)) p.head
          ∙ cut (length d) (take at d ++ t) u
          ∙ ap (take (length d)) (append_assoc (take at d) t u);
      tail = q.tail ∙ further r s e d (omega (arith, p.ends, p.same, q.ends)) p.tail;
    }

-- as much of t as there is room for
room : (m : ℕ) (t : List ℕ) → take (min (length t) m) t ≡ take m t
room m t = go (dec_le (length t) m)
  where
    go : Dec (length t ≤ m) → take (min (length t) m) t ≡ take m t
    go (yes h) = take_all (min (length t) m) t (omega arith) ∙ sym (take_all m t h)
    go (no h) = ap (λ (k : ℕ). take k t) (let e : min (length t) m ≡ m = omega arith in e)

pub put : (d : List ℕ) (at : ℕ) (t e : List ℕ) (r m : ℕ) → at ≤ length d → m ≡ length t → r ≡ at + min m (length d - at) → e ≡ paste d at t (min m (length d - at)) → Puts d at t e r
put d at t e r m h l p q =
    let n : ℕ = min m (length d - at) in
    record {
      ends = omega arith;
      same = ap length q ∙ length-paste d at t n (omega arith) (omega arith);
      head =
          ap (λ (k : ℕ). take k e) p ∙ ap (take (at + n)) q
          ∙ take-paste d at t n h (omega arith)
          ∙ ap (λ (k : ℕ). take at d ++ take (min k (length d - at)) t) l
          ∙ ap (λ (l : List ℕ). take at d ++ l) (room (length d - at) t)
          ∙ sym (take-append-add (take at d) t (length d - at))
          ∙ ap (λ (k : ℕ). take k (take at d ++ t)) (let e : length (take at d) + (length d - at) ≡ length d = omega (arith, length-take at d) in e);
      tail = ap (λ (k : ℕ). drop k e) p ∙ ap (drop (at + n)) q ∙ drop-paste d at t n h (omega arith) ∙ ap (λ (k : ℕ). drop k d) (sym p);
    }

pub nothing : (d : List ℕ) (at : ℕ) → at ≤ length d → Puts d at [] d at
nothing d at h =
    record {
      ends = omega arith;
      same = refl;
      head = sym (take_all (length d) (take at d ++ []) (omega (arith, length-append (take at d) [], length-take at d)) ∙ append-nil (take at d));
      tail = refl;
    }

pub inside : {d e t : List ℕ} {at r : ℕ} → Puts d at t e r → r ≤ length e
inside p = omega (arith, p.ends, p.same)

pub puts_one : {d t e f : List ℕ} {at r s : ℕ} → Puts d at t e r → Puts d at t f s → (r ≡ s) × (e ≡ f)
puts_one {d} {t} {e} {f} {at} {r} {s} p q =
    let n : r ≡ s = p.ends ∙ sym q.ends in (
      n,
      sym (take-append-drop r e)
          ∙ ap (λ (l : List ℕ). l ++ drop r e) (p.head ∙ sym q.head)
          ∙ ap (λ (l : List ℕ). take s f ++ l) (p.tail ∙ ap (λ (k : ℕ). drop k d) n ∙ sym q.tail)
          ∙ take-append-drop s f,
    )
