-- The weight to go is the one solution of its equation: what a cell is, from the cells that its rows lead to.
--
-- had_more        a marker that may be taken is one more marker had
-- step_falls      each row leaves one row fewer
-- kernel_equation the kernel solves its equation
-- kernel_solved   what solves the equation at each configuration is the kernel
use Rattle.std.specs.Prelude.{◌≡◌, Bool, true, false, cond, ◌&&◌, ◌||◌, not, eqb, ltb, length}
use Rattle.std.proofs.Math.Path.{refl, sym, ap}
use Rattle.std.proofs.Common.{◌∙◌, lt-ltb, le-ltb, eqb-true}
use mathlib.Core.List.{List, [], ◌∷◌}
use Rattle.std.proofs.Math.Option.{Option, none, some}
use Prim.Native.Nat.{ℕ, zero, suc, ◌+◌, ◌-◌, ◌/◌, ◌%◌, ◌^◌, ◌≤◌, ◌<◌}
use native.Mathlib.Omega.{arith}
use Rattle.std.proofs.Math.Decide.{dec_lt}
use Rattle.basics.specs.Every.{every, every_at}
use Rattle.basics.specs.Lists.{All}
use Rattle.weight.specs.Semiring.{Semi, sum}
use Rattle.weight.specs.Sums.{sum_ext, sum_zero, zero_sum}
use Rattle.weight.specs.Totals.{after, togo, solved}
use Rattle.marks.specs.Labels.{is_byte}
use Rattle.setting.specs.Setting.{move_of}
use Rattle.setting.specs.Settled.{move_six}
use Rattle.table.specs.declared.Row.{Row}
use Rattle.table.specs.Table.{label_of}
use Rattle.togo.specs.ToGo.{Spot, Config, marker, pass, next, both, step, held, ending, had, rows_to_go, kernel}
use Rattle.togo.specs.Runs.{passed, ending_normal, ending_early}

-- a marker that may be taken is taken in one of the 27 settings, and is one more marker had
one_more : ℕ → ℕ → Bool
one_more u m = not (ltb (move_of u m) 27) || eqb (had (move_of u m)) (suc (had u))

moved_low : (u m : ℕ) → move_of u m < 27 → u < 27
unfolding move_of
moved_low u m h = go (ltb m 6 && eqb (u / 3 ^ (m / 2) % 3) (m % 2)) h
  where
    go : (b : Bool) → cond b (u + 3 ^ (m / 2)) 27 < 27 → u < 27
    go true h = omega arith
    go false h = absurd (omega arith)

pub had_more : (u m : ℕ) → move_of u m < 27 → had (move_of u m) ≡ suc (had u)
unfolding one_more move_of
had_more u m h =
    eqb-true _ _ (rw (lt-ltb _ _ h) at (every_at (one_more u) 6 (every_at (λ u. every (one_more u) 6) 27 refl u (moved_low u m h)) m (move_six u m h)))

pub had_six : (u : ℕ) → had u ≤ 6
had_six u = omega arith

abbrev left : Config → ℕ
left c = rows_to_go c.spot.rest c.setting

-- the setting that a row leads to
moved_on : (u : ℕ) (r : Row) (v : ℕ) → next u r ≡ some v → (had v ≡ cond (is_byte (label_of r)) 0 1 + had u) × (u < 27 → v < 27)
unfolding next
moved_on u r v e = go (is_byte (label_of r)) (dec_lt (move_of u (marker r)) 27) e
  where
    taken : move_of u (marker r) < 27 → some (move_of u (marker r)) ≡ some v → (had v ≡ 1 + had u) × (u < 27 → v < 27)
    taken h e = let q : move_of u (marker r) ≡ v = cc in rw (← q) (had_more u (marker r) h ∙ (omega arith), λ _. h)

    nothing : none ≡ some v → (had v ≡ 1 + had u) × (u < 27 → v < 27)
    nothing e = let z : ◌≡◌ {A = ℕ} 0 1 = cc in absurd (omega arith)

    go : (k : Bool) → Dec (move_of u (marker r) < 27) → cond k (some u) (cond (ltb (move_of u (marker r)) 27) (some (move_of u (marker r))) none) ≡ some v → (had v ≡ cond k 0 1 + had u) × (u < 27 → v < 27)
    go true t e = let q : u ≡ v = cc in rw (← q) (omega arith, λ h. h)
    go false (yes h) e = taken h (rw (lt-ltb _ _ h) at e)
    go false (no h) e = nothing (rw (le-ltb (move_of u (marker r)) 27 (omega arith)) at e)

both_parts : (o : Option Spot) (s : Option ℕ) (d : Config) → both o s ≡ some d → (o ≡ some d.spot) × (s ≡ some d.setting)
both_parts none s d e = let z : ◌≡◌ {A = ℕ} 0 1 = cc in absurd (omega arith)
both_parts (some l) none d e = let z : ◌≡◌ {A = ℕ} 0 1 = cc in absurd (omega arith)
both_parts (some l) (some u) d e = (cc, cc)

pub step_parts : (c : Config) (r : Row) (d : Config) → step c r ≡ some d → (pass c.spot r ≡ some d.spot) × (next c.setting r ≡ some d.setting)
unfolding step
step_parts c r d e = both_parts (pass c.spot r) (next c.setting r) d e

pub step_falls : (c : Config) (r : Row) (d : Config) → step c r ≡ some d → left c ≡ suc (left d)
step_falls c r d e =
    let p = step_parts c r d e in
    go (is_byte (label_of r)) (length c.spot.rest) (length d.spot.rest) (had c.setting) (had d.setting) (passed c.spot r d.spot p.0).left (moved_on c.setting r d.setting p.1).0 (had_six d.setting)
  where
    go : (k : Bool) (a b x y : ℕ) → a ≡ cond k 1 0 + b → y ≡ cond k 0 1 + x → y ≤ 6 → a + (6 - x) ≡ suc (b + (6 - y))
    go true a b x y e f h = omega arith
    go false a b x y e f h = omega arith

pub step_low : (c : Config) (r : Row) (d : Config) → c.setting < 27 → step c r ≡ some d → d.setting < 27
step_low c r d h e = (moved_on c.setting r d.setting (step_parts c r d e).1).1 h

module _ (S : Semi) (allow : ℕ → ℕ → Bool) (price : Spot → Row → S.W) (end : ℕ → S.W) (rows : List Row) (normal : (q : ℕ) → S.plus S.zero (end q) ≡ end q) where
  pub kernel_solved : (F : Config → S.W)
      → ((c : Config) → c.setting < 27 → F c ≡ S.plus (ending S end c) (sum S (λ r. after S step (held S allow price) (ending S end) c r F (step c r)) rows))
      → (c : Config) → c.setting < 27 → F c ≡ kernel S allow price end rows c
  unfolding kernel
  kernel_solved F solves c h =
      solved S step (held S allow price) (ending S end) left (λ r. Unit {0}) (λ c. c.setting < 27) step_falls (λ c r d g f e. step_low c r d g e) (ending_normal S end normal) (ending_early S end) rows (all rows) F solves (left c) c refl h
    where
      all : (rs : List Row) → All (λ r. Unit {0}) rs
      all [] = tt
      all (r ∷ rs) = (tt, all rs)

  -- the kernel solves it itself
  pub kernel_equation : (c : Config) → kernel S allow price end rows c ≡ S.plus (ending S end c) (sum S (λ r. after S step (held S allow price) (ending S end) c r (kernel S allow price end rows) (step c r)) rows)
  unfolding kernel togo
  kernel_equation c = go (left c) refl
    where
      K : Config → S.W
      K d = kernel S allow price end rows d

      T : ℕ → Config → S.W
      T m d = togo S step (held S allow price) (ending S end) rows m d

      A : Row → (Config → S.W) → Option Config → S.W
      A r f o = after S step (held S allow price) (ending S end) c r f o

      none_left : (r : Row) → left c ≡ zero → (o : Option Config) → step c r ≡ o → A r K o ≡ S.zero
      none_left r z none e = unfold after in refl
      none_left r z (some d) e = let h : zero ≡ suc (left d) = sym z ∙ step_falls c r d e in absurd (omega arith)

      one_step : (m : ℕ) (r : Row) → left c ≡ suc m → (o : Option Config) → step c r ≡ o → A r (T m) o ≡ A r K o
      one_step m r z none e = unfold after in refl
      one_step m r z (some d) e = unfold after in (let h : left c ≡ suc (left d) = step_falls c r d e in let q : m ≡ left d = omega arith in ap (λ (k : ℕ). S.times (held S allow price c r) (T k d)) q)

      go : (m : ℕ) → left c ≡ m → T m c ≡ S.plus (ending S end c) (sum S (λ r. A r K (step c r)) rows)
      go zero z =
          sym (S.plus_comm (ending S end c) S.zero ∙ ending_normal S end normal c)
          ∙ ap (S.plus (ending S end c)) (sym (sum_ext S _ _ rows (λ r. none_left r z (step c r) refl) ∙ sum_zero S rows))
      go (suc m) z =
          sum_ext S _ _ rows (λ r. one_step m r z (step c r) refl)
          ∙ sym (zero_sum S _ rows)
          ∙ ap (λ (x : S.W). S.plus x (sum S (λ r. A r K (step c r)) rows)) (sym (ending_early S end c m z))
