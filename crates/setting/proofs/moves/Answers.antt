-- `setting::moves` hands out the table of 27 settings by six markers. Its rule is one test, computed over all entries. Assumes nothing.
use mathlib.Core.Path.{◌≡◌, refl}
use mathlib.Core.Bool.{true}
use mathlib.Core.List.{List}
use Prim.Native.Nat.{ℕ, ◌+◌, ◌*◌}
use lib.Dec.{eqb}
use lib.ListN.{length, get_or}
use borrow.Author.Tests.{eqb-true}
use Rattle.basics.specs.Every.{every, every_at}
use Rattle.setting.specs.Setting.{move_of, Moves}
use Rattle.setting.proofs.moves.Goals as goal

ruled : (t : List ℕ) → length t ≡ 162 → every (λ u. every (λ m. eqb (get_or t (u * 6 + m) 0) (move_of u m)) 6) 27 ≡ true → Moves t
ruled t l e =
    record {
      long = l;
      entry = λ u m hu hm. eqb-true _ _ (every_at (λ m. eqb (get_or t (u * 6 + m) 0) (move_of u m)) 6 (every_at (λ u. every (λ m. eqb (get_or t (u * 6 + m) 0) (move_of u m)) 6) 27 e u hu) m hm);
    }

pub returns : goal.returns
unfolding move_of
returns c = ruled _ refl refl
