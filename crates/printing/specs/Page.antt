-- What a page is after something was put.
--
-- Gets p q t      the page was p and is q, in the same buffer: t was put into it
-- gets_then       two texts put one after the other
use Rattle.std.specs.Prelude.{◌≡◌, List, ◌++◌, ℕ}
use Rattle.std.proofs.Common.{◌∙◌}
use Rattle.printing.specs.declared.page.Page.{Page}
use Rattle.printing.specs.Puts.{Puts, then}

pub record Gets (p q : Page) (t : List ℕ) : Type 0 where
  pub same_reference : q.out.ghost_name ≡ p.out.ghost_name
  pub put : Puts p.out.now p.at t q.out.now q.at

pub gets_then : {p q r : Page} {t u : List ℕ} → Gets p q t → Gets q r u → Gets p r (t ++ u)
gets_then {p} {q} {r} {t} {u} g h =
    record {
      same_reference = h.same_reference ∙ g.same_reference;
      put = then p.within g.put h.put;
    }
