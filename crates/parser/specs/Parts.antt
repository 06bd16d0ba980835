-- METHOD. The numbers of a part of a text.
--
-- level n st w         a part with no bracket
-- postfixed p n w          a part that goes on up to n, with another weight w for no step
-- beside p q w         two parts side by side, with the weight w of both for no step
-- between p own w      what stands in a bracket, with own steps of the bracket at each end
use Rattle.std.specs.Prelude.{ℕ, ◌+◌, max}
use Rattle.parser.specs.declared.Part.{Part}

abbrev pub level : ℕ → ℕ → ℕ → Part
level n st w = record { next = n; steps = st; deep = 0; nul = w }

abbrev pub postfixed : Part → ℕ → ℕ → Part
postfixed p n w = record { next = n; steps = p.steps; deep = p.deep; nul = w }

abbrev pub beside : Part → Part → ℕ → Part
beside p q w = record { next = q.next; steps = p.steps + q.steps; deep = max p.deep q.deep; nul = w }

abbrev pub between : Part → ℕ → ℕ → Part
between p own w = record { next = p.next + 1; steps = own + p.steps + own; deep = 1 + p.deep; nul = w }
