-- `compiler::compile` answers with the exact table, or with the lowest of numbers 1 to 6. Assumes nothing.
use mathlib.Core.Path.{refl}
use native.Mathlib.Omega.{arith}
use Rattle.std.proofs.Common.{rules}
use Rattle.compiler.specs.Cases.{deep, many_steps}
use Rattle.compiler.specs.Made.{made_table, text_of, emitted}
use Rattle.compiler.proofs.compile.Goals as goal

pub returns-then-part-gt-MOST_NESTING : goal.returns-then-part-gt-MOST_NESTING
returns-then-part-gt-MOST_NESTING c = let r = text_of c.in_ok-part.ensures in deep refl c.if-k-gt-MOST_VARS.false c.if-pattern-gt-MOST_TEXT.false r.parsed (omega (arith, r.deep))

pub returns-then-part-gt-MOST_STEPS : goal.returns-then-part-gt-MOST_STEPS
returns-then-part-gt-MOST_STEPS c =
    let r = text_of c.in_ok-part.ensures in
    many_steps refl c.if-k-gt-MOST_VARS.false c.if-pattern-gt-MOST_TEXT.false r.parsed (omega (arith, r.deep)) (omega (arith, r.counts))

pub returns : goal.returns
returns c =
    let r = text_of c.in_ok-part.ensures in
    emitted c.if-k-gt-MOST_VARS.false c.if-pattern-gt-MOST_TEXT.false r.parsed (omega (arith, r.deep)) (omega (arith, r.counts)) (made_table _ _ _ _ _ _ _ _ r (omega (arith, r.counts))) c.emit.ensures (search rules)
