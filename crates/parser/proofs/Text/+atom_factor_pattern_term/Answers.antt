-- `Text::atom`, `factor`, `pattern` and `term` meet their contracts: four times the bytes left, and one more for each of these, fall.
use mathlib.Core.Path.{sym, ◌∙◌}
use native.Mathlib.Omega.{arith}
use Rattle.pattern.specs.Machine.{starts}
use Rattle.pattern.specs.Found.{Opened}
use Rattle.parser.specs.Brackets.{closed_by, wrapped}
use Rattle.pattern.specs.Joins.{factor_bad, term_bad, term_bad_2, pattern_bad, pattern_bad_2, atom_bad, atom_bad_2}
use Rattle.parser.proofs.Cases.{seen, unlike, closes, closes_not}
use Rattle.parser.proofs.Leaves.{is_stands, starts_stands}
use Rattle.parser.proofs.Parts.{handed, refuted, fails_on, stands_as, byte_part, blank_part, factor_parses, term_part, term_part_2, pattern_part, pattern_part_2, atom_part}
use Rattle.parser.proofs.Text.+atom_factor_pattern_term.Goals as goal

pub atom-returns-in-Err : goal.atom-returns-in-Err
atom-returns-in-Err t c = c.in-Err.ensures

pub atom-returns-in-Ok-Empty : goal.atom-returns-in-Ok-Empty
atom-returns-in-Ok-Empty t c = stands_as c.level.ensures (blank_part (rw c.in-Ok-Empty.field-0-is at c.in-Ok-Empty.ensures))

pub atom-returns-in-Ok-Byte : goal.atom-returns-in-Ok-Byte
atom-returns-in-Ok-Byte t c = stands_as c.level-in-Ok-Byte.ensures (byte_part (rw c.in-Ok-Byte.field-0-is at c.in-Ok-Byte.ensures) c.step-nul.ensures)

pub atom-returns-in_err-part-in-Ok-Open : goal.atom-returns-in_err-part-in-Ok-Open
atom-returns-in_err-part-in-Ok-Open t c =
    let h : Opened c.args.self.now.k c.args.self.now.bytes.now c.args.at c.in-Ok-Open.inside (closed_by c.in-Ok-Open.bracket) (wrapped c.in-Ok-Open.bracket) = rw c.in-Ok-Open.field-0-is at c.in-Ok-Open.ensures in
    handed _ c.from_residual.result c.from_residual.ensures.1 (fails_on c.in_err-part-in-Ok-Open.ensures (λ _ d. atom_bad h d))

pub atom-returns-in_err-demand-in-Ok-Open : goal.atom-returns-in_err-demand-in-Ok-Open
atom-returns-in_err-demand-in-Ok-Open t c =
    let h : Opened c.args.self.now.k c.args.self.now.bytes.now c.args.at c.in-Ok-Open.inside (closed_by c.in-Ok-Open.bracket) (wrapped c.in-Ok-Open.bracket) = rw c.in-Ok-Open.field-0-is at c.in-Ok-Open.ensures in
    let r = c.from_residual-in_err-demand-in-Ok-Open in
    refuted _ _ r.result r.ensures.1 c.in_err-demand-in-Ok-Open.ensures (atom_bad_2 h c.in_ok-part-in-Ok-Open.ensures.is (λ _. closes_not c.byte_at.ensures c.close.ensures c.in_err-demand-in-Ok-Open.ensures.0))

pub atom-returns-in_ok-demand-in-Ok-Open : goal.atom-returns-in_ok-demand-in-Ok-Open
atom-returns-in_ok-demand-in-Ok-Open t c =
    let h : Opened c.args.self.now.k c.args.self.now.bytes.now c.args.at c.in-Ok-Open.inside (closed_by c.in-Ok-Open.bracket) (wrapped c.in-Ok-Open.bracket) = rw c.in-Ok-Open.field-0-is at c.in-Ok-Open.ensures in
    stands_as c.between.ensures (atom_part c.in-Ok-Open.bracket _ h c.enter-own.ensures.by c.in_ok-part-in-Ok-Open.ensures (closes c.byte_at.ensures c.close.ensures c.in_ok-demand-in-Ok-Open.ensures) c.leave-nul.ensures)

pub factor-returns-in_err-part : goal.factor-returns-in_err-part
factor-returns-in_err-part t c = handed _ c.from_residual.result c.from_residual.ensures.1 (fails_on c.in_err-part.ensures (λ _ d. factor_bad d))

pub factor-returns : goal.factor-returns
factor-returns t c = factor_parses _ _ c.in_ok-part.ensures c.postfixes.ensures

pub term-returns-in_err-part : goal.term-returns-in_err-part
term-returns-in_err-part t c = handed _ c.from_residual.result c.from_residual.ensures.1 (fails_on c.in_err-part.ensures (λ _ d. term_bad d))

pub term-returns-then-not-begins : goal.term-returns-then-not-begins
term-returns-then-not-begins t c = term_part c.in_ok-part.ensures (seen (starts c.args.self.now.k) c.byte_at.ensures c.begins.ensures c.if-not-begins.true)

pub term-returns-in_err-rest : goal.term-returns-in_err-rest
term-returns-in_err-rest t c =
    let b = seen (starts c.args.self.now.k) c.byte_at.ensures c.begins.ensures c.if-not-begins.false in
    handed _ c.from_residual-in_err-rest.result c.from_residual-in_err-rest.ensures.1 (fails_on c.in_err-rest.ensures (λ _ d. term_bad_2 c.in_ok-part.ensures.is (starts_stands c.args.self.now.k c.args.self.now.bytes.now c.in_ok-part.part.next b) b d))

pub term-returns : goal.term-returns
term-returns t c = stands_as c.beside.ensures (term_part_2 c.in_ok-part.ensures c.in_ok-rest.ensures c.join-both.ensures.1 c.join-both.ensures.0)

pub pattern-returns-in_err-part : goal.pattern-returns-in_err-part
pattern-returns-in_err-part t c = handed _ c.from_residual.result c.from_residual.ensures.1 (fails_on c.in_err-part.ensures (λ _ d. pattern_bad d))

pub pattern-returns-then-byte_at-ne124 : goal.pattern-returns-then-byte_at-ne124
pattern-returns-then-byte_at-ne124 t c = pattern_part c.in_ok-part.ensures (unlike 124 c.byte_at.ensures c.if-byte_at-ne124.true)

pub pattern-returns-in_err-rest : goal.pattern-returns-in_err-rest
pattern-returns-in_err-rest t c =
    let e = sym c.byte_at.ensures ∙ c.if-byte_at-ne124.false in
    handed _ c.from_residual-in_err-rest.result c.from_residual-in_err-rest.ensures.1 (fails_on c.in_err-rest.ensures (λ _ d. pattern_bad_2 c.in_ok-part.ensures.is (is_stands c.args.self.now.bytes.now c.in_ok-part.part.next 124 e (omega arith)) e d))

pub pattern-returns : goal.pattern-returns
pattern-returns t c = stands_as c.beside.ensures (pattern_part_2 c.in_ok-part.ensures (sym c.byte_at.ensures ∙ c.if-byte_at-ne124.false) c.in_ok-rest.ensures c.lighter-either.ensures)
