-- The examples hold: one test over the whole table, computed, and the theorem that it makes.
--
-- all_right           THE COMPUTED TEST: every card of the table passes
-- examples_hold       THE THEOREM: every example of the table holds
use Rattle.std.specs.Prelude.{◌≡◌, refl, true}
use Rattle.basics.specs.Lists.{All}
use Rattle.weight.specs.Weight.{lighter_to, joint_to}
use Rattle.weight.specs.Semiring.{sum}
use Rattle.weight.specs.Totals.{after, togo}
use Rattle.marks.specs.Labels.{reads}
use Rattle.setting.specs.Setting.{move_of}
use Rattle.table.specs.Table.{automaton_of, rows_from}
use Rattle.togo.specs.ToGo.{pass, read_on, next, step, admits, held, ending, kernel}
use Rattle.togo.specs.Price.{key_at, big_price, big_end, answer}
use Rattle.pattern.specs.Grammar.{steps_of, nesting_of}
use Rattle.pattern.specs.Derivations.{labels_of, nth_label}
use Rattle.arcs.specs.Tree.{size}
use Rattle.arcs.specs.Core.{core}
use Rattle.arcs.specs.Arcs.{arc}
use Rattle.layout.specs.Gather.{gather}
use Rattle.layout.specs.Words.{arrow, spread, words_of}
use Rattle.examples.specs.Cards.{examples, Holds}
use Rattle.examples.specs.Texts.{texts_parse}
use Rattle.examples.specs.Hold.{passes, right, pass_all, all_both, card_holds}

pub all_right : passes right examples ≡ true
unfolding steps_of nesting_of labels_of nth_label size core arc gather arrow spread words_of lighter_to joint_to sum automaton_of rows_from answer kernel togo after step pass read_on reads next move_of admits held ending big_price big_end key_at
all_right = refl

pub examples_hold : All Holds examples
examples_hold = all_both card_holds examples texts_parse (pass_all right examples all_right)
