use Rattle.std.proofs.Common.{◌∙◌}
use Rattle.av1_c.proofs.Builds.{on_done, on_other}
use Rattle.av1_c.proofs.build_calls.tilg_builder_mark.Goals as goal

pub returns-clause-done : goal.returns-clause-done
returns-clause-done c = on_done c.give_mark.result c.answer.result _ c.answer.ensures c.give_mark.ensures.holds

pub returns-clause-kept : goal.returns-clause-kept
returns-clause-kept c = on_other c.give_mark.result c.answer.result _ c.answer.ensures c.give_mark.ensures.kept

pub returns-clause-told : goal.returns-clause-told
returns-clause-told c = λ p t. on_done c.give_mark.result c.answer.result _ c.answer.ensures (c.give_mark.ensures.told p t)

pub returns-clause-status : goal.returns-clause-status
returns-clause-status c = c.answer.ensures ∙ c.give_mark.ensures.status
