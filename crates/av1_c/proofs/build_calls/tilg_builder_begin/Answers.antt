use Rattle.std.proofs.Common.{◌∙◌}
use Rattle.av1_c.proofs.Builds.{on_done, on_other}
use Rattle.av1_c.proofs.build_calls.tilg_builder_begin.Goals as goal

pub returns-clause-done : goal.returns-clause-done
returns-clause-done c = on_done c.begin.result c.answer.result _ c.answer.ensures c.begin.ensures.holds

pub returns-clause-kept : goal.returns-clause-kept
returns-clause-kept c = on_other c.begin.result c.answer.result _ c.answer.ensures c.begin.ensures.kept

pub returns-clause-told : goal.returns-clause-told
returns-clause-told c = on_done c.begin.result c.answer.result _ c.answer.ensures c.begin.ensures.told

pub returns-clause-status : goal.returns-clause-status
returns-clause-status c = c.answer.ensures ∙ c.begin.ensures.status
