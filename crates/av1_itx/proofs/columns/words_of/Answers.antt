use Rattle.std.proofs.Common.{arith, subst, sym}
use Rattle.av1_itx.specs.Scaffolding.{AreColumns, AreTransformed}
use Rattle.av1_itx.proofs.Eights.{known_is, room_for}
use Rattle.av1_itx.proofs.columns.words_of.Goals as goal

pub run_words-requires-clause-columns : goal.run_words-requires-clause-columns
run_words-requires-clause-columns g c =
    subst (λ (columns : _). AreColumns columns c.args.buffer.now) (known_is c.args.columns.now _ _ c.requires.height c.requires.power) c.requires.columns

pub returns-clause-value : goal.returns-clause-value
returns-clause-value g c =
    subst (λ (columns : _). AreTransformed columns c.args.buffer.now c.run_words.new.buffer)
    (sym (known_is c.args.columns.now _ _ c.requires.height c.requires.power)) c.run_words.ensures.value

pub whole_as_slice-run_words : goal.whole_as_slice-run_words
whole_as_slice-run_words g c = room_for g.row.N _ (omega arith) c.requires.small

pub whole_as_slice-run_words-2 : goal.whole_as_slice-run_words-2
whole_as_slice-run_words-2 g c = room_for g.row.N _ (omega arith) c.requires.small

pub filled-line-requires : goal.filled-line-requires
filled-line-requires g c = room_for g.row.N _ (omega arith) c.requires.small

pub filled-transformed-requires : goal.filled-transformed-requires
filled-transformed-requires g c = room_for g.row.N _ (omega arith) c.requires.small
