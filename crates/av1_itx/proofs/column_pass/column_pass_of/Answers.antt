use Rattle.std.proofs.Common.{◌≡◌, ◌*◌, ◌/◌, ◌∙◌, ap, subst, sym}
use Rattle.av1_lists.specs.Counts.{raised}
use Rattle.av1_itx.specs.Kinds.{column_kind}
use Rattle.av1_itx.specs.Scaffolding.{AreColumns, AreTransformed, cosine_groups}
use Rattle.av1_itx.specs.declared.columns.Columns.{Columns}
use Rattle.av1_itx.proofs.column_pass.column_pass_of.Goals as goal

pub words_of-requires-clause-whole : goal.words_of-requires-clause-whole
words_of-requires-clause-whole g c =
    subst (λ (columns : Columns). g.W.Word.LANES * (columns.count / g.W.Word.LANES) ≡ columns.count) (sym c.columns_of.ensures) c.requires.whole

pub words_of-requires-clause-columns : goal.words_of-requires-clause-columns
words_of-requires-clause-columns g c =
    subst (λ (columns : Columns). AreColumns columns c.args.buffer.now) (sym c.columns_of.ensures) c.requires.columns

pub words_of-requires-clause-height : goal.words_of-requires-clause-height
words_of-requires-clause-height g c = ap (λ (columns : Columns). columns.height) c.columns_of.ensures ∙ c.requires.height

pub words_of-requires-clause-power : goal.words_of-requires-clause-power
words_of-requires-clause-power g c = ap (λ (columns : Columns). columns.power) c.columns_of.ensures ∙ c.requires.power

pub returns-clause-value : goal.returns-clause-value
returns-clause-value g c =
    subst (λ (columns : Columns). AreTransformed columns c.args.buffer.now c.words_of.new.buffer) c.columns_of.ensures c.words_of.ensures.value

pub returns-clause-counts : goal.returns-clause-counts
returns-clause-counts g c =
    let old = c.args.count.now.groups in
    c.words_of.ensures.counts
    ∙ ap (λ (columns : Columns). raised old (cosine_groups columns.kind (columns.count / g.W.Word.LANES * g.W.BlockWord.COUNTED))) c.columns_of.ensures
    ∙ ap (λ n. raised old (cosine_groups (column_kind c.args.block.tx_type) n)) c.requires.counted
