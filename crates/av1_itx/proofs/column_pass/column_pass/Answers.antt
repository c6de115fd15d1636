use Rattle.std.proofs.Common.{◌/◌, ◌∙◌, ap, subst, sym}
use Rattle.av1_lists.specs.Counts.{raised}
use Rattle.av1_itx.specs.Scaffolding.{AreColumns, AreTransformed, cosine_groups}
use Rattle.av1_itx.proofs.column_pass.column_pass.Goals as goal

pub run_columns-requires : goal.run_columns-requires
run_columns-requires c = record {
  columns = subst (λ (columns : _). AreColumns columns c.args.buffer.now) (sym c.columns_of.ensures) c.requires.columns;
}

pub returns-clause-value : goal.returns-clause-value
returns-clause-value c =
    subst (λ (columns : _). AreTransformed columns c.args.buffer.now c.run_columns.new.buffer) c.columns_of.ensures c.run_columns.ensures.value

pub returns-clause-counts : goal.returns-clause-counts
returns-clause-counts c =
    c.run_columns.ensures.counts
    ∙ ap (λ (columns : _). raised c.args.count.now.groups (cosine_groups columns.kind (columns.count / 8))) c.columns_of.ensures
