use Rattle.std.proofs.Common.{arith}
use Rattle.av1_trace.proofs.Frames.{bytes_fit, row_is_small}
use Rattle.av1_trace.proofs.samples.given_row.Goals as goal

pub overflow_mul-y : goal.overflow_mul-y
overflow_mul-y c =
    omega (
      arith,
      row_is_small c.args.header.now c.args.p c.args.y c.shown_columns-width.result c.requires.frame c.requires.row c.shown_columns-width.ensures.value,
    )

pub overflow_add-samples_before : goal.overflow_add-samples_before
overflow_add-samples_before c =
    omega (
      arith,
      c.samples_before.ensures.small,
      row_is_small c.args.header.now c.args.p c.args.y c.shown_columns-width.result c.requires.frame c.requires.row c.shown_columns-width.ensures.value,
    )

pub sample_run-requires : goal.sample_run-requires
sample_run-requires c =
    bytes_fit c.args.header.now c.args.p c.args.y _ _ _ c.requires.whole c.samples_before.ensures.value c.shown_columns-width.ensures.value c.requires.plane
    c.requires.row
