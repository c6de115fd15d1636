use Rattle.std.proofs.Common.{◌∙◌, map}
use Rattle.av1_plan.specs.Values.{plan_value}
use Rattle.av1_trace.proofs.Comparing.{few_columns, is_row, none_in_row, row_is_long, some_in_row}
use Rattle.av1_trace.proofs.comparison.first_in_row.Goals as goal

pub first_other_of-requires-clause-row : goal.first_other_of-requires-clause-row
first_other_of-requires-clause-row g c =
    row_is_long g.T.Pixel.num (plan_value c.args.plan.now) c.args.p c.args.y c.args.right c.row-row.result.now
    (c.row-row.ensures ∙ c.requires.shows c.args.p c.args.y c.requires.plane c.requires.row) c.requires.columns

pub first_other_of-requires-clause-narrow : goal.first_other_of-requires-clause-narrow
first_other_of-requires-clause-narrow g c =
    few_columns (plan_value c.args.plan.now).header c.header-header.result.now c.args.p c.args.right c.header-header.ensures.value c.header-header.ensures.read
    c.requires.columns

pub returns-clause-none : goal.returns-clause-none
returns-clause-none g c =
    let is =
    is_row (plan_value c.args.plan.now) c.args.planes.now c.args.p c.args.y c.header-header.result.now c.given_row-given.result.now
    (map g.T.Pixel.num c.row-row.result.now) c.header-header.ensures.value
    c.given_row-given.ensures.samples (c.row-row.ensures ∙ c.requires.shows c.args.p c.args.y c.requires.plane c.requires.row) in
    none_in_row (plan_value c.args.plan.now) c.args.planes.now c.args.p c.args.y c.args.left c.args.right _ _ _ c.first_other_of.result is c.requires.columns
    c.first_other_of.ensures.none

pub returns-clause-some : goal.returns-clause-some
returns-clause-some g c =
    let is =
    is_row (plan_value c.args.plan.now) c.args.planes.now c.args.p c.args.y c.header-header.result.now c.given_row-given.result.now
    (map g.T.Pixel.num c.row-row.result.now) c.header-header.ensures.value
    c.given_row-given.ensures.samples (c.row-row.ensures ∙ c.requires.shows c.args.p c.args.y c.requires.plane c.requires.row) in
    some_in_row (plan_value c.args.plan.now) c.args.planes.now c.args.p c.args.y c.args.left c.args.right _ _ _ c.first_other_of.result is c.requires.columns
    c.first_other_of.ensures.some c.first_other_of.ensures.samples c.first_other_of.ensures.first
