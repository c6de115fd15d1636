use Rattle.std.proofs.Common.{◌∙◌, ap}
use Rattle.av1_rows.specs.Rows.{Replayed, IsReplayed, told_by, wanted_by}
use Rattle.av1_rows.specs.Tallies.{counts_by, with_row}
use Rattle.av1_rows.proofs.Steps.{agree_told, told_agrees}
use Rattle.av1_rows.proofs.program.replay_next.Goals as goal

pub returns-clause-replayed : goal.returns-clause-replayed
returns-clause-replayed c =
    let row = c.in-Some.row in
    let came = c.in-Ok.came in
    let next : Replayed = record { row = row; came = told_by came; agrees = c.is-agrees.result } in
    let is : IsReplayed next = record {
      known = c.in-Some.ensures.known;
      kind = c.in-Some.ensures.kind;
      told = (λ t. agree_told row.wanted came (c.is-agrees.ensures.0 t), λ e. c.is-agrees.ensures.1 (told_agrees row.wanted came e));
    } in (
      next,
      is,
      c.in-Some.ensures.found,
      c.in_ok-add.ensures
          ∙ ap (λ kind. with_row (counts_by c.args.tally.now) kind c.is-agrees.result (told_by came) (wanted_by row.wanted)) c.from.ensures,
    )
