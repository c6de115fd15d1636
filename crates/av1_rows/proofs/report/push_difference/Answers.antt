use Rattle.std.proofs.Common.{◌++◌, ◌∙◌, ap, codes}
use Rattle.std.proofs.lemmas.Result.{on_ok_weaker}
use Rattle.av1_rows.specs.Reports.{answer_text, row_line}
use Rattle.av1_rows.specs.Rows.{told_by}
use Rattle.av1_rows.specs.Tallies.{differs_by}
use Rattle.av1_rows.proofs.Lines.{three}
use Rattle.av1_rows.proofs.report.push_difference.Goals as goal

pub returns : goal.returns
returns c =
    let line = row_line (differs_by c.args.first.now) in
    on_ok_weaker c.push_answer-2.result
    (three c.args.report.now.items line (answer_text (codes "came") (told_by c.args.first.now.came))
    (answer_text (codes "wanted") (told_by c.args.first.now.wanted)) _ _ _
    (c.in_ok-extend_from_slice.ensures.items ∙ ap (λ t. c.args.report.now.items ++ t) (c.as_bytes.ensures ∙ c.row_line.ensures)) c.in_ok-push_answer.ensures)
    c.push_answer-2.ensures
