use Rattle.std.proofs.Common.{ap, ◌∙◌}
use Rattle.av1_replay.specs.Fields.{part_before, short_part_before}
use Rattle.av1_rows.specs.Runs.{pieces_before, room_before}
use Rattle.av1_rows.proofs.run.Run.read.Goals as goal

pub returns-clause-found : goal.returns-clause-found
returns-clause-found c =
    c.in_ok-words.ensures.found ∙ ap (λ t. short_part_before c.in_ok-words.words.now t) (c.in_ok-source.ensures.found
    ∙ ap (λ t. pieces_before c.in_ok-source.source t) (c.in_ok-out.ensures.found ∙ ap (λ t. room_before c.in_ok-out.out t) (c.in_ok-err.ensures.found
    ∙ ap (λ t. room_before c.in_ok-err.err t) (c.in_ok-input.ensures.found ∙ ap (λ t. part_before c.in_ok-input.input.now t) c.in_ok-zeros.ensures.found))))
