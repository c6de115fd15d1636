use Rattle.av1_tiles.specs.Tasks.{cause_of}
use Rattle.av1_tiles.specs.Outcomes.{HasOutcome}
use Rattle.av1_view.proofs.FileAnswers.{ends_so, shows}
use Rattle.av1_tiles.proofs.Answering.{tiles_task_sound}
use Rattle.av1_view.proofs.tiles.view_tiles.Goals as goal

pub returns : goal.returns
returns g c =
    shows HasOutcome cause_of g.R.Source.left g.R.Source.faults g.W.Sink.taken g.W.Sink.faults _ _ _ _ c.in_ok-file.file c.append_page.result
    c.in_ok-file.ensures c.append_page.ensures

pub returns-in_err-file : goal.returns-in_err-file
returns-in_err-file g c =
    ends_so HasOutcome cause_of g.R.Source.left g.R.Source.faults g.W.Sink.taken g.W.Sink.faults tiles_task_sound.one tiles_task_sound.long _ _ _
    c.from_residual.result c.in_err-file.field-0.0 c.from_residual.ensures.1 c.in_err-file.ensures
