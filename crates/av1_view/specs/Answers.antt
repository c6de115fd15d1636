-- The exit status and the line of each result.
use Rattle.std.specs.Prelude.{ℕ, List, Result, codes}
use Rattle.av1_recon.specs.Ends.{answer_line, answer_status, written}
use Rattle.av1_trace.specs.Answers.{error_line}
use Rattle.av1_trace.specs.Checking.{cause}
use Rattle.av1_tiles.specs.declared.error.TilesError.{TilesError}
use Rattle.av1_trace.specs.declared.error.TraceError.{TraceError}

-- the line for arguments that are not a valid command
abbrev pub usage : List ℕ
usage = codes "usage: view [trace | sequence | tiles]\n"

-- the result of a call that shows a trace
abbrev pub TraceAnswer : Type 0
TraceAnswer = Result (Unit {0}) TraceError

-- the result of a call that shows a grid of tiles
abbrev pub TilesAnswer : Type 0
TilesAnswer = Result (Unit {0}) TilesError

-- the exit status for a result on a trace
abbrev pub trace_status : TraceAnswer → ℕ
trace_status answer = answer_status cause written answer

-- the line for a result on a trace, none for Ok
abbrev pub trace_line : TraceAnswer → List ℕ
trace_line answer = answer_line error_line answer
