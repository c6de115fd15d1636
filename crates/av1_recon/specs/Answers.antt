-- The exit status and the line of each result.
use Rattle.std.specs.Prelude.{ℕ, List, ◌++◌, Option, codes, decimal}
use Rattle.std.specs.Io.KnownBytes.{Appends}
use Rattle.av1_plan.specs.declared.error.InvalidKind.{InvalidKind}
use Rattle.av1_plan.specs.declared.error.InvalidKind.TheVariants as kinds
use Rattle.av1_streams.specs.Faults.{FaultCounted}
use Rattle.av1_streams.specs.Streams.{AppendsPrefix}
use Rattle.av1_recon.specs.declared.error.PlanFault.{PlanFault}
use Rattle.av1_recon.specs.declared.error.PlanFault.TheVariants as refusals
use Rattle.av1_recon.specs.declared.error.ReconError.{ReconError}
use Rattle.av1_recon.specs.declared.error.ReconError.TheVariants.{ReadFault, TooLong, Malformed, Invalid, WriteFault}
use Rattle.av1_recon.specs.declared.error.ReconError.TheVariants.{Memory}
use Rattle.av1_recon.specs.Ends.{answer_line, answer_status, written}
use Rattle.av1_recon.specs.Outcomes.{Answer, cause}

-- the exit status of a result
abbrev pub status_of : Answer → ℕ
status_of answer = answer_status cause written answer

-- the name of a fault of a leaf
abbrev pub kind_text : InvalidKind → List ℕ
kind_text kinds.InvalidBlockSize = codes "block size"
kind_text kinds.Transform = codes "transform"
kind_text kinds.Mode = codes "mode"
kind_text kinds.Vector = codes "vector"
kind_text kinds.MissingReference = codes "missing reference"
kind_text kinds.Coefficient = codes "coefficient"

-- the text for the field that begins at a byte; then the text for the leaf at fault
abbrev pub malformed_text : ℕ → List ℕ
malformed_text at = codes "malformed at " ++ decimal at ++ codes "\n"

abbrev pub invalid_text : ℕ → InvalidKind → List ℕ
invalid_text leaf kind = codes "invalid leaf " ++ decimal leaf ++ codes ": " ++ kind_text kind ++ codes "\n"

-- the text for a plan that is rejected
abbrev pub refusal_text : PlanFault → List ℕ
refusal_text (refusals.Malformed at) = malformed_text at
refusal_text (refusals.Invalid leaf kind) = invalid_text leaf kind

-- the line for an error
abbrev pub error_line : ReconError → List ℕ
error_line ReadFault = codes "read fault\n"
error_line TooLong = codes "too long\n"
error_line (Malformed at) = malformed_text at
error_line (Invalid leaf kind) = invalid_text leaf kind
error_line WriteFault = codes "write fault\n"
error_line Memory = codes "out of memory\n"

-- the line for a result
abbrev pub line_of : Answer → List ℕ
line_of answer = answer_line error_line answer

-- the line for arguments that are not a valid command
abbrev pub usage : List ℕ
usage = codes "usage: recon [make N | sum N]\n"

-- The line was appended to the sink, or a prefix of it if a write failed.
pub record HasLine {E : Type 0} (taken : E → Option (List ℕ)) (faults : E → ℕ) (sink sink' : E)
    (line : List ℕ) : Type 0 where
  pub prefix : AppendsPrefix (taken sink) (taken sink') line
  pub whole : ¬ FaultCounted (faults sink) (faults sink') → Appends (taken sink) (taken sink') line
