-- The line of each error.
use Rattle.std.specs.Prelude.{ℕ, List, ◌++◌, codes}
use Rattle.av1_recon.specs.Answers.{malformed_text, refusal_text}
use Rattle.av1_trace.specs.declared.error.TraceError.{TraceError}
use Rattle.av1_trace.specs.declared.error.TraceError.TheVariants.{ReadFault, TooLong, Malformed, Plan, WriteFault}
use Rattle.av1_trace.specs.declared.error.TraceError.TheVariants.{Memory}

-- the line for an error
abbrev pub error_line : TraceError → List ℕ
error_line ReadFault = codes "read fault\n"
error_line TooLong = codes "too long\n"
error_line (Malformed at) = malformed_text at
error_line (Plan fault) = codes "plan " ++ refusal_text fault
error_line WriteFault = codes "write fault\n"
error_line Memory = codes "out of memory\n"
