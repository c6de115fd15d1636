-- What an error of reading blames.
use Rattle.std.proofs.Common.{◌≡◌, refl}
use Rattle.av1_streams.specs.declared.read.ReadError.{ReadError}
use Rattle.av1_streams.specs.declared.read.ReadError.TheVariants.{ReadFault, TooLong, Memory}
use Rattle.av1_streams.proofs.Reading.{read_cause}
use Rattle.av1_recon.specs.Errors.{read_error}
use Rattle.av1_recon.specs.Outcomes.{cause}

pub blames : (e : ReadError) → cause (read_error e) ≡ read_cause e
blames ReadFault = refl
blames TooLong = refl
blames Memory = refl
