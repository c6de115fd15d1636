use Rattle.std.proofs.Common.{arith}
use Rattle.av1_tiles.specs.File.{file_value}
use Rattle.av1_tiles.specs.Refusals.{AreGrid}
use Rattle.av1_streams.proofs.Reading.{are_bytes}
use Rattle.av1_tiles.proofs.Grids.{joined_found, joined_refused, read_refused}
use Rattle.av1_tiles.proofs.reconstruct.frame_of_bytes.Goals as goal

pub returns-clause-found : goal.returns-clause-found
returns-clause-found c =
    let grid : AreGrid c.args.bytes.now (file_value c.in_ok-file.file) =
    record { fits = are_bytes c.args.bytes.now (λ i. omega (arith, c.type_inv.bytes i)); short = c.requires.short; read = c.in_ok-file.ensures.read } in
    joined_found c.args.bytes.now (file_value c.in_ok-file.file) c.join_frame.result grid c.join_frame.ensures.header c.join_frame.ensures.joined

pub returns-clause-refused : goal.returns-clause-refused
returns-clause-refused c =
    let grid : AreGrid c.args.bytes.now (file_value c.in_ok-file.file) =
    record { fits = are_bytes c.args.bytes.now (λ i. omega (arith, c.type_inv.bytes i)); short = c.requires.short; read = c.in_ok-file.ensures.read } in
    joined_refused c.args.bytes.now (file_value c.in_ok-file.file) c.join_frame.result grid c.join_frame.ensures.refused

pub returns-in_err-file-clause-refused : goal.returns-in_err-file-clause-refused
returns-in_err-file-clause-refused c =
    read_refused c.args.bytes.now c.from_residual.result c.in_err-file.field-0.0 c.from_residual.ensures.1 c.requires.short c.in_err-file.ensures.read
