use Rattle.std.proofs.Common.{ℕ}
use Rattle.av1_c.specs.PartFaults.{tiles_fault}
use Rattle.av1_c.specs.Parts.{IsPartCause}
use Rattle.av1_c.specs.Tiles.{TilesComeTo}
use Rattle.av1_c.proofs.Parts.{passed_err}
use Rattle.av1_c.proofs.TileGrids.{tiles_found, tiles_refused}
use Rattle.av1_c.proofs.tiles.tiles_planes.Goals as goal

pub returns-clause-found : goal.returns-clause-found
returns-clause-found c =
    tiles_found _ _ _ _ c.args.bytes.now c.into_bytes.result.items _ c.in_ok-reconstruct_tiles.ensures c.new-source.ensures.bytes c.new-sink.ensures
    c.into_bytes.ensures

pub returns-in_err-reconstruct_tiles-clause-refused : goal.returns-in_err-reconstruct_tiles-clause-refused
returns-in_err-reconstruct_tiles-clause-refused c =
    let e = c.in_err-reconstruct_tiles.field-0.0 in
    passed_err (λ fault. (room : ℕ) → IsPartCause (TilesComeTo c.args.bytes.now) room fault) c.from_residual.result (tiles_fault e) c.from_residual.ensures.1
    (tiles_refused _ _ _ _ c.args.bytes.now e c.in_err-reconstruct_tiles.ensures c.new-source.ensures.bytes)
