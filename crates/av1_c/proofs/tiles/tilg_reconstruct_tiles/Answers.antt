use Rattle.std.proofs.Common.{ℕ, List, subst, sym}
use Rattle.av1_c.specs.Parts.{PutsPlanes}
use Rattle.av1_c.specs.Tiles.{TilesComeTo}
use Rattle.av1_c.proofs.Parts.{puts, refuses}
use Rattle.av1_c.proofs.TileGrids.{one_tiles}
use Rattle.av1_c.proofs.tiles.tilg_reconstruct_tiles.Goals as goal

pub returns-in-Ok : goal.returns-in-Ok
returns-in-Ok c =
    let a = c.args in
    let bytes = a.bytes.now in
    let (planes, comes, are) = c.in-Ok.ensures.written in
    puts (TilesComeTo bytes) (one_tiles bytes) a.room.now a.written.now a.refusal.now planes _ c.in-Ok.count comes are

pub returns-in-Err : goal.returns-in-Err
returns-in-Err c =
    let a = c.args in
    let bytes = a.bytes.now in
    subst (λ (room : List ℕ). PutsPlanes (TilesComeTo bytes) a.room.now room a.written.now c.tell_length.new.len a.refusal.now c.tell.new.refusal
    c.tell.result)
    (sym c.in-Err.ensures.kept)
    (refuses (TilesComeTo bytes) (one_tiles bytes) a.room.now a.written.now a.refusal.now c.tell_length.new.len c.tell.new.refusal c.in-Err.fault
    c.tell.result
    c.in-Err.ensures.fault c.tell.ensures.status c.tell.ensures.refusal c.tell_length.ensures)
