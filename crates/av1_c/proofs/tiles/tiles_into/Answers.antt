use Rattle.std.proofs.Common.{List, ℕ, Ok, length, subst, sym}
use Rattle.av1_c.specs.Parts.{IsPartCause}
use Rattle.av1_c.specs.Tiles.{TilesComeTo}
use Rattle.av1_c.proofs.Parts.{passed_err, put_small, put_written}
use Rattle.av1_c.proofs.tiles.tiles_into.Goals as goal

pub returns-clause-written : goal.returns-clause-written
returns-clause-written c =
    let bytes = c.args.bytes.now in
    let comes : TilesComeTo bytes (Ok c.deref.result.now) =
    subst (λ (xs : List ℕ). TilesComeTo bytes (Ok xs)) (sym c.deref.ensures.value) c.in_ok-planes.ensures.found in
    put_written (TilesComeTo bytes) c.deref.result.now c.args.room.now comes c.put_front.new.room c.put_front.result c.put_front.ensures.written

pub returns-clause-fault : goal.returns-clause-fault
returns-clause-fault c =
    let bytes = c.args.bytes.now in
    let comes : TilesComeTo bytes (Ok c.deref.result.now) =
    subst (λ (xs : List ℕ). TilesComeTo bytes (Ok xs)) (sym c.deref.ensures.value) c.in_ok-planes.ensures.found in
    put_small (TilesComeTo bytes) c.deref.result.now c.args.room.now comes c.put_front.result c.put_front.ensures.small

pub returns-in_err-planes-clause-fault : goal.returns-in_err-planes-clause-fault
returns-in_err-planes-clause-fault c =
    let room = length c.args.room.now in
    passed_err (IsPartCause (TilesComeTo c.args.bytes.now) room) c.from_residual.result c.in_err-planes.field-0.0 c.from_residual.ensures.1
    (c.in_err-planes.ensures.refused room)
