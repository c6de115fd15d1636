use Rattle.av1_streams.proofs.Told.{answers_bytes}
use Rattle.av1_tiles.specs.Tasks.{tiles_task}
use Rattle.av1_tiles.proofs.Answering.{tiles_task_sound}
use Rattle.av1_view.proofs.TilesFiles.{tiles_gathered, tiles_refused}
use Rattle.av1_view.proofs.tiles.joined_planes.Goals as goal

pub returns-in-Ok-clause-found : goal.returns-in-Ok-clause-found
returns-in-Ok-clause-found c =
    let told = answers_bytes tiles_task tiles_task_sound _ _ _ _ _ _ _ _ c.reconstruct_tiles.result c.reconstruct_tiles.ensures in
    tiles_gathered c.args.bytes.now _ _ _ _ c.reconstruct_tiles.result tt c.new-source.ensures.bytes c.new-sink.ensures c.into_bytes.ensures c.in-Ok.is told.ok

pub returns-in-Err-clause-refused : goal.returns-in-Err-clause-refused
returns-in-Err-clause-refused c =
    let told = answers_bytes tiles_task tiles_task_sound _ _ _ _ _ _ _ _ c.reconstruct_tiles.result c.reconstruct_tiles.ensures in
    tiles_refused c.args.bytes.now _ c.reconstruct_tiles.result c.in-Err.error c.in_memory.result c.new-source.ensures.bytes c.in-Err.is c.in_memory.ensures
    told.refused
