use Rattle.av1_replay.proofs.Reading.{read_each}
use Rattle.av1_replay.proofs.called.U16Called.put_differences.Goals as goal

pub tilg_cfl_ac_tested_16-requires : goal.tilg_cfl_ac_tested_16-requires
tilg_cfl_ac_tested_16-requires c = λ size is r q h k. read_each 12 c.args.luma.now _ c.requires.low
