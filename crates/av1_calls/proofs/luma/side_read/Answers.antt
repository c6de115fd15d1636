use Rattle.av1_calls.proofs.LumaCalls.{read_side}
use Rattle.av1_calls.proofs.luma.side_read.Goals as goal

pub returns-clause-value : goal.returns-clause-value
returns-clause-value c =
    let a = c.args in
    read_side a.side a.pad a.decimation c.max.result c.min.result c.requires.decimation c.requires.pad c.requires.side c.max.ensures c.min.ensures
