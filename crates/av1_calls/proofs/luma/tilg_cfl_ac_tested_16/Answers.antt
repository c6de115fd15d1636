use Rattle.av1_calls.proofs.LumaCalls.{luma_tested}
use Rattle.av1_calls.proofs.luma.tilg_cfl_ac_tested_16.Goals as goal

pub put_differences_of-requires-clause-low : goal.put_differences_of-requires-clause-low
put_differences_of-requires-clause-low c =
    let a = c.args in
    let found = c.in-Ok.ensures in
    luma_tested a.block.now a.stride a.x a.y _ a.luma.now _ _ c.requires found.found found.area
