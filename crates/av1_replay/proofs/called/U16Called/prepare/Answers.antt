use Rattle.std.proofs.Common.{ℕ, sym, subst}
use Rattle.av1_calls.specs.Motions.{IsReadWithin, place}
use Rattle.av1_replay.proofs.Reading.{read_within}
use Rattle.av1_replay.proofs.called.U16Called.prepare.Goals as goal

pub tilg_prep_tested_16-requires : goal.tilg_prep_tested_16-requires
tilg_prep_tested_16-requires c =
    let a = c.args in
    let from = place a.stride 3 3 in
    subst (λ (depth : ℕ). IsReadWithin depth from a.block.now a.from.now) (sym c.from-depth.ensures)
    (read_within a.depth from a.block.now a.from.now c.requires.within)
