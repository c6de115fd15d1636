use Rattle.std.proofs.Common.{refl, ap, ◌∙◌, sym, subst}
use Rattle.av1_planwrite.proofs.BuilderParts.{building_is}
use Rattle.av1_planwrite.proofs.States.{state_is}
use Rattle.av1_planwrite.proofs.progress.Progress.state.Goals as goal

pub returns-clause-stopped : goal.returns-clause-stopped
returns-clause-stopped c =
    let s = c.args.self.now in
    building_is s.walk.header s.walk.header s.slot s.slot _ _ _ _ refl refl (rw c.superblocks_left.ensures c.stacked.ensures.stack) refl

pub returns-clause-valid : goal.returns-clause-valid
returns-clause-valid c =
    let s = c.args.self.now in
    state_is s.walk.header _ s.admitted s.slots (rw c.superblocks_left.ensures c.stacked.ensures.stopped)
