use Rattle.std.proofs.Common.{[], refl, ap, sym, subst, ◌∙◌, arith}
use Rattle.av1_plan.specs.Remaining.{cut_first}
use Rattle.av1_plan.specs.Walk.{remaining}
use Rattle.av1_planwrite.specs.Builder.{built}
use Rattle.av1_planwrite.specs.Building.{Building, Tells, asked_part}
use Rattle.av1_planwrite.proofs.BuilderParts.{admitted_small, building_is}
use Rattle.av1_planwrite.proofs.Telling.{mark_tells}
use Rattle.av1_planwrite.proofs.progress.Progress.pass_mark.Goals as goal

pub cut_by-requires : goal.cut_by-requires
cut_by-requires c = let s = c.args.self.now in admitted_small s.walk.header (asked_part (built s [])) c.args.mark c.requires

pub returns-clause-given : goal.returns-clause-given
returns-clause-given c = λ bytes.
    let w = c.args.self.now.walk in
    building_is _ w.header _ _ _ _ _ _ c.cut.ensures.header refl (c.cut.ensures.parts ∙ ap (cut_first w.header (remaining w)) c.cut_by.ensures) refl

pub returns-clause-told : goal.returns-clause-told
returns-clause-told c = λ bytes p t.
    subst (λ (b : Building). Tells b p) (sym (returns-clause-given c bytes)) (mark_tells (built c.args.self.now bytes) p c.args.mark t (omega arith) c.requires)
