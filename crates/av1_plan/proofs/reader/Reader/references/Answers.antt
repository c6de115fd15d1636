use Rattle.std.proofs.Common.{◌∙◌, ap, refl, rules}
use Rattle.std.proofs.lemmas.Result.{err_from_is_err_and}
use Rattle.av1_plan.specs.Format.{lone}
use Rattle.av1_plan.specs.Grammar.{slot_planes, references}
use Rattle.av1_plan.specs.Plan.{slot_values}
use Rattle.av1_plan.proofs.Formats.{turn_more, turn_fails, turns_end}
use Rattle.av1_plan.proofs.Lists.{read_empty, slots_push}
use Rattle.av1_plan.proofs.reader.Reader.references.Goals as goal

pub loop-slot-preserved : goal.loop-slot-preserved
loop-slot-preserved c = record {
  read = turn_more (λ slot. lone (slot_planes c.args.header.now slot)) (slot_planes c.args.header.now c.loop-slot.slot) 8 c.loop-slot.slot _ _ _ _ _ _ refl
      c.loop-slot-test.true c.in_ok-planes.ensures.read (ap slot_values c.in_ok-push.ensures.items ∙ slots_push _ _) c.loop-slot.invariant.read;
  moves = search rules;
  count = search rules;
  present = search rules;
}

pub returns-in_err-planes-clause-read : goal.returns-in_err-planes-clause-read
unfolding references
returns-in_err-planes-clause-read c =
    let p = err_from_is_err_and c.from_residual.result c.from_residual.ensures.1 in
    rw (p.1, p.2, read_empty)
    (turn_fails (λ slot. lone (slot_planes c.args.header.now slot)) (slot_planes c.args.header.now c.loop-slot.slot) 8 c.loop-slot.slot _ _ _ _ refl
    c.loop-slot-test.true c.in_err-planes.ensures.read c.loop-slot.invariant.read)

pub returns-clause-read : goal.returns-clause-read
unfolding references
returns-clause-read c =
    read_empty _ _ ∙ turns_end (λ slot. lone (slot_planes c.args.header.now slot)) 8 c.loop-slot.slot _ _ c.loop-slot-test.false c.loop-slot.invariant.read
