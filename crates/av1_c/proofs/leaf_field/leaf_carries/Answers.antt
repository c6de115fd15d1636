use Rattle.std.proofs.Common.{Bool, ◌&&◌, [], ap, sym, ◌∙◌}
use Rattle.av1_plan.specs.declared.header.Header.{Header}
use Rattle.av1_planwrite.specs.Building.{asked_part}
use Rattle.av1_c.specs.Builders.{header_of, plan_of}
use Rattle.av1_c.specs.LeafFields.{part_carries}
use Rattle.av1_c.proofs.leaf_field.leaf_carries.Goals as goal

pub returns-in-Ok : goal.returns-in-Ok
returns-in-Ok c =
    let b = c.args.builder.now in
    let carries = part_carries (header_of b.header) (asked_part (plan_of b [])) in
    c.part_carries.ensures ∙ ap (λ (h : Header). part_carries h c.asked_part.result) c.header.ensures
    ∙ ap (part_carries (header_of b.header)) (c.asked_part.ensures.value ∙ ap asked_part c.in-Ok.ensures.resumed)
    ∙ sym (ap (λ (v : Bool). v && carries) c.in-Ok.ensures.valid)

pub returns-in-Err : goal.returns-in-Err
returns-in-Err c =
    let b = c.args.builder.now in
    sym (ap (λ (v : Bool). v && part_carries (header_of b.header) (asked_part (plan_of b []))) c.in-Err.ensures.invalid)
