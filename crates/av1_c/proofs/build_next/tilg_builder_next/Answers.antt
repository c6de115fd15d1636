use Rattle.std.proofs.Common.{◌≡◌, ap, sym, ◌∙◌}
use Rattle.av1_plan.specs.Remaining.{first_part}
use Rattle.av1_planwrite.specs.Building.{asked_part}
use Rattle.av1_planwrite.proofs.Telling.{tells_end}
use Rattle.av1_c.specs.Builders.{plan_of}
use Rattle.av1_c.specs.NextFields.{next_field}
use Rattle.av1_c.specs.declared.build_next.NextField.{NextField}
use Rattle.av1_c.specs.declared.status.TheConstants.{NEXT_NOTHING}
use Rattle.av1_c.proofs.NextFields.{nothing_next}
use Rattle.av1_c.proofs.build_next.tilg_builder_next.Goals as goal

pub returns-in-Ok-clause-done : goal.returns-in-Ok-clause-done
returns-in-Ok-clause-done c = λ _.
    c.next_field.ensures ∙ ap (next_field c.args.builder.now.slot) (c.asked_part.ensures.value ∙ ap asked_part c.in-Ok.ensures.resumed)

pub returns-in-Ok-clause-text : goal.returns-in-Ok-clause-text
returns-in-Ok-clause-text c = λ room p told _ last.
    let b = c.args.builder.now in
    let found : c.next_field.result ≡ next_field b.slot (asked_part (plan_of b room)) =
    c.next_field.ensures ∙ ap (next_field b.slot) (c.asked_part.ensures.value ∙ ap asked_part c.in-Ok.ensures.resumed) in
    let nothing : (next_field b.slot (asked_part (plan_of b room))).kind ≡ NEXT_NOTHING = sym (ap (λ (n : NextField). n.kind) found) ∙ last in
    tells_end (plan_of b room) p told (nothing_next b.slot (first_part (plan_of b room).parts) nothing)
