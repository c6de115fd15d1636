use Rattle.std.proofs.Common.{◌≡◌, ◌∙◌, ap, map, refl, string_bytes, subst, sym, Some}
use Rattle.av1_plan.specs.Generator.{plan_bytes}
use Rattle.av1_tile.specs.Output.{planes_of}
use Rattle.av1_recon.specs.Commands.{IsMade, command_of}
use Rattle.av1_recon.specs.Ends.{IsDone, written}
use Rattle.av1_recon.specs.Outcomes.{cause, plan_task}
use Rattle.av1_recon.specs.declared.command.Command.TheVariants.{Make, Sum}
use Rattle.av1_recon.proofs.Ends.{done_apart, ends, ends_made}
use Rattle.av1_recon.proofs.Outcomes.{plan_task_sound}
use Rattle.av1_recon.proofs.program.run.Goals as goal

pub returns-in-Some-Reconstruct-clause-plan_ends : goal.returns-in-Some-Reconstruct-clause-plan_ends
returns-in-Some-Reconstruct-clause-plan_ends g c = λ command.
    ends IsDone done_apart (plan_task planes_of) (plan_task_sound planes_of) g.R.Source.left g.R.Source.faults g.W.Sink.taken g.W.Sink.faults _ _ _ _ written
    c.report.result c.reconstruct_plan.result (λ done. refl) c.report.ensures.status c.reconstruct_plan.ensures.does

pub returns-in-Some-Make-clause-made_ends : goal.returns-in-Some-Make-clause-made_ends
returns-in-Some-Make-clause-made_ends g c =
    let number = c.in-Some-Make.number in
    let is : command_of (map string_bytes c.args.words.now) ≡ Some (Make number) = sym c.from_words.ensures ∙ c.in-Some-Make.is
    ∙ ap Some c.in-Some-Make.field-0-is
    in λ nothing.
    ends_made (IsMade (command_of (map string_bytes c.args.words.now))) cause g.W.Sink.taken g.W.Sink.faults _ _ (plan_bytes number)
    (subst (λ o. IsMade o (plan_bytes number)) (sym is) refl) written _ c.write_made.result (λ done. refl) c.report-in-Some-Make.ensures.status
    c.write_made.ensures

pub returns-in-Some-Sum-clause-made_ends : goal.returns-in-Some-Sum-clause-made_ends
returns-in-Some-Sum-clause-made_ends g c =
    let (lines, sums, writes) = c.write_made_sums.ensures in
    let is : command_of (map string_bytes c.args.words.now) ≡ Some (Sum c.in-Some-Sum.number) =
    sym c.from_words.ensures ∙ c.in-Some-Sum.is ∙ ap Some c.in-Some-Sum.field-0-is
    in λ nothing.
    ends_made (IsMade (command_of (map string_bytes c.args.words.now))) cause g.W.Sink.taken g.W.Sink.faults _ _ lines
    (subst (λ o. IsMade o lines) (sym is) sums) written _ c.write_made_sums.result (λ done. refl) c.report-in-Some-Sum.ensures.status writes
