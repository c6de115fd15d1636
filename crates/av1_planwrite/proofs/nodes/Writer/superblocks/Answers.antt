use Rattle.std.proofs.Common.{◌≡◌, sym, subst, ◌∙◌}
use Rattle.av1_plan.specs.declared.header.Header.{Header}
use Rattle.av1_plan.specs.Walk.{remaining}
use Rattle.av1_planwrite.specs.Writing.{draft, remaining_written}
use Rattle.av1_planwrite.proofs.WrittenParts.{superblocks_are, none_written}
use Rattle.av1_planwrite.proofs.nodes.Writer.superblocks.Goals as goal

pub parts-init : goal.parts-init
parts-init c =
    let h = c.args.header.now in
    let d = draft c.args.self.now in
    record { text = superblocks_are h _ d c.new-walk.ensures.parts; frame = c.new-walk.ensures.header }

pub returns : goal.returns
returns c =
    let text =
    subst (λ (h : Header). remaining_written h (remaining c.next_part.new.walk) (draft c.next_part.new.self) ≡ remaining_written h (remaining c.parts.walk)
    (draft c.parts.self)) c.parts.invariant.frame c.in_ok-next_part.ensures.text in
    sym (none_written c.args.header.now _ (draft c.next_part.new.self) (c.in_ok-next_part.ensures.end c.if-branch.false)) ∙ text ∙ c.parts.invariant.text
