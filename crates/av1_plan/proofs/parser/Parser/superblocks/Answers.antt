use Rattle.std.proofs.Common.{◌∙◌, ap, sym}
use Rattle.av1_plan.specs.Format.{add}
use Rattle.av1_plan.specs.Parsing.{state}
use Rattle.av1_plan.specs.Remaining.{parts_format}
use Rattle.av1_plan.proofs.RemainingParts.{none_reads, superblocks_asked}
use Rattle.av1_plan.proofs.parser.Parser.superblocks.Goals as goal

pub parts-init : goal.parts-init
parts-init c =
    let h = c.args.header.now in
    record {
      read =
          ap (λ (ps : _). add (parts_format h ps) (state c.args.self.now)) c.new-walk.ensures.parts
          ∙ ap (λ (f : _). add f (state c.args.self.now)) (superblocks_asked h);
      sound = c.requires.sound;
      frame = c.new-walk.ensures.header;
    }

pub returns-clause-read : goal.returns-clause-read
returns-clause-read c =
    sym c.parts.invariant.read
    ∙ sym c.in_ok-next_part.ensures.read
    ∙ none_reads c.args.header.now _ (state c.next_part.new.self) (c.in_ok-next_part.ensures.end c.if-branch.false)
