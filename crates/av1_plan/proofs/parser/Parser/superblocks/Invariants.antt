use Rattle.std.proofs.Common.{◌≡◌, length}
use Rattle.av1_plan.specs.Format.{add}
use Rattle.av1_plan.specs.Grammar.{superblocks}
use Rattle.av1_plan.specs.Parsing.{state, IsSound}
use Rattle.av1_plan.specs.Remaining.{parts_format}
use Rattle.av1_plan.specs.Walk.{remaining}
use Rattle.av1_plan.proofs.parser.Parser.superblocks.Given as goal

abbrev pub invariant-parts : goal.invariant-parts
invariant-parts l = record {
  read : add (parts_format l.header (remaining l.walk)) (state l.self) ≡ add (superblocks l.header) (state l.initial.self);
  sound : IsSound l.self;
  frame : l.walk.header ≡ l.header;
}

abbrev pub decreases-parts : goal.decreases-parts
decreases-parts l = length l.self.reader.rest.now
