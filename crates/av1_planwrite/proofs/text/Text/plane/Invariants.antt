use Rattle.std.proofs.Common.{◌≡◌, ◌++◌, ◌-◌, ◌≤◌, length, take}
use Rattle.av1_planwrite.specs.Fronts.{Begins}
use Rattle.av1_planwrite.specs.Text.{plane_text}
use Rattle.av1_planwrite.proofs.text.Text.plane.Given as goal

abbrev pub invariant-pieces : goal.invariant-pieces
invariant-pieces l = record {
  within : l.at ≤ length l.samples;
  so_far : l.self.bytes.items ≡ l.initial.self.bytes.items ++ plane_text l.depth (take l.at l.samples);
  front : Begins l.initial.self.bytes.items l.self.bytes.items;
}

abbrev pub decreases-pieces : goal.decreases-pieces
decreases-pieces l = length l.samples - l.at
