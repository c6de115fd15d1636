use Rattle.std.proofs.Common.{◌≡◌, true, drop, IfSome}
use Rattle.av1_plan.specs.Geometry.{has_block}
use Rattle.av1_plan.specs.Validity.{are_coefficients}
use Rattle.av1_plan.proofs.Faults.{go_on}
use Rattle.av1_plan.proofs.check.are_coefficients.Given as goal

abbrev pub invariant-loop-triple : goal.invariant-loop-triple
invariant-loop-triple l = record {
  left : go_on l.header l.p l.area l.last (drop l.triple-index l.triples) ≡ are_coefficients l.header l.p l.area l.triples;
  block : IfSome l.last (λ s. has_block l.header l.p l.area s.block ≡ true);
}
