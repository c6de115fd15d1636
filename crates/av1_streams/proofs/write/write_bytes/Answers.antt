use Rattle.std.proofs.Common.{arith, ◌∙◌}
use Rattle.std.proofs.KnownBytes.{Appends-kept}
use Rattle.av1_streams.proofs.Prefixes.{Appends-more, AppendsPrefix-take}
use Rattle.av1_streams.proofs.write.write_bytes.Goals as goal

pub returns-in_err-written-clause-prefix : goal.returns-in_err-written-clause-prefix
returns-in_err-written-clause-prefix g c =
    AppendsPrefix-take _ _ _ c.writing.written (Appends-kept _ _ _ _ c.writing.invariant.so_far c.in_err-written.ensures.bytes)

pub writing-preserved : goal.writing-preserved
writing-preserved g c = record {
  within = omega (arith, c.in_ok-written.ensures.bound);
  so_far = Appends-more _ _ _ _ _ _ c.writing.invariant.so_far c.in_ok-written.ensures.bytes;
  uncounted = c.in_ok-written.ensures.cause.uncounted ∙ c.writing.invariant.uncounted;
}
