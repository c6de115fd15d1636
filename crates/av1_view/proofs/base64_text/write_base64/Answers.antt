use Rattle.std.proofs.Common.{arith, refl, ◌∙◌}
use Rattle.av1_view.proofs.Groups.{Appends-none, Appends-piece, AppendsPrefix-piece}
use Rattle.av1_view.proofs.base64_text.write_base64.Goals as goal

pub pieces-init : goal.pieces-init
pieces-init g c = record {
  within = omega arith;
  groups = λ some. omega arith;
  so_far = Appends-none _;
  uncounted = refl;
}

pub returns-in_err-write_bytes-clause-prefix : goal.returns-in_err-write_bytes-clause-prefix
returns-in_err-write_bytes-clause-prefix g c =
    AppendsPrefix-piece c.args.bytes.now _ _ _ _ c.pieces.at _ c.min-count.result (omega arith)
    (c.pieces.invariant.groups c.pieces-test.true) c.pieces.invariant.within c.min-count.ensures c.pieces.invariant.so_far
    (c.as_bytes.ensures ∙ c.encode.ensures) c.write_bytes.ensures.prefix

pub pieces-preserved : goal.pieces-preserved
pieces-preserved g c =
    let whole = c.pieces.invariant.groups c.pieces-test.true in
    record {
      within = omega (arith, c.min-count.ensures, c.pieces.invariant.within);
      groups = λ more. omega (arith, c.min-count.ensures, whole, more);
      so_far =
          Appends-piece c.args.bytes.now _ _ _ _ c.pieces.at _ c.min-count.result (omega arith) whole c.pieces.invariant.within c.pieces.invariant.so_far
          (c.as_bytes.ensures ∙ c.encode.ensures) c.in_ok-write_bytes.ensures.whole;
      uncounted = c.in_ok-write_bytes.ensures.cause.uncounted ∙ c.pieces.invariant.uncounted;
    }
