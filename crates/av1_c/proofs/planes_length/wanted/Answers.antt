use Rattle.std.proofs.Common.{arith}
use Rattle.av1_c.proofs.Headers.{begin_with, frame_is_read, header_fault, no_header, same_len}
use Rattle.av1_c.proofs.planes_length.wanted.Goals as goal

pub returns-in_err-header-clause-fault : goal.returns-in_err-header-clause-fault
returns-in_err-header-clause-fault c =
    header_fault c.args.bytes.now c.from_residual.result c.in_err-header.field-0.0 (λ i. omega (arith, c.type_inv.bytes i))
    (omega (arith, c.if-bytes-gt-MAX_PLAN_BYTES.false)) c.from_residual.ensures.1
    c.in_err-header.ensures.read c.in_err-header.ensures.told

pub returns-in_err-header-clause-only : goal.returns-in_err-header-clause-only
returns-in_err-header-clause-only c =
    λ h front short. absurd (no_header c.args.bytes.now c.in_err-header.field-0.0 c.in_err-header.ensures.read c.in_err-header.ensures.told h front)

pub planes_len-requires : goal.planes_len-requires
planes_len-requires c =
    record { frame = frame_is_read c.args.bytes.now c.in_ok-header.header _ (λ i. omega (arith, c.type_inv.bytes i)) c.in_ok-header.ensures.read }

pub returns-clause-found : goal.returns-clause-found
returns-clause-found c = (
  c.in_ok-header.header,
  begin_with c.args.bytes.now c.in_ok-header.header _ (λ i. omega (arith, c.type_inv.bytes i)) c.in_ok-header.ensures.read,
  c.planes_len.ensures,
)

pub returns-clause-only : goal.returns-clause-only
returns-clause-only c =
    λ h front short. same_len c.args.bytes.now c.in_ok-header.header _ c.planes_len.result c.in_ok-header.ensures.read c.planes_len.ensures h front
