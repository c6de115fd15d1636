use Rattle.std.proofs.Common.{◌∙◌, arith, inl, length, sym}
use Rattle.av1_c.proofs.Statuses.{done_for, fault_for, few_bytes, small_for, told_long, too_long_for, uncounted_for}
use Rattle.av1_c.proofs.reconstruct.tilg_reconstruct_plan.Goals as goal

pub returns-in-Ok-clause-exactly : goal.returns-in-Ok-clause-exactly
returns-in-Ok-clause-exactly c =
    λ outcome other.
    let (planes, comes, written) = c.in-Ok.ensures.written in
    inl (done_for c.args.bytes.now planes (length c.args.room.now) comes written.fits outcome other)

pub returns-in-Err-clause-exactly : goal.returns-in-Err-clause-exactly
returns-in-Err-clause-exactly c =
    λ outcome other. fault_for c.args.bytes.now (length c.args.room.now) c.in-Err.fault c.tell.result c.in-Err.ensures.fault c.tell.ensures.status outcome other

pub returns-in-Ok-clause-too_long : goal.returns-in-Ok-clause-too_long
returns-in-Ok-clause-too_long c =
    let (planes, comes, written) = c.in-Ok.ensures.written in
    let few = few_bytes c.args.bytes.now planes comes in
    (λ is. absurd (omega (arith, is)), λ long. absurd (omega (arith, few, long)))

pub returns-in-Err-clause-too_long : goal.returns-in-Err-clause-too_long
returns-in-Err-clause-too_long c =
    let status = c.tell.ensures.status in
    let cause = c.in-Err.ensures.fault in (
      λ is. told_long c.args.bytes.now (length c.args.room.now) c.in-Err.fault cause (sym status ∙ is),
      λ long. status ∙ too_long_for c.args.bytes.now (length c.args.room.now) c.in-Err.fault cause long,
    )

pub returns-in-Err-clause-small : goal.returns-in-Err-clause-small
returns-in-Err-clause-small c =
    small_for c.args.bytes.now (length c.args.room.now) c.args.written.now c.tell_length.new.len c.in-Err.fault c.tell.result c.in-Err.ensures.fault
    c.tell.ensures.status c.tell_length.ensures

pub returns-in-Err-clause-uncounted : goal.returns-in-Err-clause-uncounted
returns-in-Err-clause-uncounted c = λ _.
    uncounted_for c.args.written.now c.tell_length.new.len c.in-Err.fault c.tell.result c.tell.ensures.status c.tell_length.ensures
