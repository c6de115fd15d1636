-- Samples of motion lie within the depth.
use Rattle.std.proofs.Common.{ℕ, ◌+◌, ◌*◌, ◌^◌, ◌<◌, ◌≡◌, arith, true, subst}
use Rattle.std.proofs.lemmas.Nat.{pow_pos}
use Rattle.av1_blocks.specs.declared.mc.MotionVector.{MotionVector}
use Rattle.av1_blocks.specs.declared.partition.RefType.{RefType}
use Rattle.av1_frame.specs.declared.frame_invariants.FrameInvariants.{FrameInvariants}
use Rattle.av1_frame.specs.Areas.{VisibleArea}
use Rattle.av1_inter.specs.Reference.{vector_of, reference_of as reference_in}
use Rattle.av1_plan.specs.Geometry.{shown_columns}
use Rattle.av1_plan.specs.Plan.{PlanValue}
use Rattle.av1_plan.specs.Validity.{has_reference}
use Rattle.av1_tile.specs.MotionDepth.{CompoundMotionLiesWithin, SingleMotionLiesWithin}
use Rattle.av1_tile.specs.Motion.{ServesPlan, plan_filter, reference_plane, single_motion, slot_in, slot_samples}
use Rattle.av1_tile.proofs.Filled.{read_below}
use Rattle.av1_tile.proofs.Served.{plane_holds, plane_of_slot}
use Rattle.av1_inter.proofs.Within.{compound_prediction_within, single_prediction_within}

pub single_motion_within : SingleMotionLiesWithin
single_motion_within value p reference mv area r c some_columns some_rows below =
    single_prediction_within value.header.depth (plan_filter value.header) (reference_plane value (slot_in value.header reference) p) mv area r c some_columns
    some_rows
    (λ x y _ _. read_below (slot_samples value (slot_in value.header reference) p) (2 ^ value.header.depth) (y * shown_columns value.header p + x)
    (pow_pos value.header.depth) below)

pub compound_motion_within : CompoundMotionLiesWithin
compound_motion_within value p references mvs area r c =
    compound_prediction_within value.header.depth (plan_filter value.header) (reference_plane value (slot_in value.header (reference_in references 0)) p)
    (reference_plane value (slot_in value.header (reference_in references 1)) p) (vector_of mvs 0) (vector_of mvs 1) area r c

-- So does each sample that is predicted from a reference that frame settings hold.
pub held_motion_within : {T : Type 0} (num : T → ℕ) (value : PlanValue) (fi : FrameInvariants T) (reference : RefType) (p : ℕ) (mv : MotionVector)
    (area : VisibleArea) (r c : ℕ)
    → ServesPlan num value fi → has_reference value.header reference ≡ true → p < 3 → single_motion value p reference mv area r c < 2 ^ value.header.depth
held_motion_within num value fi reference p mv area r c holds has below =
    let (plane, is) = plane_of_slot num value fi holds reference has p below in
    let held = plane_holds num value fi holds reference has p plane below is in
    single_prediction_within value.header.depth (plan_filter value.header) (reference_plane value (slot_in value.header reference) p) mv area r c
    (omega (arith, held.padded.whole.some_columns, held.width)) (omega (arith, held.padded.whole.some_rows, held.height))
    (λ x y a b. subst (λ (n : ℕ). n < 2 ^ value.header.depth) (held.shows x y a b) (held.within x y a b))
