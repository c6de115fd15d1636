-- Laws of the motion of a plan.
use Rattle.std.specs.Prelude.{ℕ, ◌^◌, ◌<◌, List, All}
use Rattle.av1_blocks.specs.declared.mc.MotionVector.{MotionVector}
use Rattle.av1_blocks.specs.declared.partition.RefType.{RefType}
use Rattle.av1_frame.specs.Areas.{VisibleArea}
use Rattle.av1_plan.specs.Geometry.{shown_rows, shown_columns}
use Rattle.av1_plan.specs.Plan.{PlanValue}
use Rattle.av1_tile.specs.Motion.{compound_motion, single_motion, slot_in, slot_samples}

-- A sample that is predicted from one reference lies within the depth if the reference's samples do.
abbrev pub SingleMotionLiesWithin : Type 0
SingleMotionLiesWithin =
    (value : PlanValue) (p : ℕ) (reference : RefType) (mv : MotionVector) (area : VisibleArea) (r c : ℕ)
    → 0 < shown_columns value.header p → 0 < shown_rows value.header p
    → All (λ sample. sample < 2 ^ value.header.depth) (slot_samples value (slot_in value.header reference) p)
    → single_motion value p reference mv area r c < 2 ^ value.header.depth

-- A sample that is predicted from two references always lies within the depth, since the average is clipped.
abbrev pub CompoundMotionLiesWithin : Type 0
CompoundMotionLiesWithin =
    (value : PlanValue) (p : ℕ) (references : List RefType) (mvs : List MotionVector) (area : VisibleArea) (r c : ℕ)
    → compound_motion value p references mvs area r c < 2 ^ value.header.depth
