-- What a sequence does with a frame, and why it rejects one.
use Rattle.std.specs.Prelude.{◌≡◌, ℕ, ◌<◌, ◌≤◌, false, List, Some, None, replicate}
use Rattle.av1_blocks.specs.declared.mc.FilterMode.TheVariants.{REGULAR}
use Rattle.av1_plan.specs.declared.header.Header.{Header}
use Rattle.av1_plan.specs.Grammar.{superblocks}
use Rattle.av1_plan.specs.Plan.{LeafValue, PlanValue}
use Rattle.av1_plan.specs.Spelling.{AreText, AreRefused}
use Rattle.av1_plan.specs.Validity.{fault_from, first_fault}
use Rattle.av1_sequence.specs.declared.error.FrameError.{FrameError}
use Rattle.av1_sequence.specs.declared.error.FrameError.TheVariants as errors
use Rattle.av1_sequence.specs.declared.head.FrameHead.{FrameHead}
use Rattle.av1_sequence.specs.Frames.{AreNoFramePlan, IsFramePlan, frame_header, frame_of, frame_references, most_bytes}
use Rattle.av1_sequence.specs.Frames.{plan_bytes}
use Rattle.av1_sequence.specs.Kept.{Kept}
use Rattle.av1_sequence.specs.Slots.{Frame, refreshed}

-- the valid plan of a frame, over the slots of a sequence
pub record IsValidFrame (k : Kept) (head : FrameHead) (part : List ℕ) (plan : PlanValue) : Type 0 where
  pub short : plan_bytes k.frames k.slots head part ≤ most_bytes
  pub text : IsFramePlan k.frames k.slots head part plan
  pub valid : first_fault plan ≡ None

-- a sequence after it accepted a frame: the slots that the frame replaces hold it, and it is the last frame
abbrev pub accepted : Kept → FrameHead → PlanValue → Kept
accepted k head plan = record {
  frames = k.frames;
  slots = refreshed k.slots head.refresh (frame_of plan);
  last = Some (frame_of plan);
}

-- the sequence accepts the frame
pub record Accepts (k : Kept) (head : FrameHead) (part : List ℕ) (k' : Kept) : Type 0 where
  pub plan : PlanValue
  pub frame : IsValidFrame k head part plan
  pub kept : k' ≡ accepted k head plan

-- Why a frame is rejected: its plan would be too large, or its part does not spell a plan, or its first bad leaf has
-- this fault. The size is tested first.
abbrev pub Refuses : Kept → FrameHead → (part : List ℕ) → FrameError → Type 0
Refuses k head part errors.TooLarge = most_bytes < plan_bytes k.frames k.slots head part
Refuses k head part (errors.Malformed at) = (plan_bytes k.frames k.slots head part ≤ most_bytes) ×
    AreNoFramePlan k.frames k.slots head part at
Refuses k head part (errors.Invalid leaf kind) =
    (plan_bytes k.frames k.slots head part ≤ most_bytes) ×
    ((plan : PlanValue) ×
    (IsFramePlan k.frames k.slots head part plan ×
    (first_fault plan ≡ Some (record { leaf = leaf; kind = kind }))))
Refuses k head part errors.Memory = plan_bytes k.frames k.slots head part ≤ most_bytes

-- A sequence after it showed the frame of a slot again. The frame is the last one, and the slots of `refresh` also hold
-- it (AV1 specification: reference frame loading process).
abbrev pub shown_again : Kept → (refresh : ℕ) → Frame → Kept
shown_again k refresh frame = record {
  frames = k.frames;
  slots = refreshed k.slots refresh frame;
  last = Some frame;
}

-- The header of a sequence's frames. Only the version of plans, the visible dimensions, the depth and the sampling
-- count.
abbrev pub frames_of : (version width height depth sampling : ℕ) → Header
frames_of version width height depth sampling =
    record {
      version = version;
      width = width;
      height = height;
      depth = depth;
      sampling = sampling;
      filter = REGULAR;
      edge_filter = false;
      slots = replicate 7 0;
      mask = 0;
    }

-- a sequence without frames
abbrev pub empty_sequence : (frames : Header) → Kept
empty_sequence frames = record { frames = frames; slots = replicate 8 None; last = None }

-- a sequence without frames, for plans of version 2
abbrev pub new_sequence : (width height depth sampling : ℕ) → Kept
new_sequence width height depth sampling = empty_sequence (frames_of 2 width height depth sampling)

-- The leaves of a frame as a plan over the slots of a sequence: a definition for private contracts.
abbrev pub plan_over : Kept → FrameHead → List LeafValue → PlanValue
plan_over k head leaves = record {
  header = frame_header k.frames k.slots head;
  references = frame_references k.slots head;
  leaves = leaves;
}

-- why a part is rejected in a frame with this header: a definition for a private contract
abbrev pub RefusesPart : Header → (part : List ℕ) → FrameError → Type 0
RefusesPart h part errors.TooLarge = ⊥
RefusesPart h part (errors.Malformed at) = AreRefused (superblocks h) part at
RefusesPart h part (errors.Invalid leaf kind) =
    (leaves : List LeafValue) ×
    (AreText (superblocks h) part leaves × (fault_from h 0 leaves ≡ Some (record { leaf = leaf; kind = kind })))
RefusesPart h part errors.Memory = Unit {0}
