-- The plan of a frame, over the slots of a sequence.
use Rattle.std.specs.Prelude.{◌≡◌, ℕ, ◌+◌, ◌*◌, ◌<◌, ◌^◌, List, [], ◌∷◌, ◌++◌, Option, None, length}
use Rattle.std.specs.Prelude.{if◌then◌else◌}
use Rattle.av1_blocks.specs.Filters.{filter_number}
use Rattle.av1_lists.specs.Lists.{by_index}
use Rattle.av1_plan.specs.declared.header.Header.{Header}
use Rattle.av1_plan.specs.Grammar.{header, references, plan_behind}
use Rattle.av1_plan.specs.Lengths.{slot_bytes}
use Rattle.av1_plan.specs.Plan.{PlanValue}
use Rattle.av1_plan.specs.ReadPlans.{AreSlots}
use Rattle.av1_plan.specs.Spelling.{AreText, AreRefused}
use Rattle.av1_tile.specs.Canvas.{Y, U, V}
use Rattle.av1_tile.specs.Edge.{sample_of}
use Rattle.av1_tile.specs.Output.{by_rows}
use Rattle.av1_tile.specs.PlaneBlocks.{shown_of}
use Rattle.av1_tile.specs.Reference.{slow_walk}
use Rattle.av1_sequence.specs.declared.head.FrameHead.{FrameHead}
use Rattle.av1_sequence.specs.Slots.{Frame, Slots, slot_of, is_read, bits_of, count_of}

-- a head that a sequence takes: the filter is one of the first four, and each reference names one of the eight slots
pub record IsHead (head : FrameHead) : Type 0 where
  pub filter : filter_number head.filter < 4
  pub slots : AreSlots head.slots

-- The header of a frame's plan: the version, dimensions, depth and sampling of the sequence's frames, the fields of the
-- head, and the slots that the frame reads.
abbrev pub frame_header : (frames : Header) → Slots → FrameHead → Header
frame_header frames slots head = record {
  version = frames.version;
  width = frames.width;
  height = frames.height;
  depth = frames.depth;
  sampling = frames.sampling;
  filter = head.filter;
  edge_filter = head.edge_filter;
  slots = head.slots;
  mask = bits_of (is_read head.slots slots) 8;
}

-- the references of the plan: the frames of the slots that are read
abbrev pub frame_references : Slots → FrameHead → List (Option Frame)
frame_references slots head = by_index 8 (λ s. if is_read head.slots slots s then slot_of slots s else None)

-- the part of a frame spells this plan
abbrev pub IsFramePlan : (frames : Header) → Slots → FrameHead → (part : List ℕ) → PlanValue → Type 0
IsFramePlan frames slots head part plan =
    AreText (plan_behind (frame_header frames slots head) (frame_references slots head)) part plan

-- the part of a frame does not spell a plan, and its bad field begins at this byte
abbrev pub AreNoFramePlan : (frames : Header) → Slots → FrameHead → (part : List ℕ) → (at : ℕ) → Type 0
AreNoFramePlan frames slots head part at =
    AreRefused (plan_behind (frame_header frames slots head) (frame_references slots head)) part at

-- the length of the plan in bytes: 20 before its references, the samples of each slot that is read, and the part
abbrev pub plan_bytes : (frames : Header) → Slots → FrameHead → (part : List ℕ) → ℕ
plan_bytes frames slots head part = 20 + count_of (is_read head.slots slots) 8 * slot_bytes frames + length part

-- This is the length of the plan's text: the bytes of its header, the bytes of its references and the part, one after
-- the other.
abbrev pub PlansHaveTheirLength : Type 0
PlansHaveTheirLength =
    (frames : Header) (slots : Slots) (head : FrameHead) (front samples part : List ℕ)
    → AreText header front (frame_header frames slots head)
    → AreText (references (frame_header frames slots head)) samples (frame_references slots head) →
    length (front ++ samples ++ part) ≡ plan_bytes frames slots head part

-- the greatest length of a plan in bytes
abbrev pub most_bytes : ℕ
most_bytes = 2 ^ 26

-- the visible planes of a plan
abbrev pub frame_of : PlanValue → Frame
frame_of plan =
    by_rows (shown_of plan.header 0) (λ x y. sample_of (slow_walk plan Y x y))
    ∷ by_rows (shown_of plan.header 1) (λ x y. sample_of (slow_walk plan U x y))
    ∷ by_rows (shown_of plan.header 2) (λ x y. sample_of (slow_walk plan V x y)) ∷ []
