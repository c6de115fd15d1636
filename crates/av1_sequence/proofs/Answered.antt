-- The answers of a sequence, from those of the part of a frame.
use Rattle.std.proofs.Common.{ℕ, ◌≤◌, ◌≡◌, List, Some, None, subst, sym}
use Rattle.av1_plan.specs.declared.error.Invalid.{Invalid}
use Rattle.av1_plan.specs.declared.header.Header.{Header}
use Rattle.av1_plan.specs.Grammar.{superblocks}
use Rattle.av1_plan.specs.Plan.{LeafValue, PlanValue}
use Rattle.av1_plan.specs.Spelling.{AreText}
use Rattle.av1_plan.specs.Validity.{fault_from, first_fault}
use Rattle.av1_plan.proofs.Behind.{behind_refused, behind_text}
use Rattle.av1_sequence.specs.declared.error.FrameError.{FrameError}
use Rattle.av1_sequence.specs.declared.error.FrameError.TheVariants as errors
use Rattle.av1_sequence.specs.declared.head.FrameHead.{FrameHead}
use Rattle.av1_sequence.specs.Frames.{IsFramePlan, frame_header, frame_references, most_bytes, plan_bytes}
use Rattle.av1_sequence.specs.Kept.{Kept}
use Rattle.av1_sequence.specs.Outcomes.{Accepts, Refuses, RefusesPart, accepted, plan_over}

-- leaves that the part of a frame spells are a plan over the slots
pub part_text : (k : Kept) (head : FrameHead) (part : List ℕ) (leaves : List LeafValue) →
    AreText (superblocks (frame_header k.frames k.slots head)) part leaves → IsFramePlan k.frames k.slots head part (plan_over k head leaves)
part_text k head part leaves text = behind_text (frame_header k.frames k.slots head) (frame_references k.slots head) part leaves text

-- a part that is refused in a frame with its header
pub refused_part : (k : Kept) (head : FrameHead) (part : List ℕ) (e : FrameError) → plan_bytes k.frames k.slots head part ≤ most_bytes →
    RefusesPart (frame_header k.frames k.slots head) part e → Refuses k head part e
refused_part k head part errors.TooLarge short why = absurd why
refused_part k head part (errors.Malformed at) short why =
    (short, behind_refused (frame_header k.frames k.slots head) (frame_references k.slots head) part at why)
refused_part k head part (errors.Invalid leaf kind) short (leaves, (text, fault)) =
    (short, (plan_over k head leaves, (part_text k head part leaves text, fault)))
refused_part k head part errors.Memory short why = short

-- a part that spells a valid plan
pub accepts : (k k' : Kept) (head : FrameHead) (part : List ℕ) (plan : PlanValue) → plan_bytes k.frames k.slots head part ≤ most_bytes →
    IsFramePlan k.frames k.slots head part plan → first_fault plan ≡ None → k' ≡ accepted k head plan → Accepts k head part k'
accepts k k' head part plan short text valid is = record { plan = plan; frame = record { short = short; text = text; valid = valid }; kept = is }

-- a part that spells leaves of which one is faulty
pub refused_leaf : (h : Header) (part : List ℕ) (leaves : List LeafValue) (fault : Invalid) (e : FrameError) → AreText (superblocks h) part leaves →
    fault_from h 0 leaves ≡ Some fault → e ≡ errors.Invalid fault.leaf fault.kind → RefusesPart h part e
refused_leaf h part leaves fault e text at is = subst (RefusesPart h part) (sym is) (leaves, (text, at))
