-- How long the plan of a frame is.
use Rattle.std.proofs.Common.{ℕ, zero, suc, ◌+◌, ◌*◌, ◌≡◌, ◌≤◌, Bool, if◌then◌else◌, ◌++◌, length, refl, ap, ◌∙◌, arith}
use Rattle.std.proofs.lemmas.List.{length-append}
use Rattle.av1_plan.specs.declared.header.Header.{Header}
use Rattle.av1_plan.specs.Geometry.{shown_columns, shown_rows, xdec, ydec}
use Rattle.av1_plan.specs.Lengths.{slot_bytes, slots_held}
use Rattle.av1_plan.proofs.Lengths.{headers_are_twenty, references_are_slots}
use Rattle.av1_sequence.specs.declared.head.FrameHead.{FrameHead}
use Rattle.av1_sequence.specs.Frames.{PlansHaveTheirLength, frame_header, frame_references}
use Rattle.av1_sequence.specs.Slots.{Slots, count_of, is_read}
use Rattle.av1_sequence.proofs.Serving.{mask_is}

-- a slot of a plan is as long as a frame
slot_same : (frames : Header) (slots : Slots) (head : FrameHead) → slot_bytes (frame_header frames slots head) ≡ slot_bytes frames
unfolding shown_columns shown_rows xdec ydec
slot_same frames slots head = refl

-- the slots that a plan has are those that are read
held_read : (frames : Header) (slots : Slots) (head : FrameHead) (n : ℕ) → n ≤ 8 →
    slots_held (frame_header frames slots head) n ≡ count_of (is_read head.slots slots) n
held_read frames slots head zero le = refl
held_read frames slots head (suc n) le =
    ap (λ (b : Bool). slots_held (frame_header frames slots head) n + (if b then 1 else 0)) (mask_is frames slots head n (omega (arith, le)))
    ∙ ap (λ (k : ℕ). k + (if is_read head.slots slots n then 1 else 0)) (held_read frames slots head n (omega (arith, le)))

pub plans_have_length : PlansHaveTheirLength
plans_have_length frames slots head front samples part front_is samples_is =
    let own = frame_header frames slots head in
    let first = headers_are_twenty front own front_is in
    let second : length samples ≡ count_of (is_read head.slots slots) 8 * slot_bytes frames =
    references_are_slots samples own (frame_references slots head) samples_is
    ∙ ap (λ (n : ℕ). n * slot_bytes own) (held_read frames slots head 8 (omega arith))
    ∙ ap (λ (n : ℕ). count_of (is_read head.slots slots) 8 * n) (slot_same frames slots head) in
    omega (arith, length-append (front ++ samples) part, length-append front samples, first, second)
