-- The effect of lists of calls: only frames that are accepted or shown again change a sequence.
use Rattle.std.specs.Prelude.{◌≡◌, Bool, true, false, List, [], ◌∷◌, ℕ, Option, Some, None, Result, Ok, Err}
use Rattle.std.specs.List.{fold}
use Rattle.av1_plan.specs.Plan.{PlanValue}
use Rattle.av1_sequence.specs.declared.error.FrameError.{FrameError}
use Rattle.av1_sequence.specs.declared.head.FrameHead.{FrameHead}
use Rattle.av1_sequence.specs.Frames.{frame_of}
use Rattle.av1_sequence.specs.Kept.{Kept}
use Rattle.av1_sequence.specs.Outcomes.{Accepts, IsValidFrame, Refuses, accepted, shown_again}
use Rattle.av1_sequence.specs.Slots.{Frame, Slots, refreshed, slot_of}

-- a call and its answer: a call with a frame, or with a slot to show again
pub data Call : Type 0 where
  frame_call : FrameHead → (part : List ℕ) → (answer : Result (Unit {0}) FrameError) → Call
  slot_call : (slot refresh : ℕ) → (answer : Bool) → Call

-- What a call with this answer does. It accepts the frame or shows the slot again, or it changes nothing and has a
-- reason.
abbrev pub Does : Kept → Call → Kept → Type 0
Does k (frame_call head part (Ok done)) k' = Accepts k head part k'
Does k (frame_call head part (Err e)) k' = (k' ≡ k) × Refuses k head part e
Does k (slot_call slot refresh true) k' = (frame : Frame) × (slot_of k.slots slot ≡ Some frame) ×
    (k' ≡ shown_again k refresh frame)
Does k (slot_call slot refresh false) k' = (k' ≡ k) × (slot_of k.slots slot ≡ None)

-- what calls do, one after the other
abbrev pub DoInTurn : Kept → List Call → Kept → Type 0
DoInTurn k [] k' = k' ≡ k
DoInTurn k (c ∷ calls) k' = (m : Kept) × Does k c m × DoInTurn m calls k'

-- a frame that was accepted or shown again, and the slots that then hold it
pub record TakenFrame : Type 0 where
  pub refresh : ℕ
  pub frame : Frame

-- the slots after such a frame
abbrev pub slots_after : Slots → TakenFrame → Slots
slots_after slots f = refreshed slots f.refresh f.frame

-- the last frame after such a frame
abbrev pub last_after : Option Frame → TakenFrame → Option Frame
last_after last f = Some f.frame

-- What a call adds to the taken frames. An accepted frame adds the frame of its valid plan over the slots. A slot that
-- is shown again adds its frame.
abbrev pub Adds : Kept → Call → (later : Kept → List TakenFrame → Type 0) → List TakenFrame → Type 0
Adds k (frame_call head part (Err e)) later frames = later k frames
Adds k (frame_call head part (Ok done)) later [] = ⊥
Adds k (frame_call head part (Ok done)) later (f ∷ frames) = (plan : PlanValue) × IsValidFrame k head part plan ×
    (f ≡ record { refresh = head.refresh; frame = frame_of plan }) × later (accepted k head plan) frames
Adds k (slot_call slot refresh false) later frames = later k frames
Adds k (slot_call slot refresh true) later [] = ⊥
Adds k (slot_call slot refresh true) later (f ∷ frames) = (f.refresh ≡ refresh) ×
    (slot_of k.slots slot ≡ Some f.frame) × later (shown_again k refresh f.frame) frames

-- these are the frames that calls take, in order
abbrev pub AreTaken : Kept → List Call → List TakenFrame → Type 0
AreTaken k [] [] = Unit {0}
AreTaken k [] (f ∷ frames) = ⊥
AreTaken k (c ∷ calls) frames = Adds k c (λ m later. AreTaken m calls later) frames

-- After any list of calls, the taken frames have replaced slots of the sequence, one after the other. The last frame is
-- the last of them.
abbrev pub AcceptedAloneCount : Type 0
AcceptedAloneCount =
    (k k' : Kept) (calls : List Call) → DoInTurn k calls k'
    → (frames : List TakenFrame) × AreTaken k calls frames × (k'.slots ≡ fold slots_after k.slots frames) ×
    (k'.last ≡ fold last_after k.last frames) × (k'.frames ≡ k.frames)
