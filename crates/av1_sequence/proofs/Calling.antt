-- Lists of calls.
use Rattle.std.proofs.Common.{◌≡◌, ◌∙◌, true, false, List, [], ◌∷◌, Option, Ok, Err, refl, ap, subst}
use Rattle.std.specs.List.{fold}
use Rattle.av1_sequence.specs.Calls.{AcceptedAloneCount, Adds, AreTaken, Call, DoInTurn, Does, TakenFrame, frame_call, last_after, slot_call, slots_after}
use Rattle.av1_sequence.specs.Frames.{frame_of}
use Rattle.av1_sequence.specs.Kept.{Kept}
use Rattle.av1_sequence.specs.Outcomes.{accepted, shown_again}
use Rattle.av1_sequence.specs.Slots.{Frame, Slots}

-- what calls come to, where these frames are added
record ComesTo (k k' : Kept) (frames : List TakenFrame) : Type 0 where
  slots : k'.slots ≡ fold slots_after k.slots frames
  last : k'.last ≡ fold last_after k.last frames
  sides : k'.frames ≡ k.frames

-- behind one that takes a frame, which leaves this
one_taken : (k m k' after : Kept) (f : TakenFrame) (frames : List TakenFrame) → m ≡ after → after.slots ≡ slots_after k.slots f →
    after.last ≡ last_after k.last f → after.frames ≡ k.frames → ComesTo m k' frames → ComesTo k k' (f ∷ frames)
one_taken k m k' after f frames is slots last sides comes = record {
  slots = comes.slots ∙ ap (λ (x : Kept). fold slots_after x.slots frames) is ∙ ap (λ (x : Slots). fold slots_after x frames) slots;
  last = comes.last ∙ ap (λ (x : Kept). fold last_after x.last frames) is ∙ ap (λ (x : Option Frame). fold last_after x frames) last;
  sides = comes.sides ∙ ap (λ (x : Kept). x.frames) is ∙ sides;
}

-- and behind one that takes none
none_taken : (k m k' : Kept) (frames : List TakenFrame) → m ≡ k → ComesTo m k' frames → ComesTo k k' frames
none_taken k m k' frames same comes = subst (λ (x : Kept). ComesTo x k' frames) same comes

first : (k m k' : Kept) (c : Call) (calls : List Call) → Does k c m → (frames : List TakenFrame) → AreTaken m calls frames → ComesTo m k' frames
    → (all : List TakenFrame) × Adds k c (λ m later. AreTaken m calls later) all × ComesTo k k' all
first k m k' (frame_call head part (Ok done)) calls does frames taken comes =
    let f : TakenFrame = record { refresh = head.refresh; frame = frame_of does.plan } in (
      f ∷ frames,
      (does.plan, does.frame, refl, subst (λ (x : Kept). AreTaken x calls frames) does.kept taken),
      one_taken k m k' (accepted k head does.plan) f frames does.kept refl refl refl comes,
    )
first k m k' (frame_call head part (Err e)) calls (same, why) frames taken comes =
    (frames, subst (λ (x : Kept). AreTaken x calls frames) same taken, none_taken k m k' frames same comes)
first k m k' (slot_call slot refresh true) calls (frame, at, is) frames taken comes =
    let f : TakenFrame = record { refresh = refresh; frame = frame } in (
      f ∷ frames,
      (refl, at, subst (λ (x : Kept). AreTaken x calls frames) is taken),
      one_taken k m k' (shown_again k refresh frame) f frames is refl refl refl comes,
    )
first k m k' (slot_call slot refresh false) calls (same, none) frames taken comes =
    (frames, subst (λ (x : Kept). AreTaken x calls frames) same taken, none_taken k m k' frames same comes)

count : (k k' : Kept) (calls : List Call) → DoInTurn k calls k' → (frames : List TakenFrame) × AreTaken k calls frames × ComesTo k k' frames
count k k' [] same =
    ([], tt, record { slots = ap (λ (x : Kept). x.slots) same; last = ap (λ (x : Kept). x.last) same; sides = ap (λ (x : Kept). x.frames) same })
count k k' (c ∷ calls) (m, does, later) =
    let (frames, taken, comes) = count m k' calls later in
    first k m k' c calls does frames taken comes

pub accepted_count : AcceptedAloneCount
accepted_count k k' calls does =
    let (frames, taken, comes) = count k k' calls does in
    (frames, taken, comes.slots, comes.last, comes.sides)
