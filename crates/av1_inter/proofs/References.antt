-- The plane that a reference's slot has.
use Rattle.std.proofs.Common.{ℕ, ◌≡◌, ap, sym, ◌∙◌, Option, Some}
use Rattle.std.specs.Option.{option_map}
use denote.Bor.{Bor}
use Rattle.av1_blocks.specs.declared.partition.RefType.{RefType}
use Rattle.av1_frame.specs.Frames.{slot_plane}
use Rattle.av1_frame.specs.declared.frame_invariants.FrameInvariants.{FrameInvariants}
use Rattle.av1_frame.specs.declared.plane.Plane.{Plane}
use Rattle.av1_inter.specs.Reference.{HasReference, IsReference, slot_of}

pub reference_found : {T : Type 0} (num : T → ℕ) (fi : FrameInvariants T) (reference : RefType) (p width height slot : ℕ) (found : Option (Bor (Plane T)))
    (plane : Bor (Plane T))
    → HasReference num fi reference p width height → slot ≡ slot_of fi reference → option_map (λ b. b.now) found ≡ slot_plane fi slot p →
    found ≡ Some plane → IsReference num plane.now fi.bit_depth width height
reference_found num fi reference p width height slot found plane has at told is =
    has plane.now (ap (λ (s : ℕ). slot_plane fi s p) (sym at) ∙ sym told ∙ ap (option_map (λ b. b.now)) is)
