-- The rows of the frame that was accepted last, as they are written.
use Rattle.std.proofs.Common.{ℕ, ◌≤◌, ◌≡◌, ◌∙◌, ◌⊎◌, inl, inr, true, Bool, if◌then◌else◌, ◌/◌, List, [], ◌∷◌, length, map, Option, Some, ap, sym}
use Rattle.std.proofs.Common.{subst, arith}
use Rattle.std.proofs.Common.{slice_index_or}
use Rattle.std.specs.Prelude.{◌%◌}
use Rattle.std.specs.List.{flat_map}
use Rattle.std.specs.Option.{option_map}
use Rattle.std.proofs.lemmas.Bool.{eq-eqb, ne_eqb}
use Rattle.std.proofs.lemmas.List.{length-map}
use Rattle.std.proofs.lemmas.Option.{same_Some}
use Rattle.av1_frame.specs.declared.plane.Plane.{Plane}
use Rattle.av1_frame.specs.Planes.{sample_at}
use Rattle.av1_lists.specs.Lists.{by_index}
use Rattle.av1_lists.proofs.Lists.{length-by_index}
use Rattle.av1_plan.specs.declared.header.Header.{Header}
use Rattle.av1_plan.specs.Geometry.{shown_columns}
use Rattle.av1_plan.specs.Grammar.{is_depth}
use Rattle.av1_plan.proofs.ReadFrames.{depth_is}
use Rattle.av1_recon.proofs.Rows.{row_bytes, row_is}
use Rattle.av1_tile.specs.Output.{plane_bytes, sample_bytes}
use Rattle.av1_tile.specs.PlaneBlocks.{shown_of}
use Rattle.av1_sequence.specs.Kept.{plane_shown}
use Rattle.av1_sequence.specs.Output.{AreWrittenAs, IsWritable, plane_text}
use Rattle.av1_sequence.specs.Slots.{Frame}

-- ---- samples and depths

-- samples of 8 bits serve depth 8
pub by_bytes : (depth : ℕ) → depth ≡ 8 → (depth ≤ 8) × AreWrittenAs depth 8
by_bytes depth is = (omega (arith, is), eq-eqb depth 8 is)

-- and samples of 16 bits all others
pub by_words : (depth : ℕ) → is_depth depth ≡ true → (depth ≡ 8 → ⊥) → (depth ≤ 16) × AreWrittenAs depth 16
by_words depth is other = (few (depth_is depth is), ne_eqb depth 8 other)
  where
    few : (depth ≡ 8) ⊎ ((depth ≡ 10) ⊎ (depth ≡ 12)) → depth ≤ 16
    few (inl e) = omega (arith, e)
    few (inr (inl e)) = omega (arith, e)
    few (inr (inr e)) = omega (arith, e)

-- ---- a row that was lent

module _ {T : Type 0} (num : T → ℕ) (h : Header) (p : ℕ) (plane : Plane T) (y : ℕ) (row : List T)
    (is : map num row ≡ by_index (shown_columns h p) (λ x. sample_at num plane x y)) where
  pub row_short : IsWritable h p plane → length row ≤ 2048
  row_short w =
      let len : length row ≡ shown_columns h p = sym (length-map row num) ∙ ap length is ∙ length-by_index (shown_columns h p) (λ x. sample_at num plane x y) in
      omega (arith, len, w.wide)

  -- its bytes, as samples of so many bits are written
  pub row_text : (bits : ℕ) → AreWrittenAs h.depth bits → flat_map (sample_bytes bits) (map num row) ≡ row_bytes num h plane p y
  row_text bits same = ap (λ (b : Bool). flat_map (λ v. if b then v ∷ [] else v % 256 ∷ v / 256 ∷ []) (map num row)) (sym same) ∙ row_is num h plane p y row is

-- ---- a plane of the last frame

-- what holds of the bytes of a plane that shows its part of the last frame holds of those of that frame
pub plane_written : {T : Type 0} (num : T → ℕ) (frames g : Header) → g ≡ frames → (p : ℕ) (plane : Plane T) (last : Option Frame) →
    Some (plane_shown num frames p plane) ≡ option_map (λ (f : Frame). slice_index_or f p []) last
    → (P : List ℕ → Type 0) → P (plane_bytes (shown_of g p) (sample_at num plane)) → (frame : Frame) → last ≡ Some frame → P (plane_text frames frame p)
plane_written num frames g same p plane last shows P holds frame is =
    let here : P (flat_map (sample_bytes frames.depth) (plane_shown num frames p plane)) =
    subst (λ (h : Header). P (plane_bytes (shown_of h p) (sample_at num plane))) same holds in
    let shown : plane_shown num frames p plane ≡ slice_index_or frame p [] =
    same_Some _ _ (shows ∙ ap (option_map (λ (f : Frame). slice_index_or f p [])) is) in
    subst (λ (xs : List ℕ). P (flat_map (sample_bytes frames.depth) xs)) shown here
