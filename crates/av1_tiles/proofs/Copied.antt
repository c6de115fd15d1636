-- Samples that were copied, as numbers.
use Rattle.std.proofs.Common.{◌≡◌, ℕ, ◌<◌, List, length, map, get_or, sym, ap, ◌∙◌, slice_index}
use Rattle.std.proofs.lemmas.List.{get_or-map}
use Rattle.av1_lists.proofs.Lists.{length_shown, length-by_index}
use Rattle.av1_plan.specs.declared.header.Header.{Header}
use Rattle.av1_plan.specs.Geometry.{shown_columns}
use Rattle.av1_tile.specs.declared.planes.Planes.{Planes}
use Rattle.av1_tile.specs.PlaneBlocks.{component}
use Rattle.av1_tile.specs.Walk.{samples_of}
use Rattle.av1_tiles.specs.Joined.{row_in}

pub sample_is : {T : Type 0} (num : T → ℕ) (pixel : ℕ → T) (back : (v : T) → pixel (num v) ≡ v) (source : List T) (c : ℕ) (v : T) → c < length source →
    v ≡ get_or source c v → v ≡ pixel (slice_index (map num source) c)
sample_is num pixel back source c v lt is = sym (back v) ∙ ap pixel (ap num is ∙ sym (get_or-map num source c v 0 lt))

-- a row of a plane has as many samples as the plane has columns
pub row_length : {T : Type 0} (num : T → ℕ) (h : Header) (planes : Planes T) (p y : ℕ) (row : List T) → map num row ≡ row_in num h planes p y →
    length row ≡ shown_columns h p
row_length num h planes p y row is = length_shown num row (row_in num h planes p y) is
    ∙ length-by_index (shown_columns h p) (λ x. samples_of num planes (component p) x y)
