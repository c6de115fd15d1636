-- The planes of a frame in memory.
use Rattle.std.specs.Prelude.{◌≡◌, ◌≢◌, ℕ, List}
use Rattle.av1_plan.specs.declared.header.Header.{Header}
use Rattle.av1_tile.specs.Canvas.{Component}
use Rattle.av1_tile.specs.Output.{visible}
use Rattle.av1_tile.specs.Walk.{AreFrame, samples_of}
use Rattle.av1_tiles.specs.declared.joined.Frame.{Frame}
use Rattle.av1_tiles.specs.declared.joined.FrameSamples.{FrameSamples}
use Rattle.av1_tiles.specs.declared.joined.FrameSamples.TheVariants.{Bytes, Words}

-- the samples of a frame as numbers, by column and row
abbrev pub samples_in : FrameSamples → Component → ℕ → ℕ → ℕ
samples_in (Bytes planes) = samples_of (λ v. v) planes
samples_in (Words planes) = samples_of (λ v. v) planes

-- the planes have the dimensions of the header, and one byte for each sample exactly if the depth is 8
abbrev pub HavePlanes : Header → FrameSamples → Type 0
HavePlanes h (Bytes planes) = AreFrame h planes × (h.depth ≡ 8)
HavePlanes h (Words planes) = AreFrame h planes × (h.depth ≢ 8)

abbrev pub IsFrame : Frame → Type 0
IsFrame f = HavePlanes f.header f.samples

-- the bytes of the frame's visible planes
abbrev pub frame_bytes : Frame → List ℕ
frame_bytes f = visible f.header (samples_in f.samples)
