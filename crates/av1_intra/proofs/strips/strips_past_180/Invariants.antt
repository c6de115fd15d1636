use Rattle.std.proofs.Common.{ℕ, ◌≡◌, ◌<◌, ◌+◌, ◌*◌, ◌^◌, min}
use Rattle.av1_frame.specs.Samples.{corner, paint}
use Rattle.av1_intra.specs.Sides.{entries}
use Rattle.av1_intra.specs.Directional.{at}
use Rattle.av1_intra.proofs.strips.strips_past_180.Given as goal

abbrev pub invariant-loop-g : goal.invariant-loop-g
invariant-loop-g g l =
    (l.samples ≡ paint l.stride (corner l.area l.area.width (min (8 * l.g) l.area.height))
    (λ i j _. g.T.Pixel.pixel (at l.bit_depth (entries l.left.numbers) l.left.upsampling ((j + 1) * l.dy + 64) i)) l.initial.samples)
    × ((q : ℕ) → entries l.strip q < 2 ^ g.T.Pixel.BITS)
