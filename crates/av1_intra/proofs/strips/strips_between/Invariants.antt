use Rattle.std.proofs.Common.{ℕ, ◌≡◌, ◌<◌, ◌*◌, ◌^◌, min}
use Rattle.av1_frame.specs.Samples.{corner, paint}
use Rattle.av1_intra.specs.Sides.{entries}
use Rattle.av1_intra.specs.Directional.{between}
use Rattle.av1_intra.proofs.strips.strips_between.Given as goal

abbrev pub invariant-loop-g : goal.invariant-loop-g
invariant-loop-g g l =
    (l.samples ≡ paint l.stride (corner l.area l.area.width (min (8 * l.g) l.area.height))
    (λ i j _. g.T.Pixel.pixel (between l.bit_depth (entries l.above.numbers) l.above.upsampling (entries l.left.numbers) l.left.upsampling
    l.slopes.dx l.slopes.dy i j)) l.initial.samples)
    × ((q : ℕ) → entries l.strip q < 2 ^ g.T.Pixel.BITS)
