use Rattle.std.proofs.Common.{◌≡◌, arith, ap, ◌∙◌, ◌+ℤ◌, to_z, of_z, w16, w32}
use Rattle.std.proofs.lemmas.Int.{ints, to_z-of_z}
use Rattle.av1_frame.specs.Arithmetic.{clip}
use Rattle.av1_intra.specs.ChromaFromLuma.{scaled_luma}
use Rattle.av1_intra.proofs.chroma_from_luma.sample_from_luma.Goals as goal

pub returns : goal.returns
returns g c =
    let dc = c.args.dc in
    let s = c.scaled_luma.result in
    let m = c.scaled_luma.ensures.small in
    let fits : to_z w32 (of_z w32 (to_z w32 (of_z w32 dc) +ℤ to_z w32 (of_z w32 s))) ≡ dc +ℤ s = omega (arith, ints) in
    let a = to_z-of_z w16 c.args.alpha c.ranges.alpha in
    let d = to_z-of_z w16 c.args.difference c.ranges.difference in
    let value : s ≡ scaled_luma c.args.alpha c.args.difference = c.scaled_luma.ensures.value ∙ ap (λ z. scaled_luma z (to_z w16 (of_z w16 c.args.difference))) a
    ∙ ap (scaled_luma c.args.alpha) d in
    c.clip.ensures ∙ ap (λ z. g.T.Pixel.pixel (clip c.args.bit_depth z)) (fits ∙ ap (λ z. dc +ℤ z) value)
