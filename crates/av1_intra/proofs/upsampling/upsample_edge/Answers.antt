use Rattle.std.proofs.Common.{◌≡◌, ℕ, ◌+◌, ◌-◌, ◌*◌, min, arith, ap, refl, ◌∙◌}
use Rattle.std.proofs.lemmas.Bool.Decides.{nat_tests}
use Rattle.av1_intra.specs.Sides.{numbers}
use Rattle.av1_intra.specs.Upsampling.{upsampled}
use Rattle.av1_intra.proofs.Upsampled.{upsampled_even, upsampled_odd, upsampled_first}
use Rattle.av1_intra.proofs.RowReads.{none_past, all_past, two_past, read_before, painted_past}
use Rattle.av1_intra.proofs.upsampling.upsample_edge.Goals as goal

pub loop-e-init : goal.loop-e-init
loop-e-init g c = none_past _ _ _ _ (omega arith)

pub loop-e-preserved : goal.loop-e-preserved
loop-e-preserved g c =
    let e = c.loop-e.e - 1 in
    let A = numbers g.T.Pixel.num c.args.edge.now in
    let G = λ (k : ℕ) (_v : _). g.T.Pixel.pixel (upsampled c.args.bit_depth c.args.size A k) in
    let i : c.loop-e.edge ≡ painted_past (2 * c.loop-e.e) (2 * c.args.size + 1) G c.args.edge.now = c.loop-e.invariant in
    let m : c.min.result ≡ min c.args.size (e + 2) = (let q = c.min.ensures in grind (arith, nat_tests)) in
    let a = read_before g.T.Pixel.num (2 * c.loop-e.e) (2 * c.args.size + 1) c.saturating_sub.result G _ _ _ _ i (omega arith)
    (omega arith) c.index-edge-saturating_sub.is c.to_u32-a.ensures.value in
    let b = read_before g.T.Pixel.num (2 * c.loop-e.e) (2 * c.args.size + 1) e G _ _ _ _ i (omega arith)
    (omega arith) c.index-edge-e.is c.to_u32-b.ensures.value in
    let d = read_before g.T.Pixel.num (2 * c.loop-e.e) (2 * c.args.size + 1) (e + 1) G _ _ _ _ i (omega arith)
    (omega arith) c.index-edge-e-in-loop-e.is c.to_u32-c.ensures.value in
    let f = read_before g.T.Pixel.num (2 * c.loop-e.e) (2 * c.args.size + 1) c.min.result G _ _ _ _ i (omega arith)
    (omega arith) c.index-edge-min.is c.to_u32-d.ensures.value in
    let u = upsampled_odd c.args.bit_depth c.args.size e _ _ _ _ _ A (omega arith) (a ∙ ap A c.saturating_sub.ensures) b d (f ∙ ap A m) refl in
    let v = upsampled_even c.args.bit_depth c.args.size (e + 1) _ A (omega arith) d in
    let w : 2 * (e + 1) ≡ 2 * e + 2 = omega arith in
    two_past (2 * e) (2 * c.args.size + 1) G c.args.edge.now c.loop-e.edge _ _
    (i ∙ ap (λ n. painted_past n (2 * c.args.size + 1) G c.args.edge.now) (omega arith))
    (omega arith) (omega arith)
    (c.halfway.ensures ∙ ap g.T.Pixel.pixel u)
    (c.from_u32.ensures ∙ ap g.T.Pixel.pixel (v ∙ ap (upsampled c.args.bit_depth c.args.size A) w))

pub returns : goal.returns
returns g c =
    let A = numbers g.T.Pixel.num c.args.edge.now in
    let G = λ (k : ℕ) (_v : _). g.T.Pixel.pixel (upsampled c.args.bit_depth c.args.size A k) in
    let i : c.loop-e.edge ≡ painted_past (2 * c.loop-e.e) (2 * c.args.size + 1) G c.args.edge.now = c.loop-e.invariant in
    i ∙ ap (λ n. painted_past n (2 * c.args.size + 1) G c.args.edge.now) (omega arith)
    ∙ all_past _ _ _ (λ d l. upsampled_first g.T.Pixel.num g.T.Pixel.pixel c.args.bit_depth c.args.size c.args.edge.now d g.met.T.Pixel.pixel_of_num l)
