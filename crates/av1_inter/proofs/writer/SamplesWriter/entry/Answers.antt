use Rattle.std.proofs.Common.{rules, ◌^◌, ◌-◌, ◌<◌, ◌∙◌, ap, pos, subst, sym, ℕ, w16, FitsSigned}
use Rattle.av1_frame.proofs.Depths.{below_depth}
use Rattle.av1_frame.proofs.Within.{clip_within}
use Rattle.av1_inter.proofs.Halves.{cut_is}
use Rattle.av1_inter.proofs.writer.SamplesWriter.entry.Goals as goal

pub from_u32-requires : goal.from_u32-requires
from_u32-requires g c =
    let z : FitsSigned w16 c.args.value = search rules in
    let m : FitsSigned w16 c.max.result = search rules in
    let d = c.args.bit_depth in
    let h = c.greatest.ensures ∙ ap (λ (n : ℕ). pos (2 ^ n - 1)) c.depth_of.ensures.value in
    let e = cut_is d c.args.value c.max.result c.greatest.result c.min.result c.requires.depths z m c.max.ensures.value h
    c.min.ensures.value in
    below_depth _ d _ (subst (λ (n : ℕ). n < 2 ^ d) (sym e) (clip_within d c.args.value)) c.requires.serves

pub returns : goal.returns
returns g c =
    let z : FitsSigned w16 c.args.value = search rules in
    let m : FitsSigned w16 c.max.result = search rules in
    let h = c.greatest.ensures ∙ ap (λ (n : ℕ). pos (2 ^ n - 1)) c.depth_of.ensures.value in
    c.from_u32.ensures
    ∙ ap g.T.Pixel.pixel
    (cut_is c.args.bit_depth c.args.value c.max.result c.greatest.result c.min.result c.requires.depths z m c.max.ensures.value h
    c.min.ensures.value)
