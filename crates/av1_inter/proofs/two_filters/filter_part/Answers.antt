use Rattle.std.proofs.Common.{arith, ap, refl, ◌+◌, ◌∙◌, pos}
use Rattle.av1_frame.specs.Arithmetic.{clip}
use Rattle.av1_frame.proofs.Paint.{paint_same}
use Rattle.av1_inter.specs.Motion.{weighted}
use Rattle.av1_inter.specs.Scaffolding.{both_ways, filtered, sample_of, settled}
use Rattle.av1_inter.specs.declared.rounding.Roundings.{Roundings}
use Rattle.av1_inter.proofs.Parts.{across_of, columns_filtered, columns_laid, rows_filtered, rows_laid, rows_of}
use Rattle.av1_inter.proofs.Sums.{weighted_same}
use Rattle.av1_inter.proofs.Table.{strip_short}
use Rattle.av1_inter.proofs.two_filters.filter_part.Goals as goal

pub filter_strip-requires-clause-laid : goal.filter_strip-requires-clause-laid
filter_strip-requires-clause-laid g c =
    rows_laid g.T.Pixel.num c.args.part.now g.row.N c.args.halves.now.across c.between_filters.result c.requires.part c.requires.width c.requires.filters.across
    c.between_filters.ensures.small

pub filter_strip-requires-2-clause-laid : goal.filter_strip-requires-2-clause-laid
filter_strip-requires-2-clause-laid g c =
    columns_laid _ (λ v. refl) c.filter_strip.new.target g.row.N c.args.part.now.area.height _ (filtered g.T.Pixel.num (rows_of c.args.part.now g.row.N)
    (across_of c.args.halves.now.across c.between_filters.result)) c.filter_strip.ensures refl (strip_short g.row.N c.requires.kind)
    c.requires.low _ refl refl c.requires.width refl c.args.halves.now.down c.roundings.result.both c.requires.filters.down c.roundings.ensures.small.both

pub returns : goal.returns
returns g c =
    let part = c.args.part.now in
    let num = g.T.Pixel.num in
    let across = c.args.halves.now.across in
    let down = c.args.halves.now.down in
    let d = part.bit_depth in
    let between = c.between_filters.result in
    let row = filtered num (rows_of part g.row.N) (across_of across between) in
    c.filter_strip-2.ensures
    ∙ paint_same c.args.stride part.area _ (λ r q _. g.W.Writer.written d (both_ways (g.W.Writer.roundings d).both d across down (sample_of num part) r q))
    c.args.target.now
    (λ r q v k l. ap (g.W.Writer.written d)
    (columns_filtered _ (λ v. refl) c.filter_strip.new.target g.row.N part.area.height _ row c.filter_strip.ensures refl (strip_short g.row.N c.requires.kind)
    c.requires.low down c.roundings.result.both r q k (omega (arith, l, c.requires.width))
    ∙ ap (λ s. settled s (weighted down (λ t. pos (clip 15 (row (r + t) q))))) (ap (λ (x : Roundings). x.both) c.roundings.ensures.value)
    ∙ ap (settled (g.W.Writer.roundings d).both)
    (weighted_same down _ _
    (λ t i. ap (λ z. pos (clip 15 z)) (rows_filtered num part g.row.N across between c.between_filters.ensures.value (r + t) q)))))
