use Rattle.std.proofs.Common.{arith, ap, length, sym, ℕ, ◌+◌, ◌*◌, ◌<◌, ◌≤◌, ◌∙◌}
use Rattle.av1_frame.specs.Samples.{paint_row}
use Rattle.av1_frame.proofs.Paint.{row_painted_rest, paint_row_same}
use Rattle.av1_inter.specs.Scaffolding.{filtered}
use Rattle.av1_inter.proofs.one_filter.filter_row.Goals as goal

pub filter_line-values-requires : goal.filter_line-values-requires
filter_line-values-requires g c =
    let laid = c.requires.laid in
    let size : g.row.N * 2 < 9223372036854775808 = omega (arith, c.requires.short) in
    let start : ℕ = c.args.taps.now.start + c.args.r * c.args.strip.now.source_stride in
    let reach : start + g.row.N + 7 * c.args.taps.now.step ≤ length c.args.strip.now.source.now =
    omega (arith, c.requires.width, laid.reach c.args.r c.requires.inside) in (
      size,
      (
        laid.filter,
        (
          c.requires.few,
          (
            c.requires.zeros,
            (
              laid.rounding,
              (
                c.requires.kind,
                (c.requires.short, (reach, (λ q t h b. laid.small c.args.r q t c.requires.inside (omega (arith, h, c.requires.width)) b))),
              ),
            ),
          ),
        ),
      ),
    )

pub returns : goal.returns
returns g c = λ s whole before.
    let rows = c.split_at_mut-row.ensures in
    let written = g.W.Writer.written c.args.strip.now.bit_depth in
    let value = filtered g.T.Pixel.num c.args.strip.now c.args.taps.now c.args.r in
    row_painted_rest c.args.stride c.args.strip.now.area c.args.r _ s c.args.target.now _ _ _ whole c.requires.inside before
    rows.front rows.back
    (c.write_row.ensures ∙ paint_row_same g.row.N _ (λ q _. written (value q)) _ (λ q v l. ap written (c.filter_line-values.ensures q l))
    ∙ ap (λ n. paint_row n (λ q _. written (value q)) c.split_at_mut-row.result.1.now) (sym c.requires.width))
