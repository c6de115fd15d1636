use Rattle.std.proofs.Common.{◌+◌, arith, refl, ap, sym, ◌∙◌, cond}
use Rattle.av1_intra.specs.EdgeFilter.{filtered}
use Rattle.av1_intra.specs.Upsampling.{upsampled}
use Rattle.av1_intra.specs.Sides.{Side, entries}
use Rattle.av1_intra.proofs.SideEntries.{entries_filtered, kept_past}
use Rattle.av1_intra.proofs.filtered_side.prepare.Goals as goal

pub upsample_side-requires-clause-past : goal.upsample_side-requires-clause-past
upsample_side-requires-clause-past c = λ e l.
    let f = entries_filtered (c.args.smoothed + 1) c.args.smoothed c.args.strength c.args.numbers.now _ c.filter_edge.ensures refl (omega arith) in
    ap (λ (A : Side). A e) f ∙ kept_past c.args.smoothed c.args.strength e (entries c.args.numbers.now) (omega (arith, l, c.requires.smoothed.1))
    ∙ c.requires.past e l

pub returns-then-upsample : goal.returns-then-upsample
returns-then-upsample c =
    let f = entries_filtered (c.args.smoothed + 1) c.args.smoothed c.args.strength c.args.numbers.now _ c.filter_edge.ensures refl (omega arith) in
    let F = filtered c.args.smoothed c.args.strength (entries c.args.numbers.now) in
    c.upsample_side.ensures ∙ ap (upsampled c.args.bit_depth c.args.places) f
    ∙ sym (ap (λ b. cond b (upsampled c.args.bit_depth c.args.places F) F) c.if-upsample.true)

pub returns-else-upsample : goal.returns-else-upsample
returns-else-upsample c =
    let f = entries_filtered (c.args.smoothed + 1) c.args.smoothed c.args.strength c.args.numbers.now _ c.filter_edge.ensures refl (omega arith) in
    let F = filtered c.args.smoothed c.args.strength (entries c.args.numbers.now) in
    f ∙ sym (ap (λ b. cond b (upsampled c.args.bit_depth c.args.places F) F) c.if-upsample.false)
