use Rattle.std.proofs.Common.{◌≡◌, arith, rules, sym, ◌∙◌, to_z, of_z, w64}
use Rattle.std.proofs.lemmas.Int.{ints}
use Rattle.av1_blocks.specs.Transforms.{tx_width, tx_height}
use Rattle.av1_edges.specs.Parts.{angle}
use Rattle.av1_edges.proofs.Needed.{needed_along, needed_level}
use Rattle.av1_edges.proofs.parts.Parts.needed.Goals as goal

pub returns-then-is_directional-clause-value : goal.returns-then-is_directional-clause-value
returns-then-is_directional-clause-value c =
    let a = c.args in
    let whole : to_z w64 (of_z w64 c.angle.result) ≡ c.angle.result = omega (arith, ints) in
    let degrees : c.angle.result ≡ angle a.mode a.step = search rules in
    needed_along a.filter a.mode a.step a.x (tx_width a.tx_size) (tx_height a.tx_size) _ _ c.along.ensures (whole ∙ degrees) (sym c.if-is_directional.ensures)

pub returns-else-is_directional-clause-value : goal.returns-else-is_directional-clause-value
returns-else-is_directional-clause-value c =
    let a = c.args in
    needed_level a.filter a.mode a.step a.x (tx_width a.tx_size) (tx_height a.tx_size) _ c.level.ensures.value (sym c.if-is_directional.ensures)
