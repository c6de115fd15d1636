use Rattle.std.proofs.Common.{ℤ, ◌∙◌, ◌+◌, ◌*◌, ◌+ℤ◌, pos, ap, get_or, sym, to_z, of_z, w64}
use Rattle.std.proofs.lemmas.List.{get_or-drop}
use Rattle.av1_frame.specs.Slices.{nearest_visible}
use Rattle.av1_frame.proofs.Paint.{row_painted_rest, paint_row_same}
use Rattle.av1_calls.proofs.window.gather.Goals as goal

pub loop-r-preserved : goal.loop-r-preserved
loop-r-preserved g c =
    let a = c.args in
    let rows = c.split_at_mut-row.ensures in
    let p = a.plane in
    let x : ℤ = to_z w64 (of_z w64 a.x) in
    row_painted_rest a.stride a.area c.loop-r.r _ _ c.loop-r.window _ _ _ c.requires.rows c.loop-r-test.true c.loop-r.invariant rows.front rows.back
    (c.gather_row.ensures ∙ paint_row_same a.area.width _ _ _
    (λ q v h. ap (λ n. get_or c.split_at.result.1.now n v) (sym (c.parts_of-parts.ensures.same q h))
    ∙ ap (λ s. get_or s (nearest_visible p.width (x +ℤ pos q)) v) c.split_at.ensures.back
    ∙ get_or-drop _ a.source.now (nearest_visible p.width (x +ℤ pos q)) v
    ∙ ap (λ n. get_or a.source.now ((p.y + n) * p.stride + p.x + nearest_visible p.width (x +ℤ pos q)) v) c.nearest_behind-line.ensures.value))
