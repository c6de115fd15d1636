use Rattle.std.proofs.lemmas.Int.{ints}
use Rattle.std.proofs.Common.{ℕ, ◌≡◌, ◌∙◌, ◌+◌, ap, arith, get_or, length, map, pos, subst, sym, to_z, of_z, w64, ◌+ℤ◌}
use Rattle.av1_frame.specs.Areas.{AreRows}
use Rattle.av1_frame.specs.Samples.{paint}
use Rattle.av1_frame.specs.declared.plane_region.StoredArea.{StoredArea}
use Rattle.av1_inter.specs.Places.{IsReadFrom, read_before}
use Rattle.av1_calls.specs.Motions.{IsSource, place, read_at}
use Rattle.av1_calls.specs.MovedBlocks.{gathered_area, motion_at, moved_source, nearest_place}
use Rattle.av1_calls.proofs.MovedBlocks.{before_few, first_passed, gathered_rows, gathered_source, part_rows}
use Rattle.av1_calls.proofs.moved.gathered.Goals as goal

pub gather-requires-clause-rows : goal.gather-requires-clause-rows
gather-requires-clause-rows g c =
    let m = c.args.moved in
    subst (λ (s : StoredArea). AreRows (m.block.width + 7) s (length c.args.window.now)) (sym c.gathered_area-area.ensures)
    (part_rows m.block m.place.col_frac m.place.row_frac (length c.args.window.now) c.requires.sides c.requires.whole)

pub gather-requires-clause-left : goal.gather-requires-clause-left
gather-requires-clause-left g c =
    let m = c.args.moved in
    let at = m.place in
    let r = c.requires in
    let x_is = first_passed at.x c.first_of-x.result at.col_frac m.block.width m.plane.width c.first_of-x.ensures r.found.column.least r.found.column.greatest
    r.sides.wide r.source.near.few_columns in
    omega (arith, ints, x_is, r.found.column.least, r.sides.wide, before_few at.col_frac)

pub gather-requires-clause-top : goal.gather-requires-clause-top
gather-requires-clause-top g c =
    let m = c.args.moved in
    let at = m.place in
    let r = c.requires in
    let y_is = first_passed at.y c.first_of-y.result at.row_frac m.block.height m.plane.height c.first_of-y.ensures r.found.row.least r.found.row.greatest
    r.sides.high r.source.near.few_rows in
    omega (arith, ints, y_is, r.found.row.least, r.sides.high, before_few at.row_frac)

pub returns-clause-lies : goal.returns-clause-lies
returns-clause-lies g c =
    let a = c.args in
    let m = a.moved in
    let b = m.block in
    let at = m.place in
    let r = c.requires in
    let x_is = first_passed at.x c.first_of-x.result at.col_frac b.width m.plane.width c.first_of-x.ensures r.found.column.least r.found.column.greatest
    r.sides.wide r.source.near.few_columns in
    let y_is = first_passed at.y c.first_of-y.result at.row_frac b.height m.plane.height c.first_of-y.ensures r.found.row.least r.found.row.greatest
    r.sides.high r.source.near.few_rows in
    let x = to_z w64 (of_z w64 c.first_of-x.result) in
    let y = to_z w64 (of_z w64 c.first_of-y.result) in
    let is : c.gather.new.window ≡ paint (b.width + 7) (gathered_area b at.col_frac at.row_frac)
    (λ r q v. get_or a.src.now (nearest_place m.plane (x +ℤ pos q) (y +ℤ pos r)) v) a.window.now =
    c.gather.ensures ∙ ap (λ (s : StoredArea). paint (b.width + 7) s (λ r q v. get_or a.src.now (nearest_place m.plane (x +ℤ pos q) (y +ℤ pos r)) v)
    a.window.now) c.gathered_area-area.ensures in
    let lies = gathered_rows g.T.Pixel.num a.src.now a.window.now c.gather.new.window m.plane b at x y r.found x_is y_is
    (part_rows b at.col_frac at.row_frac (length a.window.now) r.sides r.whole) r.source.source r.source.near.some_columns r.source.near.some_rows is in
    subst (λ (n : ℕ). IsSource (place (b.width + 7) n c.read_before-2.result) (motion_at b at.col_frac at.row_frac) (length c.gather.new.window))
    (sym c.read_before.ensures.value)
    (subst (λ (n : ℕ). IsSource (place (b.width + 7) (read_before at.col_frac) n) (motion_at b at.col_frac at.row_frac) (length c.gather.new.window))
    (sym c.read_before-2.ensures.value) lies)

pub returns-clause-same : goal.returns-clause-same
returns-clause-same g c =
    let a = c.args in
    let m = a.moved in
    let b = m.block in
    let at = m.place in
    let r = c.requires in
    let num = g.T.Pixel.num in
    let x_is = first_passed at.x c.first_of-x.result at.col_frac b.width m.plane.width c.first_of-x.ensures r.found.column.least r.found.column.greatest
    r.sides.wide r.source.near.few_columns in
    let y_is = first_passed at.y c.first_of-y.result at.row_frac b.height m.plane.height c.first_of-y.ensures r.found.row.least r.found.row.greatest
    r.sides.high r.source.near.few_rows in
    let x = to_z w64 (of_z w64 c.first_of-x.result) in
    let y = to_z w64 (of_z w64 c.first_of-y.result) in
    let is : c.gather.new.window ≡ paint (b.width + 7) (gathered_area b at.col_frac at.row_frac)
    (λ r q v. get_or a.src.now (nearest_place m.plane (x +ℤ pos q) (y +ℤ pos r)) v) a.window.now =
    c.gather.ensures ∙ ap (λ (s : StoredArea). paint (b.width + 7) s (λ r q v. get_or a.src.now (nearest_place m.plane (x +ℤ pos q) (y +ℤ pos r)) v)
    a.window.now) c.gathered_area-area.ensures in
    let same = gathered_source num a.src.now a.window.now c.gather.new.window m.plane b at x y r.found x_is y_is
    (part_rows b at.col_frac at.row_frac (length a.window.now) r.sides r.whole) r.source.source r.source.near.some_columns r.source.near.some_rows is in
    subst (λ (n : ℕ). IsReadFrom at.col_frac at.row_frac b.width b.height (read_at (place (b.width + 7) n c.read_before-2.result)
    (motion_at b at.col_frac at.row_frac) (map num c.gather.new.window)) (moved_source m.plane b (map num a.src.now))) (sym c.read_before.ensures.value)
    (subst (λ (n : ℕ). IsReadFrom at.col_frac at.row_frac b.width b.height (read_at (place (b.width + 7) (read_before at.col_frac) n)
    (motion_at b at.col_frac at.row_frac) (map num c.gather.new.window)) (moved_source m.plane b (map num a.src.now))) (sym c.read_before-2.ensures.value) same)
