use mir.Val.{SFits}
use Rattle.std.proofs.Common.{ℤ, ◌∙◌, ap, rules, w16, w64}
use Rattle.std.proofs.lemmas.Int.{to_z-of_z}
use Rattle.av1_inter.specs.Reference.{sixteenths}
use Rattle.av1_calls.proofs.MotionPlaces.{place_same}
use Rattle.av1_calls.proofs.motion_place.place_of.Goals as goal

pub returns : goal.returns
returns c =
    let p = c.args.plane in
    let b = c.args.block in
    let columns = c.halvings-columns in
    let rows = c.halvings-rows in
    let fits_col : SFits w16 b.col = search rules in
    let fits_row : SFits w16 b.row = search rules in
    let fits_x : SFits w64 c.place_along.result = search rules in
    let fits_y : SFits w64 c.place_along-2.result = search rules in
    let col = to_z-of_z w16 b.col fits_col in
    let row = to_z-of_z w16 b.row fits_row in
    record {
      column = place_same b.x b.width p.width _ b.col _ _ _ _ col columns.ensures.value (to_z-of_z w64 c.place_along.result fits_x) c.place_along.ensures;
      row = place_same b.y b.height p.height _ b.row _ _ _ _ row rows.ensures.value (to_z-of_z w64 c.place_along-2.result fits_y) c.place_along-2.ensures;
      col_frac = c.fraction.ensures.value ∙ ap (λ (k : ℤ). sixteenths k columns.result) col ∙ ap (sixteenths b.col) columns.ensures.value;
      row_frac = c.fraction-2.ensures.value ∙ ap (λ (k : ℤ). sixteenths k rows.result) row ∙ ap (sixteenths b.row) rows.ensures.value;
      few_columns = c.fraction.ensures.small;
      few_rows = c.fraction-2.ensures.small;
    }
