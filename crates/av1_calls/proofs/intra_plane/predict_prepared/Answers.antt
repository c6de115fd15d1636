use Rattle.std.proofs.Common.{inl, inr, w16}
use Rattle.std.proofs.lemmas.Int.{to_z-of_z}
use Rattle.av1_blocks.specs.declared.predict.PredictionMode.TheVariants as modes
use Rattle.av1_calls.specs.IntraPlanes.{block_in, column_in, row_in}
use Rattle.av1_calls.proofs.PlaneCalls.{numbered_there, predicted_there}
use Rattle.av1_calls.proofs.intra_plane.predict_prepared.Goals as goal

pub returns-then-mode-eq-FROM_LUMA : goal.returns-then-mode-eq-FROM_LUMA
returns-then-mode-eq-FROM_LUMA g c =
    let a = c.args in
    let t = a.at in
    inl (
      c.if-mode-eq-FROM_LUMA.true,
      predicted_there g.T.Pixel.BITS g.T.Pixel.num g.T.Pixel.pixel t.plane.stride _ (block_in t.plane t.block t.smooth_neighbour) _
          (column_in t.plane t.block) _
          (row_in t.plane t.block) _ _ a.corner _ _ a.samples.now _ _ c.block_in-block.ensures c.column_in.ensures c.row_in.ensures
          c.split_at.ensures.front
          c.split_at-2.ensures.back modes.UV_CFL_PRED a.ac.now _ a.alpha (to_z-of_z w16 a.alpha c.ranges.alpha) c.predict_by.ensures,
    )

pub returns-else-mode-eq-FROM_LUMA : goal.returns-else-mode-eq-FROM_LUMA
returns-else-mode-eq-FROM_LUMA g c =
    let a = c.args in
    let t = a.at in
    inr (
      c.if-mode-eq-FROM_LUMA.false,
      numbered_there g.T.Pixel.BITS g.T.Pixel.num g.T.Pixel.pixel t.plane.stride _ (block_in t.plane t.block t.smooth_neighbour) _ (column_in t.plane t.block) _
          (row_in t.plane t.block) _ _ a.corner _ _ a.samples.now _ _ c.block_in-block.ensures c.column_in.ensures c.row_in.ensures
          c.split_at.ensures.front
          c.split_at-2.ensures.back c.predict_by_number.ensures,
    )
