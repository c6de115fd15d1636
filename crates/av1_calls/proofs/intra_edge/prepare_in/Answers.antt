use mir.Val.{SFits}
use Rattle.std.proofs.Common.{rules, ℕ, ℤ, pos, ◌≡◌, ◌-◌, ◌≤◌, ◌∷◌, [], arith, ap, ◌∙◌, map, length, reverse, subst, not, eqb, to_z, of_z, w8, w64}
use Rattle.std.proofs.lemmas.Int.{to_z-of_z}
use Rattle.std.proofs.lemmas.List.{length-reverse}
use Rattle.av1_blocks.specs.declared.predict.IntraParam.TheVariants.{AngleDelta}
use Rattle.av1_edges.specs.Edges.{Edge, position_of, prepared_edge}
use Rattle.av1_frame.specs.Samples.{part}
use Rattle.av1_calls.specs.IntraEdges.{cell_of, edge_in}
use Rattle.av1_calls.proofs.EdgeCalls.{part_count}
use Rattle.av1_calls.proofs.intra_edge.prepare_in.Goals as goal

pub returns : goal.returns
returns g c =
    let b = c.args.block in
    let n = c.args.names in
    let num = g.T.Pixel.num in
    let r = c.tile_in-tile.result in
    let e = c.get_intra_edges_to.ensures in
    let l = c.get_intra_edges_to.result.left in
    let m = c.get_intra_edges_to.result.above in
    let room = c.get_intra_edges_to.new.samples in
    let E = edge_in num r b n.mode n.size n.block in
    let P = λ (x y : ℤ) (d : ℕ) (s : ℤ). prepared_edge num r (position_of (cell_of b) b.unit_x b.unit_y n.block (record { x = x; y = y }) n.size) d n.mode
    (not (eqb b.edge_filter 0)) (AngleDelta s) in
    let turned = to_z w8 (of_z w8 b.angle_step) in
    let fits : SFits w8 b.angle_step = search rules in
    let fits_x : SFits w64 c.signed.result = search rules in
    let fits_y : SFits w64 c.signed-2.result = search rules in
    let row = to_z w64 (of_z w64 c.signed-2.result) in
    let same =
    ap (λ (x : ℤ). P x row c.from.result turned) (to_z-of_z w64 c.signed.result fits_x ∙ c.signed.ensures)
    ∙ ap (λ (y : ℤ). P (pos b.x) y c.from.result turned) (to_z-of_z w64 c.signed-2.result fits_y ∙ c.signed-2.ensures)
    ∙ ap (λ (d : ℕ). P (pos b.x) (pos b.y) d turned) c.from.ensures
    ∙ ap (P (pos b.x) (pos b.y) b.bit_depth) (to_z-of_z w8 b.angle_step fits) in
    let whole : length room ≡ 257 = omega arith in
    let left : map num (part (128 - l) l room) ≡ reverse E.left = e.left ∙ ap (λ (t : Edge). reverse t.left) same in
    let above : map num (part 129 m room) ≡ E.above = e.above ∙ ap (λ (t : Edge). t.above) same in
    let l_is : l ≡ length E.left = part_count num room (128 - l) l (reverse E.left) (omega (arith, e.few_left, whole)) left ∙ length-reverse E.left in
    let m_is : m ≡ length E.above = part_count num room 129 m E.above (omega (arith, e.few_above, whole)) above in (
      r,
      (
        c.tile_in-tile.ensures.tile,
        record {
          few_left = subst (λ (k : ℕ). k ≤ 128) l_is e.few_left;
          few_above = subst (λ (k : ℕ). k ≤ 128) m_is e.few_above;
          left = subst (λ (k : ℕ). map num (part (128 - k) k room) ≡ reverse E.left) l_is left;
          corner = e.corner ∙ ap (λ (t : Edge). t.corner ∷ []) same;
          above = subst (λ (k : ℕ). map num (part 129 k room) ≡ E.above) m_is above;
        },
      ),
    )
