use Rattle.std.proofs.Common.{arith, rules, ◌≡◌, ◌*◌, ◌^◌, ◌<◌, ◌∙◌, ◌-ℤ◌, ap, set, subst, sym, ℕ, pos, map, slice_index, to_z, of_z, w16, FitsSigned}
use Rattle.std.proofs.lemmas.Int.{to_z-of_z}
use Rattle.std.proofs.lemmas.List.{get_or-map}
use Rattle.av1_frame.proofs.Paint.{paint_row_more}
use Rattle.av1_inter.specs.Motion.{bias, intermediate_bits}
use Rattle.av1_inter.proofs.copies.widen_row.Goals as goal

pub widen-requires-clause-within : goal.widen-requires-clause-within
widen-requires-clause-within g c =
    let num = g.T.Pixel.num in
    let row = c.args.source.now in
    let k = c.loop-c.c in
    let x = c.index-source-c.result in
    let n : slice_index (map num row) k ≡ num x = get_or-map num row k x 0 (omega arith) ∙ ap num (sym c.index-source-c.is) in
    subst (λ (v : ℕ). v < 2 ^ c.args.bit_depth) n (c.requires.within k c.loop-c-test.true)

pub loop-c-preserved : goal.loop-c-preserved
loop-c-preserved g c =
    let num = g.T.Pixel.num in
    let row = c.args.source.now in
    let d = c.args.bit_depth in
    let k = c.loop-c.c in
    let x = c.index-source-c.result in
    let n : slice_index (map num row) k ≡ num x = get_or-map num row k x 0 (omega arith) ∙ ap num (sym c.index-source-c.is) in
    let f : FitsSigned w16 c.widen.result = search rules in
    ap (λ u. set u k (to_z w16 (of_z w16 c.widen.result))) c.loop-c.invariant
    ∙ paint_row_more k _ _ _ (omega arith) (to_z-of_z w16 _ f ∙ c.widen.ensures ∙ ap (λ (m : ℕ). pos (m * 2 ^ intermediate_bits d) -ℤ bias d) (sym n))
