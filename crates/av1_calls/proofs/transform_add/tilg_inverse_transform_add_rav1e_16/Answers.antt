use Rattle.std.proofs.Common.{true, false, ◌∙◌, ap, pos, ◌+ℤ◌}
use Rattle.av1_frame.specs.Arithmetic.{clip}
use Rattle.av1_frame.specs.Samples.{paint}
use Rattle.av1_itx.specs.Residue.{residue_by}
use Rattle.av1_calls.proofs.Blocks.{adds_residue}
use Rattle.av1_calls.proofs.transform_add.tilg_inverse_transform_add_rav1e_16.Goals as goal

pub returns-in-Ok : goal.returns-in-Ok
returns-in-Ok c =
    let a = c.args in
    let block = c.in-Ok.block in
    let put_on = λ (r q v : _). clip a.bit_depth (pos v +ℤ residue_by false block.size block.kind a.bit_depth a.coefficients.now r q) in
    let added = c.add_deep.ensures ∙ ap (λ place. paint a.stride place put_on a.samples.now) c.in-Ok.ensures.area in
    adds_residue false true a.bit_depth a.tx_size a.tx_type a.stride a.x a.y a.coefficients.now a.samples.now _ block.size block.kind c.in-Ok.ensures.found
    (c.in-Ok.ensures.depth, c.in-Ok.ensures.fit) added
