use Rattle.std.proofs.Common.{arith, ap, ◌∙◌, ◌≡◌, rules, replicate, length, get_or, pos, w32}
use Rattle.std.specs.Int.{cast_signed, cast_unsigned}
use Rattle.av1_plan.specs.declared.leaf.Triple.{Triple}
use Rattle.av1_tile.proofs.ListValues.{triples_more, with_triple_is}
use Rattle.av1_tile.proofs.coefficients.load_coefficients.Goals as goal

pub loop-triple-preserved : goal.loop-triple-preserved
loop-triple-preserved g c =
    let d : Triple = record { block = 0; place = 0; value = pos 0 } in
    let l = c.loop-triple in
    let t : Triple = get_or c.args.triples.now l.triple-index d in
    let same : length l.coefficients ≡ length c.put_value.new.coefficients = omega arith in
    let kept : cast_signed w32 (cast_unsigned w32 t.value) ≡ t.value = search rules in
    triples_more c.args.block _ _ _ _ c.args.triples.now l.triple-index d c.loop-triple-test.true l.invariant (c.put_value.ensures
    ∙ with_triple_is c.args.block _ _ _ _ t c.from.ensures c.from-in-loop-triple.ensures kept) (ap (λ n. replicate n (pos 0)) same)
