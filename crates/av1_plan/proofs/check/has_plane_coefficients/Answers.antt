use Rattle.std.proofs.Common.{rules, ◌≡◌, refl, sym, length}
use Rattle.av1_plan.specs.Validity.{has_plane_coefficients}
use Rattle.av1_plan.proofs.Faults.{no_triples}
use Rattle.av1_plan.proofs.Spans.{triples_of_leaf}
use Rattle.av1_plan.proofs.check.has_plane_coefficients.Goals as goal

pub returns-then-is_empty : goal.returns-then-is_empty
unfolding has_plane_coefficients
returns-then-is_empty c =
    let all = c.args.leaves.now in
    let e = triples_of_leaf all.triples.items all.leaves.items c.args.i c.args.p c.args.leaf.now c.requires.stored in
    let none : length c.triples-triples.result.now ≡ 0 = search rules in
    sym (rw (← e, ← c.triples-triples.ensures) (no_triples c.args.header.now c.args.p _ c.triples-triples.result.now none))

pub returns : goal.returns
unfolding has_plane_coefficients
returns c =
    let all = c.args.leaves.now in
    let e = triples_of_leaf all.triples.items all.leaves.items c.args.i c.args.p c.args.leaf.now c.requires.stored in
    rw (c.are_coefficients.ensures, c.triples-triples.ensures, e, c.plane_area-area.ensures) refl
