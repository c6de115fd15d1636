use Rattle.std.proofs.Common.{◌≡◌, ◌+◌, ◌-◌, ◌*◌, ◌<◌, ◌≤◌, ◌^◌, length, get_or, refl, arith}
use Rattle.av1_plan.proofs.Spans.{span_within, stored_triples_at}
use Rattle.av1_plan.proofs.leaves.Leaves.triples.Goals as goal

within : (c : goal.After-deref) → c.triples_span-start.result.0 + c.triples_span-start.result.1 ≤ length c.args.self.now.triples.items
within c =
    omega (
      arith,
      span_within c.args.self.now.leaves.items (length c.args.self.now.triples.items) c.args.leaf c.args.p c.index.result.now c.args.self.now.follow
          c.requires.leaf c.index.ensures,
    )

-- a triple takes eight bytes
small : (c : goal.After-deref) → 8 * (c.triples_span-start.result.0 + c.triples_span-start.result.1) < 2 ^ 64
small c = omega (arith, within c, c.args.self.now.triples.small)

pub overflow_add-result : goal.overflow_add-result
overflow_add-result c = omega (arith, small c)

pub offset_bounds-deref-start : goal.offset_bounds-deref-start
offset_bounds-deref-start c = omega (arith, small c)

pub slice_bounds-result-end : goal.slice_bounds-result-end
slice_bounds-result-end c = let w = within c in omega (arith, w)

pub returns : goal.returns
returns c =
    let e = stored_triples_at c.args.self.now.triples.items c.args.self.now.leaves.items c.args.leaf c.args.p c.index.result.now c.requires.leaf c.index.ensures
    in
    let k : c.triples_span-start.result.0 + c.triples_span-start.result.1 - c.triples_span-start.result.0 ≡ get_or c.index.result.now.counts c.args.p 0 =
    omega arith in
    rw (e, k, c.triples_span-start.ensures.start, c.deref.ensures.value) refl
