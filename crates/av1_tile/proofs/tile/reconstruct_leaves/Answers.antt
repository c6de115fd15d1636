use Rattle.std.proofs.Common.{◌≤◌, arith, refl, ap, subst, sym, ◌∙◌, length, take, List, pos, [], None}
use Rattle.std.specs.List.{fold}
use Rattle.std.proofs.lemmas.List.{take_all}
use Rattle.av1_blocks.specs.declared.partition.BlockSize.TheVariants.{BLOCK_4X4}
use Rattle.av1_blocks.specs.declared.predict.PredictionMode.TheVariants.{DC_PRED}
use Rattle.av1_blocks.specs.declared.transform.TxSize.TheVariants.{TX_4X4}
use Rattle.av1_blocks.specs.declared.transform.TxType.TheVariants.{DCT_DCT}
use Rattle.av1_plan.specs.declared.leaf.Leaf.{Leaf}
use Rattle.av1_plan.specs.declared.leaf.LeafKind.TheVariants.{Intra}
use Rattle.av1_plan.specs.Values.{leaf_list, leaves_value, triple_list}
use Rattle.av1_plan.specs.Plan.{LeafValue}
use Rattle.av1_tile.specs.declared.planes.Planes.{Planes}
use Rattle.av1_tile.specs.Predicted.{Keeping, gathered, keeping_step}
use Rattle.av1_tile.specs.Walk.{Known, at_start, cell_at, motions_of, steps_by, with_all_known, with_header}
use Rattle.av1_tile.proofs.Lifts.{layout_kept}
use Rattle.av1_tile.proofs.PlanFits.{whole_frame}
use Rattle.av1_tile.proofs.PlanLeaves.{KnowSame, is_leaf_at, known_more, leaf_more, leaf_read, length_leaves, motions_serve, no_motion_serves, turn_begins}
use Rattle.av1_tile.proofs.PlanLeaves.{turn_fits}
use Rattle.av1_tile.proofs.tile.reconstruct_leaves.Goals as goal

-- what a read past the end would give
no_leaf : Leaf
no_leaf = record {
  x = 0;
  y = 0;
  size = BLOCK_4X4;
  kind = Intra DC_PRED (pos 0) None;
  tx_size = TX_4X4;
  tx_type = DCT_DCT;
  uv_type = None;
  first = 0;
  counts = [];
}

pub loop-index-init : goal.loop-index-init
loop-index-init g c = record {
  walked = λ value serves. refl;
  stores = c.requires.held.stores;
  layout = record { y = refl; u = refl; v = refl };
  cells = c.requires.cells;
  count = refl;
  known = record { told = λ cx cy hx hy. refl; motions = λ cx cy. refl };
  motions = no_motion_serves c.args.header.now;
}

pub reconstruct_leaf-requires-clause-fits : goal.reconstruct_leaf-requires-clause-fits
unfolding no_leaf
reconstruct_leaf-requires-clause-fits g c =
    let leaves = c.args.leaves.now in
    let a = is_leaf_at leaves c.loop-index.index c.leaves.result.now no_leaf _ _ _ c.leaves.ensures.items
    (omega (arith, ap length c.leaves.ensures.items, ap length c.leaves-index-end.ensures.items)) c.triples.ensures c.triples-in-loop-index.ensures
    c.triples-in-loop-index-2.ensures in
    turn_fits leaves c.args.header.now c.loop-index.index _ _ _ _ c.args.planes.now c.loop-index.planes a c.loop-index.invariant.layout c.requires.fits

pub loop-index-preserved : goal.loop-index-preserved
unfolding no_leaf
loop-index-preserved g c =
    let leaves = c.args.leaves.now in
    let h = c.args.header.now in
    let i = c.loop-index.index in
    let held = c.loop-index.invariant in
    let turn = c.reconstruct_leaf.ensures in
    let a = is_leaf_at leaves i c.leaves.result.now no_leaf _ _ _ c.leaves.ensures.items
    (omega (arith, ap length c.leaves.ensures.items, ap length c.leaves-index-end.ensures.items)) c.triples.ensures c.triples-in-loop-index.ensures
    c.triples-in-loop-index-2.ensures in
    let start = at_start (cell_at c.args.cells.now) in
    let all = with_all_known start (take i (leaves_value leaves)) in
    let known : List Leaf → Known = λ ls. record { told = cell_at c.loop-index.cells; motions = motions_of (take i ls) } in
    let stored = c.leaves-in-loop-index.result.now in
    let same : KnowSame h (known stored) all = subst (λ (ls : List Leaf). KnowSame h (known ls) all) (sym c.leaves-in-loop-index.ensures.items) held.known in
    let own = leaf_read leaves h i _ _ _ _ (known stored) all a (whole_frame h c.requires.held.frame)
    (turn_begins leaves h i _ _ _ _ c.args.planes.now a c.requires.fits) same in
    let fits = turn_fits leaves h i _ _ _ _ c.args.planes.now c.loop-index.planes a held.layout c.requires.fits in
    record {
      walked = λ value serves.
          let keep = keeping_step g.T.Pixel.num g.T.Pixel.pixel (with_header h value) in
          let now : Keeping (Planes _) _ = (c.loop-index.planes, gathered c.loop-index.buffers.kept c.loop-index.buffers.edges.prepared) in
          leaf_more keep leaves h i _ start (c.args.planes.now, gathered c.args.buffers.now.kept c.args.buffers.now.edges.prepared) now
          (c.reconstruct_leaf.new.planes, gathered c.reconstruct_leaf.new.buffers.kept c.reconstruct_leaf.new.buffers.edges.prepared) a.inside a.is
          (held.walked value serves) (turn.walked value serves ∙ ap (fold keep now) own);
      stores = turn.kept.stores;
      layout = layout_kept c.args.planes.now c.loop-index.planes c.reconstruct_leaf.new.planes held.layout turn.kept.layout;
      cells = c.note.ensures.cells;
      count = c.note.ensures.count ∙ held.count;
      known = known_more leaves h i _ start (cell_at c.loop-index.cells) (cell_at c.note.new.self) a.inside a.stored a.own a.is held.known
          (λ cx cy hx hy. c.note.ensures.noted cx cy (omega (arith, hx, held.cells.columns)) (omega (arith, hy, held.cells.rows)));
      motions = motions_serve h (leaf_list leaves) i _ a.stored a.own held.motions fits.serves;
    }

pub returns-clause-walked : goal.returns-clause-walked
returns-clause-walked g c = λ value serves.
    let leaves = c.args.leaves.now in
    let past : length (leaves_value leaves) ≤ c.loop-index.index =
    omega (arith, length_leaves (triple_list leaves) (leaf_list leaves), ap length c.leaves-index-end.ensures.items) in
    c.loop-index.invariant.walked value serves
    ∙ ap (λ (ls : List LeafValue). fold (keeping_step g.T.Pixel.num g.T.Pixel.pixel (with_header c.args.header.now value))
    (c.args.planes.now, gathered c.args.buffers.now.kept c.args.buffers.now.edges.prepared)
    (steps_by c.args.header.now (at_start (cell_at c.args.cells.now)) ls)) (take_all c.loop-index.index _ past)
