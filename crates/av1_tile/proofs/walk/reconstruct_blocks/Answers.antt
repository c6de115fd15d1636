use Rattle.std.proofs.Common.{ℕ, ◌+◌, ◌-◌, ◌≡◌, take, drop, List, None, refl, arith, ap, ◌∙◌, sym, subst, ℤ}
use Rattle.std.specs.List.{fold}
use Rattle.av1_blocks.specs.Transforms.{tx_width}
use Rattle.av1_frame.specs.declared.plane.Plane.{Plane}
use Rattle.av1_intra.specs.ChromaFromLuma.{ac_at}
use Rattle.av1_plan.specs.Geometry.{block_count, transform_block}
use Rattle.av1_tile.specs.declared.plane_block.PlaneBlock.{PlaneBlock}
use Rattle.av1_tile.specs.Reference.{Scene}
use Rattle.av1_tile.specs.Predicted.{gathered, keeping_in}
use Rattle.av1_tile.specs.Steps.{joined, steps_at}
use Rattle.av1_tile.specs.Walk.{Stores, with_header}
use Rattle.av1_tile.proofs.BlockTriples.{IsRun, run_within, run_before, run_behind, run_is_own, own_fits, own_kept}
use Rattle.av1_tile.proofs.BlockSteps.{no_steps, some_across}
use Rattle.av1_tile.proofs.Loops.{fold_joined_more, fold_joined_none}
use Rattle.av1_tile.proofs.walk.reconstruct_blocks.Goals.{in-Some, in_default}
use Rattle.av1_tile.proofs.walk.reconstruct_blocks.Goals as goal

pub loop-n-init : goal.loop-n-init
loop-n-init g c =
    let a = c.args in
    let h = a.header.now in
    let block = a.block.now in
    let luma : PlaneBlock → ℕ → ℕ → ℤ = λ _. ac_at (tx_width block.area.tx_size) a.buffers.now.luma.items in
    let now = gathered a.buffers.now.kept a.buffers.now.edges.prepared in
    record {
      walked = λ value.
          fold_joined_none (keeping_in g.T.Pixel.num g.T.Pixel.pixel (with_header h value) block.plane luma) (a.plane.now, now)
          (steps_at h block a.triples.now);
      stores = c.requires.held.stores;
      config = refl;
      luma = refl;
      within = omega arith;
      before = λ k d l. absurd (omega (arith, l));
      behind = λ k d le l. omega arith;
      column = λ l. omega (arith, some_across block.area (omega (arith, l, c.block_count-n-end.ensures.value)), c.blocks_across-across.ensures.value);
      number = omega arith;
    }

pub reconstruct_block-requires-clause-fits : goal.reconstruct_block-requires-clause-fits
reconstruct_block-requires-clause-fits g c =
    let a = c.args in
    own_fits a.plane.now.plane_cfg c.loop-n.plane.plane_cfg a.header.now a.block.now a.triples.now c.loop-n.at
    (c.loop-n.at + c.leading_count.result - c.loop-n.at) c.loop-n.invariant.config c.requires.fits

pub loop-n-preserved : goal.loop-n-preserved
loop-n-preserved g c =
    let a = c.args in
    let h = a.header.now in
    let block = a.block.now in
    let all = a.triples.now in
    let luma : PlaneBlock → ℕ → ℕ → ℤ = λ _. ac_at (tx_width block.area.tx_size) a.buffers.now.luma.items in
    let keep = λ (value : Scene). keeping_in g.T.Pixel.num g.T.Pixel.pixel (with_header h value) block.plane luma in
    let n = c.loop-n.n in
    let at = c.loop-n.at in
    let count = c.leading_count.result in
    let end = at + count in
    let before = c.loop-n.plane in
    let after = c.match-place_in.plane in
    let start = gathered a.buffers.now.kept a.buffers.now.edges.prepared in
    let now = gathered c.loop-n.buffers.kept c.loop-n.buffers.edges.prepared in
    let next = gathered c.match-place_in.buffers.kept c.match-place_in.buffers.edges.prepared in
    let held = c.loop-n.invariant in
    let run : IsRun n all at count = record {
      within = held.within;
      before = held.before;
      behind = held.behind;
      rising = c.requires.fits.rising;
      counted = c.leading_count.ensures.within;
      own = c.leading_count.ensures.own;
      end = c.leading_count.ensures.end;
    } in
    let turn : ((value : Scene) → (after, next) ≡ fold (keep value) (before, now) (steps_at h block all n))
    × Stores g.T.Pixel.num h block.plane after × (after.plane_cfg ≡ before.plane_cfg) × (c.match-place_in.buffers.luma.items ≡ c.loop-n.buffers.luma.items) =
    elim c.match-place_in.branch [
      | in-Some w ↦
          let number : w.in-Some.place.number ≡ n = w.in-Some.ensures.some.1 in
          let one = w.reconstruct_block.ensures in
          let own = take (end - at) (drop at all) in (
            λ value. ap (λ (z : Plane _). (z, next)) w.plane-is
                ∙ ap (λ (b : _). (w.reconstruct_block.new.plane, gathered b.kept b.edges.prepared)) w.buffers-is ∙ one.walked value
                ∙ ap (λ (ac : List ℤ). fold
                (keeping_in g.T.Pixel.num g.T.Pixel.pixel (with_header h value) block.plane (λ _. ac_at (tx_width block.area.tx_size) ac)) (before, now)
                (steps_at h block own w.in-Some.place.number)) held.luma
                ∙ ap (λ (m : ℕ). fold (keep value) (before, now) (steps_at h block own m)) number
                ∙ own_kept g.T.Pixel.num g.T.Pixel.pixel (with_header h value) block.plane luma h block all n at end (run_is_own n all at count run)
                (before, now),
            subst (Stores g.T.Pixel.num h block.plane) (sym w.plane-is) one.kept.stores,
            ap (λ (p : Plane _). p.plane_cfg) w.plane-is ∙ one.kept.config,
            ap (λ (b : _). b.luma.items) w.buffers-is ∙ one.luma,
          )
      | in_default w ↦
          let none : transform_block h block.plane block.area n ≡ None = w.in_default.ensures.none in (
            λ value. ap (λ (z : Plane _). (z, next)) w.plane-is ∙ ap (λ (b : _). (before, gathered b.kept b.edges.prepared)) w.buffers-is
                ∙ no_steps (keep value) h block all n (before, now) none,
            subst (Stores g.T.Pixel.num h block.plane) (sym w.plane-is) held.stores,
            ap (λ (p : Plane _). p.plane_cfg) w.plane-is,
            ap (λ (b : _). b.luma.items) w.buffers-is,
          )
    ] in
    record {
      walked = λ value.
          fold_joined_more (keep value) (a.plane.now, start) (before, now) (after, next) n (steps_at h block all) (held.walked value) (turn.0 value);
      stores = turn.1;
      config = turn.2 ∙ held.config;
      luma = turn.3 ∙ held.luma;
      within = run_within n all at count run;
      before = run_before n all at count run;
      behind = run_behind n all at count run;
      column = λ l. c.next_place-place.ensures.column;
      number = c.next_place-place.ensures.number ∙ ap (λ (m : ℕ). m + 1) held.number;
    }

pub returns-clause-walked : goal.returns-clause-walked
returns-clause-walked g c = λ value.
    let a = c.args in
    let block = a.block.now in
    let all : c.loop-n.n ≡ block_count block.area = omega (arith, c.loop-n-test.false, c.loop-n.auto.n-end, c.block_count-n-end.ensures.value) in
    let luma : PlaneBlock → ℕ → ℕ → ℤ = λ _. ac_at (tx_width block.area.tx_size) a.buffers.now.luma.items in
    c.loop-n.invariant.walked value
    ∙ ap (λ (m : ℕ). fold (keeping_in g.T.Pixel.num g.T.Pixel.pixel (with_header a.header.now value) block.plane luma)
    (a.plane.now, gathered a.buffers.now.kept a.buffers.now.edges.prepared) (joined m (steps_at a.header.now block a.triples.now))) all
