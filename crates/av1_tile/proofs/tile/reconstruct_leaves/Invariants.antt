use Rattle.std.proofs.Common.{◌≡◌, length, take}
use Rattle.std.specs.List.{fold}
use Rattle.av1_plan.specs.Values.{leaf_list, leaves_value}
use Rattle.av1_tile.specs.Reference.{Scene}
use Rattle.av1_tile.specs.Predicted.{gathered, keeping_step}
use Rattle.av1_tile.specs.Walk.{HasCells, MotionsServe, SameLayout, ServesScene, StoresAll, at_start, cell_at, motions_of, steps_by}
use Rattle.av1_tile.specs.Walk.{with_all_known}
use Rattle.av1_tile.specs.Walk.{with_header}
use Rattle.av1_tile.proofs.PlanLeaves.{KnowSame}
use Rattle.av1_tile.proofs.tile.reconstruct_leaves.Given as goal

abbrev pub invariant-loop-index : goal.invariant-loop-index
invariant-loop-index g l =
    let h = l.header in
    let done = take l.index (leaves_value l.leaves) in
    record {
      walked : (value : Scene) → ServesScene g.T.Pixel.num (with_header h value) l.from → (l.planes, gathered l.buffers.kept l.buffers.edges.prepared) ≡
          fold (keeping_step g.T.Pixel.num g.T.Pixel.pixel (with_header h value))
          (l.initial.planes, gathered l.initial.buffers.kept l.initial.buffers.edges.prepared) (steps_by h (at_start (cell_at l.initial.cells)) done);
      stores : StoresAll g.T.Pixel.num h l.planes;
      layout : SameLayout l.initial.planes l.planes;
      cells : HasCells h l.cells;
      count : length l.cells.cells.items ≡ length l.initial.cells.cells.items;
      known : KnowSame h (record { told = cell_at l.cells; motions = motions_of (take l.index (leaf_list l.leaves)) })
          (with_all_known (at_start (cell_at l.initial.cells)) done);
      motions : MotionsServe h (motions_of (take l.index (leaf_list l.leaves)));
    }
