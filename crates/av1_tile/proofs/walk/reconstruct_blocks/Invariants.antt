use Rattle.std.proofs.Common.{ℕ, ◌+◌, ◌*◌, ◌≡◌, ◌<◌, ◌≤◌, length, get_or}
use Rattle.std.specs.List.{fold}
use Rattle.av1_blocks.specs.Transforms.{tx_width}
use Rattle.av1_intra.specs.ChromaFromLuma.{ac_at}
use Rattle.av1_plan.specs.declared.leaf.Triple.{Triple}
use Rattle.av1_tile.specs.Reference.{Scene}
use Rattle.av1_tile.specs.Predicted.{gathered, keeping_in}
use Rattle.av1_tile.specs.Steps.{joined, steps_at}
use Rattle.av1_tile.specs.Walk.{Stores, with_header}
use Rattle.av1_tile.proofs.walk.reconstruct_blocks.Given as goal

abbrev pub invariant-loop-n : goal.invariant-loop-n
invariant-loop-n g l =
    record {
      walked : (value : Scene) → (l.plane, gathered l.buffers.kept l.buffers.edges.prepared) ≡
          fold (keeping_in g.T.Pixel.num g.T.Pixel.pixel (with_header l.header value) l.block.plane
          (λ _. ac_at (tx_width l.block.area.tx_size) l.initial.buffers.luma.items))
          (l.initial.plane, gathered l.initial.buffers.kept l.initial.buffers.edges.prepared) (joined l.n (steps_at l.header l.block l.triples));
      stores : Stores g.T.Pixel.num l.header l.block.plane l.plane;
      config : l.plane.plane_cfg ≡ l.initial.plane.plane_cfg;
      luma : l.buffers.luma.items ≡ l.initial.buffers.luma.items;
      within : l.at ≤ length l.triples;
      before : (k : ℕ) (d : Triple) → k < l.at → (get_or l.triples k d).block < l.n;
      behind : (k : ℕ) (d : Triple) → l.at ≤ k → k < length l.triples → l.n ≤ (get_or l.triples k d).block;
      column : l.n < l.n-end → l.place.0 < l.across;
      number : l.place.1 * l.across + l.place.0 ≡ l.n;
    }
