-- The contracts of the calls that predict a transform in its plane. Such a call first prepares the edge and then
-- predicts from it, as the calls for these steps do. AV1 specification: intra prediction process.
use Rattle.std.specs.Prelude.{◌≡◌, ◌≢◌, ◌⊎◌, ℕ, ◌+◌, ◌-◌, ◌==◌, if◌then◌else◌, List, length, take, drop, slice_index, ℤ}
use Rattle.av1_blocks.specs.declared.predict.PredictionMode.TheVariants as modes
use Rattle.av1_calls.specs.IntraBlocks.{Predicts, PredictsBy}
use Rattle.av1_calls.specs.IntraEdges.{PreparesEdge}
use Rattle.av1_calls.specs.declared.intra.IntraBlock.{IntraBlock}
use Rattle.av1_calls.specs.declared.intra_edge.EdgeBlock.{EdgeBlock}
use Rattle.av1_calls.specs.declared.intra_edge.EdgePlane.{EdgePlane}
use Rattle.av1_calls.specs.declared.intra_edge.TheConstants.{EDGE_SAMPLES}
use Rattle.av1_calls.specs.declared.intra_plane.TheConstants.{FROM_LUMA}
use Rattle.av1_calls.specs.declared.status.TheConstants.{DONE}

-- ---- the transform as a block that is predicted

-- 1 if a column or row has one before it, else 0
abbrev pub has_before : ℕ → ℕ
has_before place = if place == 0 then 0 else 1

-- A side lies in the tile unless the transform begins at the tile's own side. The plane says how much of it is visible.
abbrev pub block_in : EdgePlane → EdgeBlock → (smooth : ℕ) → IntraBlock
block_in p b smooth = record {
  mode = b.mode;
  tx_size = b.tx_size;
  angle_step = b.angle_step;
  bit_depth = b.bit_depth;
  has_left = has_before b.x;
  has_above = has_before b.y;
  edge_filter = b.edge_filter;
  smooth_neighbour = smooth;
  visible_columns = p.width - p.tile_x - b.x;
  visible_rows = p.height - p.tile_y - b.y;
}

-- the column and the row of its first sample in the samples of the plane
abbrev pub column_in : EdgePlane → EdgeBlock → ℕ
column_in p b = p.x + p.tile_x + b.x

abbrev pub row_in : EdgePlane → EdgeBlock → ℕ
row_in p b = p.y + p.tile_y + b.y

-- ---- the two calls

-- after the call that prepares an edge, with this status, a buffer of 257 samples holds `edge`
abbrev pub IsEdgeFor : (bits : ℕ) → EdgePlane → EdgeBlock → (samples edge : List ℕ) → (status : ℕ) → Type 0
IsEdgeFor bits p b samples edge status =
    (room : List ℕ) × ((length edge ≡ EDGE_SAMPLES) × PreparesEdge bits (λ n. n) p b samples room edge status)

-- The transform is predicted from sides and a corner. Chroma from luma uses the differences `ac` and the weight
-- `alpha`. The other modes are given by their number.
abbrev pub PredictsFrom : {T : Type 0} → (bits : ℕ) → (T → ℕ) → (ℕ → T) → EdgePlane → EdgeBlock → (smooth : ℕ) →
    (left : List T) → (corner : T) → (above : List T) → (ac : List ℤ) → (alpha : ℤ) → (before after : List T) →
    (answer : ℕ) → Type 0
PredictsFrom bits num pixel p b smooth left corner above ac alpha before after answer =
    ((b.mode ≡ FROM_LUMA) × PredictsBy bits num pixel (block_in p b smooth) modes.UV_CFL_PRED p.stride (column_in p b)
    (row_in p b) left corner above ac alpha before after answer)
    ⊎ ((b.mode ≢ FROM_LUMA) × Predicts bits num pixel (block_in p b smooth) p.stride (column_in p b) (row_in p b) left
    corner above before after answer)

-- the transform is predicted from the edge that such a buffer holds
abbrev pub PredictsFromRoom : (bits : ℕ) → EdgePlane → EdgeBlock → (smooth : ℕ) → (edge : List ℕ) → (ac : List ℤ) →
    (alpha : ℤ) → (before after : List ℕ) → (answer : ℕ) → Type 0
PredictsFromRoom bits p b smooth edge ac alpha before after answer =
    PredictsFrom bits (λ n. n) (λ n. n) p b smooth (take 128 edge) (slice_index edge 128)
    (drop 129 edge) ac alpha before
    after answer

-- ---- the contracts

-- The call predicts a transform in its plane, in samples of at most this many bits. `before` is the samples before the
-- call, `after` after it, and `answer` is the status.
pub record PredictsInPlane (bits : ℕ) (plane : EdgePlane) (at : EdgeBlock) (smooth : ℕ) (ac : List ℤ) (alpha : ℤ)
    (before after : List ℕ) (answer : ℕ) : Type 0 where
  -- The edge is prepared from the samples before the call, and the transform is predicted from this edge.
  pub done : answer ≡ DONE → (edge : List ℕ) × (IsEdgeFor bits plane at before edge DONE
      × PredictsFromRoom bits plane at smooth edge ac alpha before after DONE)
  -- The call that prepares the edge rejects its arguments, or the call that predicts from the edge does, with this
  -- status.
  pub refused : answer ≢ DONE → (edge : List ℕ) × (IsEdgeFor bits plane at before edge answer
      ⊎ (IsEdgeFor bits plane at before edge DONE
      × PredictsFromRoom bits plane at smooth edge ac alpha before after answer))
  -- If the call rejects an argument, the samples are unchanged.
  pub kept : answer ≢ DONE → after ≡ before
