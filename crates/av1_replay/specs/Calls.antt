-- The bytes of the fields of each kind of call in its row, before other bytes.
use Rattle.std.specs.Prelude.{ℕ, List, ◌∷◌}
use Rattle.av1_blocks.specs.Blocks.{block_number}
use Rattle.av1_blocks.specs.Transforms.{tx_number, tx_type_number}
use Rattle.av1_replay.specs.Fields.{flag_before, four_before, signed_before, two_before}
use Rattle.av1_replay.specs.Rows.{format_number, margins_before, signed_numbers_before, way_number}
use Rattle.av1_replay.specs.declared.availability.Availability.{Availability}
use Rattle.av1_replay.specs.declared.availability.PlacedBlock.{PlacedBlock}
use Rattle.av1_replay.specs.declared.availability.Unit.{Unit}
use Rattle.av1_replay.specs.declared.call.BlockCall.{BlockCall}
use Rattle.av1_replay.specs.declared.call.BlockCall.TheVariants as kinds
use Rattle.av1_replay.specs.declared.edge.Edge.{Edge}
use Rattle.av1_replay.specs.declared.edge.TransformPlace.{TransformPlace}
use Rattle.av1_replay.specs.declared.edge.Sheet.{Sheet}
use Rattle.av1_replay.specs.declared.intra.FromLuma.{FromLuma}
use Rattle.av1_replay.specs.declared.intra.Intra.{Intra}
use Rattle.av1_replay.specs.declared.luma.DrawnLuma.{DrawnLuma}
use Rattle.av1_replay.specs.declared.motion.Average.{Average}
use Rattle.av1_replay.specs.declared.motion.Reference.{Reference}
use Rattle.av1_replay.specs.declared.network.Network.{Network}
use Rattle.av1_replay.specs.declared.samples.Format.{Format}
use Rattle.av1_replay.specs.declared.samples.Format.TheVariants.{Short}
use Rattle.av1_replay.specs.declared.transform.DrawnTransform.{DrawnTransform}

-- a one-dimensional transform
abbrev pub network_before : Network → List ℕ → List ℕ
network_before n others = n.number ∷ n.range ∷ signed_numbers_before n.drawn (four_before n.seed others)

-- a transform of a block
abbrev pub transform_before : DrawnTransform → List ℕ → List ℕ
transform_before t others =
    tx_number t.size ∷ tx_type_number t.kind ∷ format_number t.format ∷
    signed_numbers_before t.drawn (margins_before t.margins (four_before t.seed others))

-- a block of a reference
abbrev pub reference_before : Reference → List ℕ → List ℕ
reference_before r others =
    format_number r.format ∷ r.width ∷ r.height ∷ r.col_frac ∷ r.row_frac ∷ r.filter_x ∷ r.filter_y ∷
    way_number r.way ∷ four_before r.seed others

-- an average of two blocks
abbrev pub average_before : Average → List ℕ → List ℕ
average_before a others =
    format_number a.format ∷ a.width ∷ a.height ∷
    margins_before a.margins (signed_numbers_before a.drawn (four_before a.seed others))

-- a block that is predicted from its sides
abbrev pub intra_before : Intra → List ℕ → List ℕ
intra_before i others =
    format_number i.format ∷ i.mode ∷ tx_number i.size ∷
    signed_before i.angle_step (i.has_left ∷ i.has_above ∷ i.edge_filter ∷ i.smooth_neighbour ∷
    two_before i.visible_columns (two_before i.visible_rows (i.left ∷ i.above ∷
    margins_before i.margins (way_number i.way ∷ four_before i.seed others))))

-- a block of chroma that is predicted from luma
abbrev pub from_luma_before : FromLuma → List ℕ → List ℕ
from_luma_before f others =
    intra_before f.intra (signed_before f.alpha (signed_numbers_before f.drawn others))

-- the dimensions of a plane and of a tile
abbrev pub sheet_before : Sheet → List ℕ → List ℕ
sheet_before s others =
    s.halved_columns ∷ s.halved_rows ∷ two_before s.width (two_before s.height (
    two_before s.tile_x (two_before s.tile_y (two_before s.tile_width (two_before s.tile_height others)))))

-- the positions of a transform and its block
abbrev pub place_before : TransformPlace → List ℕ → List ℕ
place_before p others =
    two_before p.x (two_before p.y (
    two_before p.cell_x (two_before p.cell_y (two_before p.unit_x (two_before p.unit_y others)))))

-- an edge
abbrev pub edge_before : Edge → List ℕ → List ℕ
edge_before e others =
    format_number e.format ∷ e.block_size ∷ e.tx_size ∷ e.mode ∷ signed_before e.angle_step (e.edge_filter ∷
    sheet_before e.sheet (place_before e.place (e.left ∷ e.above ∷
    margins_before e.margins (way_number e.way ∷ four_before e.seed others))))

-- luma over a block of chroma
abbrev pub luma_before : DrawnLuma → List ℕ → List ℕ
luma_before l others =
    format_number l.format ∷ l.block_size ∷ l.xdec ∷ l.ydec ∷ l.w_pad ∷ l.h_pad ∷
    margins_before l.margins (way_number l.way ∷ four_before l.seed others)

-- a block, and a transform in it
abbrev pub block_before : PlacedBlock → List ℕ → List ℕ
block_before b others = block_number b.size ∷ b.x ∷ b.y ∷ others

abbrev pub unit_before : Unit → List ℕ → List ℕ
unit_before u others = tx_number u.size ∷ u.row ∷ u.column ∷ others

-- a call that asks whether the samples beside a transform are coded before it
abbrev pub availability_before : Availability → List ℕ → List ℕ
availability_before a others =
    block_before a.block (flag_before a.first (flag_before a.second (
    unit_before a.unit (flag_before a.halved_columns (flag_before a.halved_rows others)))))

-- the number of a call's kind
abbrev pub kind_of : BlockCall → ℕ
kind_of (kinds.Network _) = 2
kind_of (kinds.Transform _) = 3
kind_of (kinds.Put _ _) = 4
kind_of (kinds.Prepare _) = 5
kind_of (kinds.Average _) = 6
kind_of (kinds.Intra _) = 7
kind_of (kinds.FromLuma _) = 8
kind_of (kinds.Edge _) = 9
kind_of (kinds.Luma _) = 10
kind_of (kinds.Availability _) = 11

-- the format of the call's samples; for a call without samples it is the format of 8 bits
abbrev pub format_of : BlockCall → Format
format_of (kinds.Network _) = Short
format_of (kinds.Transform transform) = transform.format
format_of (kinds.Put reference _) = reference.format
format_of (kinds.Prepare reference) = reference.format
format_of (kinds.Average average) = average.format
format_of (kinds.Intra intra) = intra.format
format_of (kinds.FromLuma from_luma) = from_luma.intra.format
format_of (kinds.Edge edge) = edge.format
format_of (kinds.Luma luma) = luma.format
format_of (kinds.Availability _) = Short

-- a call
abbrev pub call_before : BlockCall → List ℕ → List ℕ
call_before (kinds.Network network) others = network_before network others
call_before (kinds.Transform transform) others = transform_before transform others
call_before (kinds.Put reference margins) others = reference_before reference (margins_before margins others)
call_before (kinds.Prepare reference) others = reference_before reference others
call_before (kinds.Average average) others = average_before average others
call_before (kinds.Intra intra) others = intra_before intra others
call_before (kinds.FromLuma from_luma) others = from_luma_before from_luma others
call_before (kinds.Edge edge) others = edge_before edge others
call_before (kinds.Luma luma) others = luma_before luma others
call_before (kinds.Availability asked) others = availability_before asked others
