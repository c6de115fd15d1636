-- The part of each plane that a leaf covers. Plane 0 is Y, 1 is U and 2 is V.
use Rattle.std.specs.Prelude.{ℕ, zero, suc, ◌+◌, ◌*◌, ◌/◌, ◌%◌, ◌^◌, Bool, ◌==◌, ◌&&◌, ◌||◌, not, nat_lt, if◌then◌else◌}
use Rattle.std.specs.Prelude.{Option, Some, None, List}
use Rattle.std.specs.List.{filter_map, range_with_len}
use Rattle.std.specs.Result.{result_unwrap_or}
use Rattle.av1_blocks.specs.declared.partition.BlockSize.{BlockSize}
use Rattle.av1_blocks.specs.declared.transform.TxSize.{TxSize}
use Rattle.av1_blocks.specs.Blocks.{block_width, block_height}
use Rattle.av1_blocks.specs.Chroma.{subsampled_size, largest_chroma_tx_size}
use Rattle.av1_blocks.specs.Transforms.{tx_width, tx_height}
use Rattle.av1_plan.specs.declared.header.Header.{Header}
use Rattle.av1_plan.specs.declared.geometry.PlaneArea.{PlaneArea}
use Rattle.av1_plan.specs.declared.geometry.TransformBlock.{TransformBlock}

-- ---- versions

-- Whether the samples of a plan follow the AV1 specification in the rules in which rav1e departs from it: in the third
-- version.
abbrev pub follows_av1 : Header → Bool
follows_av1 h = h.version == 3

-- ---- planes

-- the logarithm to base 2 of how many luma columns a sample of plane p stands for; `ydec` counts luma rows
unfoldable pub xdec : Header → ℕ → ℕ
xdec h zero = 0
xdec h (suc p) = if nat_lt h.sampling 2 then 1 else 0

-- the same logarithm for luma rows: 1 in the chroma of 4:2:0
unfoldable pub ydec : Header → ℕ → ℕ
ydec h zero = 0
ydec h (suc p) = if h.sampling == 0 then 1 else 0

-- the coded side of a frame with this shown side: frames are coded in whole squares of 8x8 luma samples (AV1
-- specification: compute image size function)
abbrev pub coded_side : ℕ → ℕ
coded_side n = (n + 7) / 8 * 8

-- the columns and the rows of luma that are coded, in samples
unfoldable pub coded_width : Header → ℕ
coded_width h = coded_side h.width

unfoldable pub coded_height : Header → ℕ
coded_height h = coded_side h.height

-- the columns of plane p that are coded, in samples
unfoldable pub plane_width : Header → ℕ → ℕ
plane_width h p = coded_width h / 2 ^ xdec h p

-- the rows of plane p that are coded, in samples
unfoldable pub plane_height : Header → ℕ → ℕ
plane_height h p = coded_height h / 2 ^ ydec h p

-- the columns of plane p that are shown, in samples: half of luma's, rounded up, if the plane is halved
unfoldable pub shown_columns : Header → ℕ → ℕ
shown_columns h p = (h.width + xdec h p) / 2 ^ xdec h p

-- the rows of plane p that are shown, in samples
unfoldable pub shown_rows : Header → ℕ → ℕ
shown_rows h p = (h.height + ydec h p) / 2 ^ ydec h p

-- the number of samples of plane p that are shown: a reference and the output have this many
abbrev pub plane_len : Header → ℕ → ℕ
plane_len h p = shown_columns h p * shown_rows h p

-- whether a slot carries reference planes: its bit of the mask is set
unfoldable pub has_slot : Header → ℕ → Bool
has_slot h slot = h.mask / 2 ^ slot % 2 == 1

-- whether a sample of luma lies in the coded frame
unfoldable pub is_inside : Header → ℕ → ℕ → Bool
is_inside h x y = nat_lt x (coded_width h) && nat_lt y (coded_height h)

-- ---- leaves

-- whether a leaf at column x and row y of luma carries chroma. Of two leaves of side 4 in a halved direction, the
-- second carries chroma for both (AV1 specification: HasChroma)
unfoldable pub carries_chroma : Header → ℕ → ℕ → BlockSize → Bool
carries_chroma h x y size = not (xdec h 1 == 1 && block_width size == 4 && x / 4 % 2 == 0)
    && not (ydec h 1 == 1 && block_height size == 4 && y / 4 % 2 == 0)

-- whether a leaf covers a part of plane p
unfoldable pub covers_plane : Header → ℕ → ℕ → BlockSize → ℕ → Bool
covers_plane h x y size p = p == 0 || carries_chroma h x y size

-- where a leaf's rectangle in plane p begins, in one direction: in chroma at a multiple of 4 samples
unfoldable pub plane_place : ℕ → ℕ → ℕ → ℕ
plane_place zero z dec = z
plane_place (suc p) z dec = z / 4 / 2 ^ dec * 4

-- the size of that rectangle: the block's own in luma, the decimated one in chroma (if there is none, the leaf is
-- rejected)
unfoldable pub plane_size : Header → BlockSize → ℕ → BlockSize
plane_size h size p = result_unwrap_or (subsampled_size size (xdec h p) (ydec h p)) size

-- the size of the leaf's transforms in plane p: its own in luma, the largest in chroma
unfoldable pub plane_tx_size : Header → BlockSize → TxSize → ℕ → TxSize
plane_tx_size h size tx_size zero = tx_size
plane_tx_size h size tx_size (suc p) = largest_chroma_tx_size size (xdec h (suc p)) (ydec h (suc p))

-- the rectangle in plane p of a leaf that covers a part of it, and the size of the transforms there
unfoldable pub plane_area : Header → ℕ → ℕ → BlockSize → TxSize → ℕ → PlaneArea
plane_area h x y size tx_size p =
    record {
      x = plane_place p x (xdec h p);
      y = plane_place p y (ydec h p);
      size = plane_size h size p;
      tx_size = plane_tx_size h size tx_size p;
    }

-- ---- transform blocks, numbered in raster order over the whole rectangle

-- the number of blocks side by side
unfoldable pub blocks_across : PlaneArea → ℕ
blocks_across a = block_width a.size / tx_width a.tx_size

-- the number of blocks
unfoldable pub block_count : PlaneArea → ℕ
block_count a = blocks_across a * (block_height a.size / tx_height a.tx_size)

-- where block n begins in the plane
unfoldable pub block_at : PlaneArea → ℕ → TransformBlock
block_at a n =
    record { x = a.x + n % blocks_across a * tx_width a.tx_size; y = a.y + n / blocks_across a * tx_height a.tx_size }

-- whether there is a block n, and it begins in the coded plane p
unfoldable pub has_block : Header → ℕ → PlaneArea → ℕ → Bool
has_block h p a n = nat_lt n (block_count a) && nat_lt (block_at a n).x (plane_width h p)
    && nat_lt (block_at a n).y (plane_height h p)

-- block n, if there is one that begins in the coded plane p
unfoldable pub transform_block : Header → ℕ → PlaneArea → ℕ → Option TransformBlock
transform_block h p a n = if has_block h p a n then Some (block_at a n) else None

-- the blocks of a rectangle that begin in the coded plane
unfoldable pub transform_blocks : Header → ℕ → PlaneArea → List TransformBlock
transform_blocks h p a = filter_map (transform_block h p a) (range_with_len 0 (block_count a))
