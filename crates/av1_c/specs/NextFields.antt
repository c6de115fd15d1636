-- The field that an unfinished plan needs next, in the numbers of C.
use Rattle.std.specs.Prelude.{ℕ, ◌==◌, nat_lt, if◌then◌else◌, Option, Some, None}
use Rattle.av1_blocks.specs.Blocks.{block_number}
use Rattle.av1_plan.specs.declared.nodes.Part.{Part}
use Rattle.av1_plan.specs.declared.nodes.Part.TheVariants.{Node, Leaf}
use Rattle.av1_c.specs.declared.build_next.NextField.{NextField}
use Rattle.av1_c.specs.declared.status.TheConstants.{NEXT_NOTHING, NEXT_REFERENCE, NEXT_MARK, NEXT_LEAF}

-- the number of the block size of a node at this level: 8x8, 16x16, 32x32 or 64x64
abbrev pub node_size : ℕ → ℕ
node_size level = if level == 1 then 3 else (if level == 2 then 6 else (if level == 3 then 9 else 12))

-- the field that this part begins with: the mark of a node, or a leaf; without a part the plan needs nothing more
abbrev pub part_field : Option Part → NextField
part_field None = record { slot = 8; kind = NEXT_NOTHING; size = 0; x = 0; y = 0 }
part_field (Some (Node level x y)) = record { slot = 8; kind = NEXT_MARK; size = node_size level; x = x; y = y }
part_field (Some (Leaf size x y)) = record { slot = 8; kind = NEXT_LEAF; size = block_number size; x = x; y = y }

-- the field that a plan needs next: the planes of this slot, or after all slots the field of this part
abbrev pub next_field : (slot : ℕ) → Option Part → NextField
next_field slot part =
    if nat_lt slot 8 then record { slot = slot; kind = NEXT_REFERENCE; size = 0; x = 0; y = 0 } else part_field part
