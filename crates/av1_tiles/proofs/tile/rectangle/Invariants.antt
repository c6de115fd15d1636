use Rattle.std.proofs.Common.{◌≡◌, ◌+◌, ◌*◌, take, drop}
use Rattle.std.specs.List.{flat_map, range_with_len}
use Rattle.av1_tiles.proofs.tile.rectangle.Given as goal

abbrev pub invariant-loop-row : goal.invariant-loop-row
invariant-loop-row l = record {
  so_far : l.cut.items ≡ flat_map (λ row. take l.width (drop ((l.y + row) * l.stride + l.x) l.samples)) (range_with_len 0 l.row);
}
