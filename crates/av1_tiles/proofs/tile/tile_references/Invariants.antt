use Rattle.av1_tiles.proofs.Slots.{AreCut}
use Rattle.av1_tiles.proofs.tile.tile_references.Given as goal

abbrev pub invariant-loop-slot : goal.invariant-loop-slot
invariant-loop-slot l = record {
  cut : AreCut l.header l.area l.references l.slot l.cut.items;
}
