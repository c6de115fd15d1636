use Rattle.std.proofs.Common.{◌≡◌, subst, arith}
use Rattle.av1_tiles.proofs.Slots.{AreCut, none_cut, one_more, cut_by, all_stored, all_values}
use Rattle.av1_tiles.proofs.tile.tile_references.Goals as goal

pub loop-slot-init : goal.loop-slot-init
loop-slot-init c = record { cut = rw c.new-cut.ensures.items (none_cut c.args.header.now c.args.area c.args.references.now) }

pub loop-slot-preserved : goal.loop-slot-preserved
loop-slot-preserved c = record {
  cut =
      let is =
      cut_by c.args.header.now c.args.area c.args.references.now c.loop-slot.slot _ c.in_ok-planes.planes
      (omega (arith, c.loop-slot-test.true, c.requires.eight)) c.index-references-slot.is c.in_ok-planes.ensures.slot c.in_ok-planes.ensures.value in
      rw c.in_ok-push.ensures.items
      (one_more c.args.header.now c.args.area c.args.references.now c.loop-slot.slot c.loop-slot.cut.items c.in_ok-planes.planes c.loop-slot.invariant.cut
      is);
}

eight_cut : (c : goal.After-loop-slot) → AreCut c.args.header.now c.args.area c.args.references.now 8 c.loop-slot.cut.items
eight_cut c =
    let end : c.loop-slot.slot ≡ 8 = omega (arith, c.loop-slot-test.false, c.loop-slot.auto.slot-end) in
    subst (λ n. AreCut c.args.header.now c.args.area c.args.references.now n c.loop-slot.cut.items) end c.loop-slot.invariant.cut

pub returns-clause-value : goal.returns-clause-value
returns-clause-value c = all_values c.args.header.now c.args.area c.args.references.now 8 c.loop-slot.cut.items c.requires.eight (eight_cut c)

pub returns-clause-eight : goal.returns-clause-eight
returns-clause-eight c = omega (arith, (eight_cut c).count)

pub returns-clause-slots : goal.returns-clause-slots
returns-clause-slots c = all_stored c.args.header.now c.args.area c.args.references.now 8 c.loop-slot.cut.items (eight_cut c)
