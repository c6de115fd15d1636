use Rattle.std.proofs.Common.{ℕ, Bool, arith, sym, ◌∙◌}
use Rattle.av1_sequence.specs.Kept.{slots_shown}
use Rattle.av1_sequence.specs.Slots.{is_read}
use Rattle.av1_sequence.proofs.Bits.{bits_below, bits_same, bits_set, power_small}
use Rattle.av1_sequence.proofs.pictures.Pictures.mask.Goals.{then-is_read, else-is_read}
use Rattle.av1_sequence.proofs.pictures.Pictures.mask.Goals as goal

pub overflow_add-mask : goal.overflow_add-mask
overflow_add-mask g c =
    let s = c.args.self.now in
    omega (
      arith,
      c.loop-slot.invariant,
      bits_below (is_read c.args.head.now.slots (slots_shown g.T.Pixel.num s.header s.fi s.places)) c.loop-slot.slot,
      power_small c.loop-slot.slot c.loop-slot-test.true,
    )

pub loop-slot-preserved : goal.loop-slot-preserved
loop-slot-preserved g c =
    let s = c.args.self.now in
    let test : ℕ → Bool = is_read c.args.head.now.slots (slots_shown g.T.Pixel.num s.header s.fi s.places) in
    elim c.if-is_read.branch [
      | then-is_read w ↦ bits_set test c.loop-slot.slot c.loop-slot.invariant (sym w.if-is_read.true ∙ c.is_read.ensures)
          (let small = power_small c.loop-slot.slot c.loop-slot-test.true in omega (arith, w.mask-is, small))
      | else-is_read w ↦ bits_same test c.loop-slot.slot c.loop-slot.invariant (sym w.if-is_read.false ∙ c.is_read.ensures) w.mask-is
    ]
