use Rattle.std.proofs.Common.{ℕ, Bool, arith, sym, ◌∙◌}
use Rattle.av1_sequence.specs.Kept.{slots_shown}
use Rattle.av1_sequence.specs.Slots.{is_read}
use Rattle.av1_sequence.proofs.Bits.{count_below, count_one, count_same}
use Rattle.av1_sequence.proofs.pictures.Pictures.count.Goals.{then-is_read, else-is_read}
use Rattle.av1_sequence.proofs.pictures.Pictures.count.Goals as goal

pub overflow_add-count : goal.overflow_add-count
overflow_add-count g c =
    let s = c.args.self.now in
    omega (
      arith,
      c.loop-slot.invariant,
      count_below (is_read c.args.head.now.slots (slots_shown g.T.Pixel.num s.header s.fi s.places)) c.loop-slot.slot,
      c.loop-slot-test.true,
    )

pub returns-clause-few : goal.returns-clause-few
returns-clause-few g c =
    let s = c.args.self.now in
    omega (
      arith,
      c.loop-slot.invariant,
      count_below (is_read c.args.head.now.slots (slots_shown g.T.Pixel.num s.header s.fi s.places)) c.loop-slot.slot,
      c.loop-slot.auto.slot-end,
    )

pub loop-slot-preserved : goal.loop-slot-preserved
loop-slot-preserved g c =
    let s = c.args.self.now in
    let test : ℕ → Bool = is_read c.args.head.now.slots (slots_shown g.T.Pixel.num s.header s.fi s.places) in
    elim c.if-is_read.branch [
      | then-is_read w ↦ count_one test c.loop-slot.slot c.loop-slot.invariant (sym w.if-is_read.true ∙ c.is_read.ensures) w.count-is
      | else-is_read w ↦ count_same test c.loop-slot.slot c.loop-slot.invariant (sym w.if-is_read.false ∙ c.is_read.ensures) w.count-is
    ]
