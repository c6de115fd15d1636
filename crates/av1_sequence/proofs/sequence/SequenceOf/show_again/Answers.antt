use Rattle.std.proofs.Common.{refl}
use Rattle.av1_sequence.proofs.Framed.{depth_still, not_apart, placed_there, ready_still_held, room_still, slot_again, stands_still}
use Rattle.av1_sequence.proofs.sequence.SequenceOf.show_again.Goals as goal

pub also_in-requires : goal.also_in-requires
also_in-requires g c = record { kept = c.self.inside.pictures.keeps.kept c.args.slot c.in-Some.held c.requires.slot c.in-Some.is }

pub invariant_of-self-inside : goal.invariant_of-self-inside
invariant_of-self-inside g c =
    let before = c.self.inside.pictures in
    let after = c.also_in.new.self in
    let stands = before.keeps.kept c.args.slot c.in-Some.held c.requires.slot c.in-Some.is in (
      room_still before.header after.header c.self.inside.memory c.self.inside.memory c.also_in.ensures.header refl c.self.inside.room,
      (
        ready_still_held g.T.Pixel.num before.header after.header c.self.inside.apart c.also_in.ensures.header c.self.inside.ready,
        (
          (λ e. not_apart c.in-Some.held e),
          (
            (λ place e. placed_there g.T.Pixel.num after.header after.fi c.in-Some.held place
                (stands_still g.T.Pixel.num before.header after.header before.fi after.fi c.in-Some.held c.also_in.ensures.header c.also_in.ensures.kept
                stands) e),
            (depth_still before.header after.header g.T.Pixel.BITS c.also_in.ensures.header c.self.inside.fits, tt),
          ),
        ),
      ),
    )

pub returns-in-Some-clause-shown : goal.returns-in-Some-clause-shown
returns-in-Some-clause-shown g c = λ yes.
    slot_again c.args.self.now c.self.inside c.self.view_is c.args.slot c.in-Some.held c.args.refresh c.requires.slot c.in-Some.is c.also_in.new.self.header
    c.also_in.new.self.fi c.also_in.new.self.places c.also_in.ensures.header c.also_in.ensures.kept c.also_in.ensures.slots
