use Rattle.std.proofs.Common.{arith}
use Rattle.av1_sequence.proofs.Bits.{some_bit}
use Rattle.av1_sequence.proofs.Keeping.{AreReplaced, put_in, put_keeps, put_shown, put_slots, put_stands, stood_coded, stood_ready}
use Rattle.av1_sequence.proofs.pictures.Pictures.keep.Goals as goal

pub free_place-place-requires : goal.free_place-place-requires
free_place-place-requires g c = record { some = some_bit c.args.refresh (omega (arith, c.ranges.refresh)) c.requires.some }

pub invariant_of-self : goal.invariant_of-self
invariant_of-self g c =
    let place = c.free_place-place in
    let next = c.replaced-self in
    let are : AreReplaced c.args.self.now.places next.result c.args.refresh place.result =
    record { below = place.ensures.below; free = place.ensures.free; count = next.ensures.count; new = next.ensures.new; old = next.ensures.old } in
    let put =
    put_in c.args.self.now.header c.args.self.now.fi c.replace_slot-before.new.self c.args.planes c.from.ensures c.pad_shown.ensures
    c.pad_shown-2.ensures c.pad_shown-3.ensures
    c.replace_slot-before.ensures.after
    in
    record { keeps = put_keeps c.requires.ready c.args.self.now.keeps are put }

pub returns-clause-slots : goal.returns-clause-slots
returns-clause-slots g c =
    let place = c.free_place-place in
    let next = c.replaced-self in
    let are : AreReplaced c.args.self.now.places next.result c.args.refresh place.result =
    record { below = place.ensures.below; free = place.ensures.free; count = next.ensures.count; new = next.ensures.new; old = next.ensures.old } in
    let put =
    put_in c.args.self.now.header c.args.self.now.fi c.replace_slot-before.new.self c.args.planes c.from.ensures c.pad_shown.ensures
    c.pad_shown-2.ensures c.pad_shown-3.ensures
    c.replace_slot-before.ensures.after
    in
    put_slots c.requires.ready c.args.self.now.keeps are put

pub returns-clause-shown : goal.returns-clause-shown
returns-clause-shown g c =
    let place = c.free_place-place in
    let next = c.replaced-self in
    let are : AreReplaced c.args.self.now.places next.result c.args.refresh place.result =
    record { below = place.ensures.below; free = place.ensures.free; count = next.ensures.count; new = next.ensures.new; old = next.ensures.old } in
    let put =
    put_in c.args.self.now.header c.args.self.now.fi c.replace_slot-before.new.self c.args.planes c.from.ensures c.pad_shown.ensures
    c.pad_shown-2.ensures c.pad_shown-3.ensures
    c.replace_slot-before.ensures.after
    in
    put_shown c.requires.ready c.args.self.now.keeps are put

pub returns-clause-kept : goal.returns-clause-kept
returns-clause-kept g c =
    let place = c.free_place-place in
    let next = c.replaced-self in
    let are : AreReplaced c.args.self.now.places next.result c.args.refresh place.result =
    record { below = place.ensures.below; free = place.ensures.free; count = next.ensures.count; new = next.ensures.new; old = next.ensures.old } in
    let put =
    put_in c.args.self.now.header c.args.self.now.fi c.replace_slot-before.new.self c.args.planes c.from.ensures c.pad_shown.ensures
    c.pad_shown-2.ensures c.pad_shown-3.ensures
    c.replace_slot-before.ensures.after
    in
    put_stands c.requires.ready c.args.self.now.keeps are put

pub returns-clause-free : goal.returns-clause-free
returns-clause-free g c =
    let keeps = c.args.self.now.keeps in
    stood_ready g.T.Pixel.num c.args.self.now.header c.args.self.now.fi c.args.self.now.places keeps _ _ _ c.replace_slot-before.ensures.value
    c.as_planes.ensures

pub as_planes-requires : goal.as_planes-requires
as_planes-requires g c =
    stood_coded g.T.Pixel.num c.args.self.now.header c.args.self.now.fi c.args.self.now.places c.args.self.now.keeps _ _ c.replace_slot-before.ensures.value
