use Rattle.std.proofs.Common.{◌-◌, ◌+◌, take, drop, length-take, arith}
use Rattle.av1_planwrite.proofs.Fronts.{begins_same, begins_then}
use Rattle.av1_planwrite.proofs.Packed.{at_most_two, piece_written, none_written}
use Rattle.av1_planwrite.proofs.text.Text.plane.Goals as goal

pub pieces-init : goal.pieces-init
pieces-init c = record {
  within = omega arith;
  so_far = none_written c.args.depth c.args.samples.now c.args.self.now.bytes.items;
  front = begins_same _;
}

pub pieces-preserved : goal.pieces-preserved
pieces-preserved c = record {
  within = omega (arith, c.min-count.ensures);
  so_far =
      piece_written c.args.depth c.args.samples.now _ _ _ c.pieces.at _ c.min-count.result _ (omega arith) c.pieces.invariant.so_far c.pack-len.ensures.bytes
      c.in_ok-copy.ensures.text;
  front = begins_then _ _ _ c.pieces.invariant.front c.copy.ensures.front;
}

pub pack-len-requires : goal.pack-len-requires
pack-len-requires c =
    let piece = take (c.pieces.at + c.min-count.result - c.pieces.at) (drop c.pieces.at c.args.samples.now) in
    record {
      room = omega (
        arith,
        at_most_two c.args.depth piece,
        length-take (c.pieces.at + c.min-count.result - c.pieces.at) (drop c.pieces.at c.args.samples.now),
        c.min-count.ensures,
      );
    }
