use Rattle.std.proofs.Common.{◌≡◌, ◌+◌, ◌*◌, ◌^◌, ◌≤◌, sum, map, take}
use Rattle.av1_intra.proofs.dc.sum_of.Given as goal

abbrev pub invariant-loop-sample : goal.invariant-loop-sample
invariant-loop-sample g l =
    record {
      value : l.total ≡ sum (map g.T.Pixel.num (take l.sample-index l.samples));
      bound : l.total + l.sample-index ≤ l.sample-index * 2 ^ g.T.Pixel.BITS;
      small : l.total ≤ l.sample-index * 65535;
    }
