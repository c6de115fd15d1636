use Rattle.std.proofs.Common.{◌≤◌, length, subst, rules}
use Rattle.std.specs.List.{flat_map}
use Rattle.std.specs.Int.{to_le_bytes, w16}
use Rattle.std.proofs.lemmas.List.{take_all}
use Rattle.av1_replay.specs.Digest.{Holds}
use Rattle.av1_replay.proofs.answer.digest_of.Goals as goal

pub returns : goal.returns
returns g c =
    let ended : length c.args.samples.now ≤ c.loop-sample.sample-index = search rules in
    subst (λ samples. Holds c.loop-sample.digest (flat_map (λ sample. to_le_bytes w16 (g.T.Pixel.num sample)) samples))
    (take_all c.loop-sample.sample-index c.args.samples.now ended) c.loop-sample.invariant
