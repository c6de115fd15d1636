use Rattle.std.proofs.Common.{◌≡◌, ◌^◌, ◌<◌, [], ◌∷◌, ◌++◌, sym, subst, rules}
use Rattle.av1_replay.specs.Drawn.{in_way}
use Rattle.av1_replay.proofs.Drawing.{more_drawn, none_drawn}
use Rattle.av1_replay.proofs.drawn.Numbers.samples.Goals as goal

pub loop-init : goal.loop-init
loop-init g c = record {
  drawn =
      none_drawn g.T.Pixel.num (λ sample. g.T.Pixel.num sample < 2 ^ c.args.depth) (in_way c.args.way c.args.depth c.same_for-same.result)
      c.same_for-same.new.self.state c.new-samples.result.items c.new-samples.ensures.items;
  same = c.same_for-same.ensures.within;
}

pub loop-preserved : goal.loop-preserved
loop-preserved g c =
    let more : c.push.new.self.items ≡ c.loop.samples.items ++ c.sample_of.result ∷ [] = search rules in
    let same_number : g.T.Pixel.num c.sample_of.result ≡ c.in_way.result = search rules in
    record {
      drawn =
          more_drawn g.T.Pixel.num (λ sample. g.T.Pixel.num sample < 2 ^ c.args.depth) (in_way c.args.way c.args.depth c.same_for-same.result)
          c.loop.counter c.same_for-same.new.self.state c.loop.samples.items c.loop.self.state c.push.new.self.items
          c.sample_of.result c.in_way.result c.in_way.new.self.state c.loop.invariant.drawn more same_number c.in_way.ensures.value
          (subst (λ n. n < 2 ^ c.args.depth) (sym same_number) c.in_way.ensures.within);
      same = c.loop.invariant.same;
    }
