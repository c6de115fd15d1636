use Rattle.std.proofs.Common.{◌≡◌, [], ◌∷◌, ◌++◌, sym, subst, rules}
use Rattle.av1_dct.specs.Arithmetic.{FitsBits}
use Rattle.av1_replay.specs.Drawn.{signed_in_way}
use Rattle.av1_replay.proofs.Drawing.{more_drawn, none_drawn}
use Rattle.av1_replay.proofs.drawn.Numbers.signed.Goals as goal

pub loop-init : goal.loop-init
loop-init g c = record {
  drawn =
      none_drawn g.C.Coefficient.val (λ number. FitsBits c.args.drawn.bits (g.C.Coefficient.val number)) (signed_in_way c.args.drawn c.same_for-same.result)
      c.same_for-same.new.self.state c.new-numbers.result.items c.new-numbers.ensures.items;
  same = c.same_for-same.ensures.within;
}

pub loop-preserved : goal.loop-preserved
loop-preserved g c =
    let more : c.push.new.self.items ≡ c.loop.numbers.items ++ c.coefficient_of.result ∷ [] = search rules in
    let same_number : g.C.Coefficient.val c.coefficient_of.result ≡ c.one_signed.result = search rules in
    record {
      drawn =
          more_drawn g.C.Coefficient.val (λ number. FitsBits c.args.drawn.bits (g.C.Coefficient.val number)) (signed_in_way c.args.drawn c.same_for-same.result)
          c.loop.counter c.same_for-same.new.self.state c.loop.numbers.items c.loop.self.state c.push.new.self.items
          c.coefficient_of.result c.one_signed.result c.one_signed.new.self.state c.loop.invariant.drawn more same_number c.one_signed.ensures.value
          (subst (FitsBits c.args.drawn.bits) (sym same_number) c.one_signed.ensures.fits);
      same = c.loop.invariant.same;
    }
