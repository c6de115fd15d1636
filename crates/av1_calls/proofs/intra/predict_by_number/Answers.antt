use Rattle.std.proofs.Common.{ℕ, ◌≡◌, inl, inr, arith, length, subst}
use Rattle.av1_blocks.specs.declared.predict.PredictionMode.{PredictionMode}
use Rattle.av1_calls.specs.IntraBlocks.{IsIntraBlock, IsIntraMode}
use Rattle.av1_calls.proofs.intra.predict_by_number.Goals as goal

-- a number names one mode
one_mode : (number : ℕ) (mode other : PredictionMode) → IsIntraMode number mode → IsIntraMode number other → other ≡ mode
one_mode number mode other is named = let e = is.named in let f = named.named in cc

pub returns : goal.returns
returns g c =
    let a = c.args in
    let s = a.sides in
    let f = c.predict_by.ensures in
    let by = c.in-Some.mode in
    let is = c.in-Some.ensures.found in
    record {
      done = λ e. let d = f.done e in (by, (d.0, (is, d.1)));
      asked = λ other size named block. f.asked size
          (subst (λ (m : PredictionMode). IsIntraBlock g.T.Pixel.BITS a.block m a.at.stride a.at.x a.at.y (length s.left.now) (length s.above.now) 0
          (length a.samples.now) size) (one_mode a.block.mode by other is named) block);
      mode = λ e. absurd (omega (arith, e, f.known));
      size = λ e. (by, (is, f.size e));
      angle = λ e. (by, (is, f.angle e));
      depth = λ e. (by, (is, f.depth e));
      area = λ e. (by, (is, f.area e));
      short = λ e. (by, (is, f.short e));
      kept = f.kept;
      known = elim f.known [ inl e ↦ inl e | inr o ↦ inr (inr o) ];
    }
