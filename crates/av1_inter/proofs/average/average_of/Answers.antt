use Rattle.std.proofs.Common.{rules, ◌^◌, ◌<◌, ◌∙◌, ap, subst, sym, ℕ, unsigned_abs, w16, FitsSigned}
use Rattle.std.proofs.lemmas.Int.{to_z-of_z}
use Rattle.av1_frame.proofs.Depths.{below_depth}
use Rattle.av1_frame.proofs.Within.{clip_within}
use Rattle.av1_inter.proofs.average.average_of.Goals as goal

pub from_u32-requires : goal.from_u32-requires
from_u32-requires g c =
    let f : FitsSigned w16 c.average_number.result = search rules in
    let d = c.args.bit_depth in
    below_depth _ d _ (subst (λ (n : ℕ). n < 2 ^ d) (sym (ap unsigned_abs (to_z-of_z w16 _ f ∙ c.average_number.ensures))) (clip_within d _)) c.requires.depth
