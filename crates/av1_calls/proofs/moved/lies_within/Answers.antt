use mir.Val.{SFits}
use Rattle.std.proofs.Common.{ℤ, rules, subst, w64}
use Rattle.std.proofs.lemmas.Int.{to_z-of_z}
use Rattle.av1_calls.specs.MovedBlocks.{IsVisible}
use Rattle.av1_calls.proofs.moved.lies_within.Goals as goal

pub returns-then-is_within : goal.returns-then-is_within
returns-then-is_within c = λ e.
    let p = c.args.moved.plane in
    let b = c.args.moved.block in
    let at = c.args.moved.place in
    let fits_x : SFits w64 at.x = search rules in
    let fits_y : SFits w64 at.y = search rules in
    record {
      columns = subst (λ (z : ℤ). IsVisible z at.col_frac b.width p.width) (to_z-of_z w64 at.x fits_x) (c.is_within.ensures c.if-is_within.true);
      rows = subst (λ (z : ℤ). IsVisible z at.row_frac b.height p.height) (to_z-of_z w64 at.y fits_y) (c.is_within-then-is_within.ensures e);
    }
