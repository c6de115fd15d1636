use Rattle.std.proofs.Common.{ℕ, ap, ◌∙◌, length, subst, sym}
use Rattle.av1_frame.specs.Areas.{AreRows}
use Rattle.av1_frame.specs.Samples.{corner, paint}
use Rattle.av1_intra.proofs.fill.fill_columns.Goals as goal

pub fill_area-requires : goal.fill_area-requires
fill_area-requires g c =
    record {
      rows = subst (λ (n : ℕ). AreRows c.args.stride (corner c.args.area n c.args.area.height) (length c.args.samples.now)) c.requires.width
          c.requires.rows;
    }

pub returns : goal.returns
returns g c =
    c.fill_area.ensures ∙ ap (λ (n : ℕ). paint c.args.stride (corner c.args.area n c.args.area.height) (λ _ _ _. c.args.value) c.args.samples.now)
    (sym c.requires.width)
