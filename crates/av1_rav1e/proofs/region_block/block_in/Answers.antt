use Rattle.std.proofs.Common.{ℕ, ◌+◌, ◌-◌, arith, ap, ◌∙◌, Bool, Option, to_z, of_z, w64}
use Rattle.std.specs.Option.{option_map}
use Rattle.av1_intra.specs.Neighbours.{uses_smooth_filter}
use Rattle.av1_intra.specs.declared.directional.DirectionalBlock.{DirectionalBlock}
use Rattle.av1_rav1e.proofs.Places.{place_fits}
use Rattle.av1_rav1e.proofs.region_block.block_in.Goals as goal

pub returns : goal.returns
returns g c =
    let out = c.args.region.now in
    let B : Option Bool → ℕ → ℕ → DirectionalBlock =
    λ f x y. record {
      p_angle = c.args.p_angle;
      width = c.args.width;
      height = c.args.height;
      bit_depth = c.args.bit_depth;
      smooth_filter = f;
      visible_columns = x;
      visible_rows = y;
    } in
    let F = c.requires.fits.fits in
    let S = F.storage in
    let X =
    c.visible_from.ensures out.plane_cfg.xorigin out.area.x
    (ap (λ z. to_z w64 (of_z w64 z)) (ap (λ r. r.x) c.rect-rect.ensures ∙ ap (λ r. r.x) c.requires.fits.rect)
    ∙ place_fits out.area.x out.plane_cfg.xorigin (omega (arith, F.columns, S.few_columns)) (omega (arith, S.visible_columns, S.few_columns))) in
    let Y =
    c.visible_from-2.ensures out.plane_cfg.yorigin out.area.y
    (ap (λ z. to_z w64 (of_z w64 z)) (ap (λ r. r.y) c.rect-rect.ensures ∙ ap (λ r. r.y) c.requires.fits.rect)
    ∙ place_fits out.area.y out.plane_cfg.yorigin (omega (arith, F.rows, S.few_rows)) (omega (arith, S.visible_rows, S.few_rows))) in
    ap (λ f. B f c.visible_from.result c.visible_from-2.result) c.smooth_filter_of.ensures
    ∙ ap (λ x. B (option_map uses_smooth_filter c.args.ief_params) x c.visible_from-2.result) X
    ∙ ap (λ y. B (option_map uses_smooth_filter c.args.ief_params) (out.plane_cfg.xorigin + out.plane_cfg.width - out.area.x) y) Y
