use Rattle.std.proofs.Common.{rules, ◌≡◌, ◌∙◌, ap}
use Rattle.av1_frame.specs.declared.plane.PlaneConfig.{PlaneConfig}
use Rattle.av1_frame.specs.Regions.{painted}
use Rattle.av1_tile.proofs.FilledPlanes.{filled_region, storage_is, storage_of}
use Rattle.av1_tile.proofs.fill.fill_plane.Goals as goal

pub returns : goal.returns
returns g c =
    let p = c.args.plane.now in
    let r = c.region_mut-stored in
    let cfg = c.config-cfg in
    let place : r.result.area ≡ storage_of p.plane_cfg = r.ensures.area ∙ storage_is p.plane_cfg cfg.result _ c.requires cfg.ensures in
    let done = c.fill_rows.ensures.painted ∙ ap (λ (k : PlaneConfig). painted r.result r.result.area.width k.alloc_height (λ _ _ _. c.args.value)) cfg.ensures
    in
    ◌∙◌ {b = c.fill_rows.new.output.plane.now} (search rules)
    (filled_region p r.result c.fill_rows.new.output c.args.value r.ensures.plane r.ensures.cfg place done c.requires)
