-- A region that is all of the visible plane is counted as the plane is.
use Rattle.std.proofs.Common.{ℕ, ◌+◌, ◌*◌, ◌≡◌, List, get_or, map, ap, arith, add-zero, ◌∙◌}
use Rattle.av1_frame.specs.declared.plane.Plane.{Plane}
use Rattle.av1_frame.specs.declared.plane.PlaneConfig.{PlaneConfig}
use Rattle.av1_frame.specs.declared.plane_region.PlaneRegion.{PlaneRegion}
use Rattle.av1_frame.specs.declared.plane_region.StoredArea.{StoredArea}
use Rattle.av1_frame.specs.Areas.{stored_area, all_visible}
use Rattle.av1_frame.specs.Planes.{place_at, sample_at}
use Rattle.av1_avail.specs.Asked.{takes_above_right, takes_below_left}
use Rattle.av1_edges.specs.declared.position.TransformPosition.{TransformPosition}
use Rattle.av1_edges.specs.Edges.{has_above_right, has_below_left, region_sample, visible_columns, visible_rows}

-- the region of plane.as_region()
abbrev pub IsAllVisible : {T : Type 0} → PlaneRegion T → Type 0
IsAllVisible r = r.area ≡ stored_area r.plane_cfg (all_visible r.plane_cfg)

module _ {T : Type 0} (r : PlaneRegion T) (all : IsAllVisible r) where
  first_column : r.area.x ≡ r.plane_cfg.xorigin
  first_column = ap (λ (a : StoredArea). a.x) all ∙ add-zero r.plane_cfg.xorigin

  first_row : r.area.y ≡ r.plane_cfg.yorigin
  first_row = ap (λ (a : StoredArea). a.y) all ∙ add-zero r.plane_cfg.yorigin

  pub whole_columns : visible_columns r ≡ r.plane_cfg.width
  whole_columns =
      let e : r.area.width ≡ r.plane_cfg.width = ap (λ (a : StoredArea). a.width) all in omega (arith, first_column)

  pub whole_rows : visible_rows r ≡ r.plane_cfg.height
  whole_rows =
      let e : r.area.height ≡ r.plane_cfg.height = ap (λ (a : StoredArea). a.height) all in omega (arith, first_row)

  pub whole_sample : (num : T → ℕ) (plane : Plane T) (x y : ℕ) → r.samples.now ≡ plane.samples → r.plane_cfg ≡ plane.plane_cfg →
      region_sample num r x y ≡ sample_at num plane x y
  whole_sample num plane x y same cfg =
      let s = r.plane_cfg.stride in
      let k : (r.area.y + y) * s + r.area.x + x ≡ place_at r.plane_cfg x y =
      ap (λ n. (n + y) * s + r.area.x + x) first_row ∙ omega (arith, first_column) in
      ap (λ n. get_or (map num r.samples.now) n 0) k
      ∙ ap (λ (c : PlaneConfig). get_or (map num r.samples.now) (place_at c x y) 0) cfg
      ∙ ap (λ (samples : List T). get_or (map num samples) (place_at plane.plane_cfg x y) 0) same

  -- the answers for a transform of the plane
  pub whole_above_right : (at : TransformPosition)
      → has_above_right r at
      ≡ takes_above_right at.partition_size at.partition_bo.0.x at.partition_bo.0.y at.tx_size at.bx at.by r.plane_cfg.xdec r.plane_cfg.ydec at.x
      r.plane_cfg.width
  whole_above_right at =
      ap (takes_above_right at.partition_size at.partition_bo.0.x at.partition_bo.0.y at.tx_size at.bx at.by r.plane_cfg.xdec r.plane_cfg.ydec at.x)
      whole_columns

  pub whole_below_left : (at : TransformPosition)
      → has_below_left r at
      ≡ takes_below_left at.partition_size at.partition_bo.0.x at.partition_bo.0.y at.tx_size at.bx at.by r.plane_cfg.xdec r.plane_cfg.ydec at.y
      r.plane_cfg.height
  whole_below_left at =
      ap (takes_below_left at.partition_size at.partition_bo.0.x at.partition_bo.0.y at.tx_size at.bx at.by r.plane_cfg.xdec r.plane_cfg.ydec at.y) whole_rows
