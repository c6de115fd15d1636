-- A region that begins inside another one.
use Rattle.std.proofs.Common.{ℕ, ◌+◌, ◌-◌, ◌*◌, ◌^◌, ◌<◌, ◌≤◌, ◌≡◌, get_or, map, arith, ap, ◌∙◌, pos, ◌+ℤ◌, unsigned_abs, to_z, w64}
use Rattle.std.proofs.lemmas.Int.{ints}
use Rattle.av1_frame.specs.declared.plane.PlaneConfig.{PlaneConfig}
use Rattle.av1_frame.specs.declared.plane_region.Area.TheVariants.{Rect as Rectangle}
use Rattle.av1_frame.specs.declared.plane_region.StoredArea.{StoredArea}
use Rattle.av1_frame.specs.declared.plane_region.PlaneRegion.{PlaneRegion}
use Rattle.av1_frame.specs.Areas.{area_from, LiesIn}
use Rattle.av1_frame.specs.Samples.{row_start}
use Rattle.av1_edges.specs.Edges.{region_sample}

-- all from a column and a row of it on
pub rest_lies : (cfg : PlaneConfig) (a : StoredArea) (x y w h : ℕ) → x ≤ a.width → y ≤ a.height → w ≡ a.width → h ≡ a.height → a.x + a.width < 2 ^ 63 →
    a.y + a.height < 2 ^ 63 → LiesIn a.x a.y cfg a (Rectangle (to_z w64 x) (to_z w64 y) (w - x) (h - y))
rest_lies cfg a x y w h p q e f m n =
    let i : unsigned_abs (pos a.x +ℤ to_z w64 x) ≡ a.x + x = omega (arith, ints) in
    let j : unsigned_abs (pos a.y +ℤ to_z w64 y) ≡ a.y + y = omega (arith, ints) in
    record { left = omega (arith, ints); top = omega (arith, ints); right = omega (arith, i); bottom = omega (arith, j) }

-- its samples are those of the outer one
pub rest_sample : {T : Type 0} (num : T → ℕ) (l s : PlaneRegion T) (x y w h p q : ℕ) → x + l.area.x < 2 ^ 63 → y + l.area.y < 2 ^ 63
    → s.samples.now ≡ l.samples.now → s.area ≡ area_from l.plane_cfg l.area (Rectangle (to_z w64 x) (to_z w64 y) w h) → s.plane_cfg ≡ l.plane_cfg
    → region_sample num s p q ≡ region_sample num l (x + p) (y + q)
rest_sample num l s x y w h p q m n e f g =
    let a = l.area in
    let M = map num l.samples.now in
    let d = l.plane_cfg.stride in
    let i : unsigned_abs (pos a.x +ℤ to_z w64 x) ≡ a.x + x = omega (arith, ints) in
    let j : unsigned_abs (pos a.y +ℤ to_z w64 y) ≡ a.y + y = omega (arith, ints) in
    let k : (unsigned_abs (pos a.y +ℤ to_z w64 y) + q) * d ≡ (a.y + (y + q)) * d = ap (λ v. v * d) (omega (arith, j)) in
    ap (λ v. get_or (map num v) (row_start s.plane_cfg.stride s.area q + p) 0) e
    ∙ ap (λ v. get_or M (row_start v.stride s.area q + p) 0) g
    ∙ ap (λ v. get_or M (row_start d v q + p) 0) f
    ∙ ap (λ v. get_or M v 0) (omega (arith, i, k))
