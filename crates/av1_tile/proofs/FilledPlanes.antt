-- Planes whose stored samples are all one value.
use Rattle.std.proofs.Common.{ℕ, zero, suc, pos, ◌+ℤ◌, ◌-ℤ◌, unsigned_abs, to_z, of_z, w64, ◌+◌, ◌*◌, ◌/◌, ◌%◌, ◌^◌, ◌<◌, ◌≡◌, ◌∙◌, List, length, get_or}
use Rattle.std.proofs.Common.{replicate, refl, ap, sym, arith}
use Rattle.std.proofs.Math.Nat.{div-lt_iff_lt-mul, mod-lt}
use Rattle.std.proofs.lemmas.Int.{ints}
use Rattle.std.proofs.lemmas.List.{get_or-replicate, length-replicate, same_lists}
use Rattle.av1_frame.specs.declared.plane.Plane.{Plane}
use Rattle.av1_frame.specs.declared.plane.PlaneConfig.{PlaneConfig}
use Rattle.av1_frame.specs.declared.plane_region.PlaneRegionMut.{PlaneRegionMut}
use Rattle.av1_frame.specs.declared.plane_region.StoredArea.{StoredArea}
use Rattle.av1_frame.specs.Areas.{IsStorage}
use Rattle.av1_frame.specs.Planes.{IsWhole}
use Rattle.av1_frame.specs.Regions.{painted}
use Rattle.av1_frame.specs.Samples.{corner, paint}
use Rattle.av1_frame.proofs.Paint.{length_paint, paint_inside}

-- all of a plane's storage
abbrev pub storage_of : PlaneConfig → StoredArea
storage_of cfg = record { x = 0; y = 0; width = cfg.stride; height = cfg.alloc_height }

-- as far back as a place lies from the start
start_of : (a : ℕ) → a < 2 ^ 63 → unsigned_abs (pos a +ℤ to_z w64 (of_z w64 (pos 0 -ℤ to_z w64 a))) ≡ 0
start_of a l =
    let own : to_z w64 a ≡ pos a = grind (arith, ints) in
    let back : to_z w64 (of_z w64 (pos 0 -ℤ pos a)) ≡ pos 0 -ℤ pos a = grind (arith, ints) in
    rw (own, back) (grind (arith, ints))

-- the area that begins as far before the first visible sample as storage does
pub storage_is : (cfg read : PlaneConfig) (n : ℕ) → IsStorage cfg n → read ≡ cfg
    → record {
      x = unsigned_abs (pos cfg.xorigin +ℤ to_z w64 (of_z w64 (pos 0 -ℤ to_z w64 read.xorigin)));
      y = unsigned_abs (pos cfg.yorigin +ℤ to_z w64 (of_z w64 (pos 0 -ℤ to_z w64 read.yorigin)));
      width = read.stride;
      height = read.alloc_height;
    } ≡
    storage_of cfg
storage_is cfg read n is same =
    let x : read.xorigin ≡ cfg.xorigin = ap (λ (c : PlaneConfig). c.xorigin) same in
    let y : read.yorigin ≡ cfg.yorigin = ap (λ (c : PlaneConfig). c.yorigin) same in
    rw (same, start_of cfg.xorigin (omega (arith, is.visible_columns, is.few_columns)), start_of cfg.yorigin (omega (arith, is.visible_rows, is.few_rows))) refl

some_factor : (stride rows : ℕ) → 0 < rows * stride → 0 < stride
some_factor zero rows l = absurd (omega (arith, l))
some_factor (suc stride) rows l = omega arith

-- samples that are painted with one value all over
all_filled : {X : Type 0} (stride rows : ℕ) (value : X) (s : List X) → length s ≡ rows * stride →
    paint stride (record { x = 0; y = 0; width = stride; height = rows }) (λ _ _ _. value) s ≡ replicate (length s) value
all_filled stride rows value s e =
    let a : StoredArea = record { x = 0; y = 0; width = stride; height = rows } in
    let painted_long = length_paint stride a (λ _ _ _. value) s in
    same_lists (paint stride a (λ _ _ _. value) s) (replicate (length s) value) (painted_long ∙ sym (length-replicate (length s) value))
    (λ k d l.
    let inside : k < rows * stride = omega (arith, l, e, painted_long) in
    let some : 0 < stride = some_factor stride rows (omega (arith, inside)) in
    let at : k ≡ (0 + k / stride) * stride + (0 + k % stride) = omega arith in
    ap (λ (i : ℕ). get_or (paint stride a (λ _ _ _. value) s) i d) at
    ∙ paint_inside stride a (λ _ _ _. value) s (k / stride) (k % stride) d ((div-lt_iff_lt-mul some).1 inside) (mod-lt k some) (omega arith)
    (omega (arith, at, inside, e))
    ∙ sym (get_or-replicate (length s) k value d (omega (arith, inside, e))))

-- a region of all of a plane's storage that is painted so, and let go
pub filled_region : {T : Type 0} (p : Plane T) (r o : PlaneRegionMut T) (value : T) → r.plane.now ≡ p → r.plane_cfg ≡ p.plane_cfg →
    r.area ≡ storage_of p.plane_cfg → o ≡ painted r r.area.width p.plane_cfg.alloc_height (λ _ _ _. value) → IsWhole p
    → o.plane.now ≡ record p { samples = replicate (length p.samples) value }
filled_region p r o value e h k t whole =
    ap (λ (u : PlaneRegionMut _). u.plane.now) t
    ∙ ap (λ (b : StoredArea). record r.plane.now {
      samples = paint r.plane_cfg.stride (corner b b.width p.plane_cfg.alloc_height)
          (λ _ _ _. value) r.plane.now.samples;
    }) k
    ∙ ap (λ (cfg : PlaneConfig). record r.plane.now { samples = paint cfg.stride (storage_of p.plane_cfg) (λ _ _ _. value) r.plane.now.samples }) h
    ∙ ap (λ (u : Plane _). record u { samples = paint p.plane_cfg.stride (storage_of p.plane_cfg) (λ _ _ _. value) u.samples }) e
    ∙ ap (λ (samples : List _). record p { samples = samples }) (all_filled p.plane_cfg.stride p.plane_cfg.alloc_height value p.samples whole.fills)
