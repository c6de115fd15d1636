-- Luma that is read from the storage of its plane, from the first visible sample on, and how far it is from its mean, row by row.
use Rattle.std.proofs.Common.{ℕ, ◌+◌, ◌*◌, ◌/◌, ◌%◌, ◌^◌, ◌<◌, ◌≤◌, ◌≡◌, List, All, length, get_or, map, ℤ, pos, refl, ap, subst, add-zero, arith, ◌∙◌}
use Rattle.std.proofs.lemmas.Bool.Decides.{nat_tests}
use Rattle.std.proofs.lemmas.Nat.{mul-add-lt, div-mul-add, mod-mul-add}
use Rattle.std.proofs.Math.Pow.{pow_mono}
use mathlib.Core.Path.{fun_ext}
use Rattle.av1_frame.specs.declared.plane.Plane.{Plane}
use Rattle.av1_frame.specs.declared.plane.PlaneConfig.{PlaneConfig}
use Rattle.av1_frame.specs.declared.plane_region.PlaneRegion.{PlaneRegion}
use Rattle.av1_frame.specs.declared.plane_region.Area.TheVariants.{Rect as Rectangle}
use Rattle.av1_frame.specs.declared.plane_region.StoredArea.{StoredArea}
use Rattle.av1_frame.specs.Areas.{area_from, from_origin}
use Rattle.av1_frame.specs.Planes.{place_at, sample_at}
use Rattle.av1_frame.specs.Samples.{paint_row}
use Rattle.av1_frame.proofs.Update.{get_or-update}
use Rattle.av1_frame.proofs.Within.{number_below, some_numbers}
use Rattle.av1_edges.specs.Edges.{region_sample}
use Rattle.av1_intra.specs.declared.luma.LumaLeaf.{LumaLeaf}
use Rattle.av1_intra.specs.ChromaFromLuma.{ac_at, chroma_block, leaf_difference, with_rows}

-- a region that begins at the first visible sample is counted as the plane is
pub origin_sample : {T : Type 0} (num : T → ℕ) (plane : Plane T) (r : PlaneRegion T) (width height : ℕ) → r.samples.now ≡ plane.samples →
    r.plane_cfg ≡ plane.plane_cfg
    → r.area ≡ area_from plane.plane_cfg (from_origin plane.plane_cfg) (Rectangle (pos 0) (pos 0) width height) → region_sample num r ≡ sample_at num plane
origin_sample {T} num plane r width height same cfg place =
    let column : r.area.x ≡ plane.plane_cfg.xorigin = ap (λ (a : StoredArea). a.x) place ∙ add-zero plane.plane_cfg.xorigin in
    let row : r.area.y ≡ plane.plane_cfg.yorigin = ap (λ (a : StoredArea). a.y) place ∙ add-zero plane.plane_cfg.yorigin in
    fun_ext (λ x. fun_ext (λ y. let k : (r.area.y + y) * r.plane_cfg.stride + r.area.x + x ≡ place_at plane.plane_cfg x y =
    ap (λ (c : PlaneConfig). (r.area.y + y) * c.stride + r.area.x + x) cfg ∙ ap (λ n. (n + y) * plane.plane_cfg.stride + r.area.x + x) row
    ∙ omega (arith, column) in
    ap (λ n. get_or (map num r.samples.now) n 0) k ∙ ap (λ (samples : List T). get_or (map num samples) (place_at plane.plane_cfg x y) 0) same))

-- samples of a depth up to 12 have numbers of 12 bits
pub region_below : {T : Type 0} (num : T → ℕ) (depth : ℕ) (r : PlaneRegion T) (x y : ℕ) → depth ≤ 12 → All (λ v. num v < 2 ^ depth) r.samples.now →
    region_sample num r x y < 4096
region_below num depth r x y low all =
    let m : 2 ^ depth ≤ 2 ^ 12 = pow_mono {i = depth} {j = 12} low in
    let l : region_sample num r x y < 2 ^ depth = number_below num (2 ^ depth) r.samples.now _ (some_numbers depth) all in
    omega (arith, m, l)

-- an entry of a row that is painted
pub painted_entry : {X : Type 0} (n k : ℕ) (g : ℕ → X → X) (s : List X) (d : X) → k < n → k < length s → get_or (paint_row n g s) k d ≡ g k (get_or s k d)
unfolding paint_row
painted_entry n k g s d h l = get_or-update _ s k d l ∙ grind (arith, nat_tests)

-- a difference that is put into its place
pub rows_at : (w h : ℕ) (f : ℕ → ℕ → ℤ) (ac : List ℤ) (r c : ℕ) → w * h ≤ length ac → r < h → c < w → ac_at w (with_rows w h f ac) r c ≡ f r c
rows_at w h f ac r c long row column =
    let k = mul-add-lt r w c h row column in
    painted_entry (w * h) (r * w + c) (λ k _. f (k / w) (k % w)) ac (pos 0) k (omega (arith, k, long))
    ∙ rw (div-mul-add r w c column, mod-mul-add r w c column) refl

-- the differences of a leaf, where the list has been given those of the same leaf and the same luma
pub leaf_rows_at : (luma samples : ℕ → ℕ → ℕ) (told leaf : LumaLeaf) (old ac : List ℤ) (r c : ℕ) → told ≡ leaf → samples ≡ luma →
    (chroma_block leaf).width * (chroma_block leaf).height ≤ length old
    → ac ≡ with_rows (chroma_block told).width (chroma_block told).height (leaf_difference samples told) old
    → r < (chroma_block leaf).height → c < (chroma_block leaf).width → ac_at (chroma_block leaf).width ac r c ≡ leaf_difference luma leaf r c
leaf_rows_at luma samples told leaf old ac r c same read few put row column =
    let w = (chroma_block leaf).width in
    let e = subst (λ (l : LumaLeaf). ac ≡ with_rows (chroma_block l).width (chroma_block l).height (leaf_difference samples l) old) same put in
    ap (λ (list : List ℤ). ac_at w list r c) e ∙ rows_at w (chroma_block leaf).height (leaf_difference samples leaf) old r c few row column
    ∙ ap (λ (s : ℕ → ℕ → ℕ). leaf_difference s leaf r c) read
