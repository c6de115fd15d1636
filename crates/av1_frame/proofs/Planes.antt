-- A plane read by its visible places, and what painting leaves of it.
use Rattle.std.proofs.Common.{ℕ, ◌+◌, ◌-◌, ◌<◌, ◌≤◌, ◌≡◌, List, [], ◌∷◌, length, get_or, ap, arith, ◌∙◌, sym, cond, ◌⊎◌, Bool, true, false}
use Rattle.std.proofs.lemmas.Bool.Decides.{nat_tests}
use Rattle.std.proofs.lemmas.List.{get_or-map}
use Rattle.av1_frame.specs.declared.plane.PlaneConfig.{PlaneConfig}
use Rattle.av1_frame.specs.declared.plane.Plane.{Plane}
use Rattle.av1_frame.specs.declared.plane_region.StoredArea.{StoredArea}
use Rattle.av1_frame.specs.declared.plane_region.PlaneRegionMut.{PlaneRegionMut}
use Rattle.av1_frame.specs.Samples.{paint, in_area}
use Rattle.av1_frame.specs.Areas.{VisibleArea, stored_area, in_visible, IsStorage}
use Rattle.av1_frame.specs.Planes.{IsWhole, place_at, sample_at, painted_plane, InPlane}
use Rattle.av1_frame.specs.Regions.{painted}
use Rattle.av1_frame.proofs.Fits.{row_end_le}
use Rattle.av1_frame.proofs.Paint.{paint_at, paint_empty, paint_same, length_paint}
use Rattle.av1_frame.proofs.Regions.{same_storage, same_fits}

-- a column and a row of storage, counted from the first visible sample, are a place of it
pub place_in_storage : (cfg : PlaneConfig) (n x y : ℕ) → IsStorage cfg n → cfg.xorigin + x < cfg.stride → cfg.yorigin + y < cfg.alloc_height →
    place_at cfg x y < n
place_in_storage cfg n x y s h k =
    let e = row_end_le (cfg.yorigin + y) cfg.alloc_height cfg.stride (cfg.xorigin + x + 1) n s.fills k (omega arith) in
    omega (arith, e)

-- an element of a list that has a place k
pub some_item : {T : Type 0} (xs : List T) (k : ℕ) → k < length xs → T
some_item [] k h = absurd (omega arith)
some_item (x ∷ xs) k h = x

in_shifted : (ox oy x y ax ay w h : ℕ) →
    in_area (record { x = ox + ax; y = oy + ay; width = w; height = h }) (ox + x) (oy + y) ≡ in_visible (record { x = ax; y = ay; width = w; height = h }) x y
in_shifted ox oy x y ax ay w h = grind (arith, nat_tests)

chosen : {T : Type 0} (num : T → ℕ) (b c : Bool) (f g : T) (v : T) (m : ℕ) → b ≡ c → f ≡ g → num v ≡ m → num (cond b f v) ≡ cond c (num g) m
chosen num true c f g v m e h k = ap num h ∙ ap (λ t. cond t (num g) m) e
chosen num false c f g v m e h k = k ∙ ap (λ t. cond t (num g) m) e

module _ {T : Type 0} (num : T → ℕ) (pixel : ℕ → T) (back : (v : T) → pixel (num v) ≡ v) (p : Plane T) (a : VisibleArea) (f : ℕ → ℕ → T → T) where
  -- the sample at any stored place that isn't left of or above the visible ones
  pub sample_at_painted : (x y : ℕ) → IsWhole p → p.plane_cfg.xorigin + x < p.plane_cfg.stride → p.plane_cfg.yorigin + y < p.plane_cfg.alloc_height →
      sample_at num (painted_plane p a f) x y ≡ cond (in_visible a x y) (num (f (y - a.y) (x - a.x) (pixel (sample_at num p x y)))) (sample_at num p x y)
  sample_at_painted x y s hx hy =
      let cfg = p.plane_cfg in
      let k = place_at cfg x y in
      let b = stored_area cfg a in
      let l : k < length p.samples = place_in_storage cfg (length p.samples) x y s hx hy in
      let d = some_item p.samples k l in
      let v = get_or p.samples k d in
      let was : sample_at num p x y ≡ num v = get_or-map num p.samples k d 0 l in
      let q : cfg.yorigin + y - (cfg.yorigin + a.y) ≡ y - a.y = omega arith in
      let r : cfg.xorigin + x - (cfg.xorigin + a.x) ≡ x - a.x = omega arith in
      let e : f (cfg.yorigin + y - (cfg.yorigin + a.y)) (cfg.xorigin + x - (cfg.xorigin + a.x)) v ≡ f (y - a.y) (x - a.x) (pixel (sample_at num p x y)) =
      ap (λ n. f n (cfg.xorigin + x - (cfg.xorigin + a.x)) v) q ∙ ap (λ n. f (y - a.y) n v) r ∙ ap (f (y - a.y) (x - a.x)) (sym (back v) ∙ ap pixel (sym was))
      in
      get_or-map num (paint cfg.stride b f p.samples) k d 0 (omega (arith, l, length_paint cfg.stride b f p.samples))
      ∙ ap num (paint_at cfg.stride b f p.samples (cfg.xorigin + x) (cfg.yorigin + y) d hx l)
      ∙ chosen num _ _ _ _ v _ (in_shifted cfg.xorigin cfg.yorigin x y a.x a.y a.width a.height) e (sym was)

  -- the sample at row r and column c of the rectangle
  pub sample_at_inside : (r c : ℕ) → InPlane a p → r < a.height → c < a.width →
      sample_at num (painted_plane p a f) (a.x + c) (a.y + r) ≡ num (f r c (pixel (sample_at num p (a.x + c) (a.y + r))))
  sample_at_inside r c s h k =
      let m = pixel (sample_at num p (a.x + c) (a.y + r)) in
      let q : a.y + r - a.y ≡ r = omega arith in
      let t : a.x + c - a.x ≡ c = omega arith in
      let i : in_visible a (a.x + c) (a.y + r) ≡ true = grind (arith, nat_tests) in
      sample_at_painted (a.x + c) (a.y + r) s.storage (omega (arith, s.columns)) (omega (arith, s.rows))
      ∙ ap (λ b. cond b (num (f (a.y + r - a.y) (a.x + c - a.x) m)) (sample_at num p (a.x + c) (a.y + r))) i ∙ ap (λ n. num (f n (a.x + c - a.x) m)) q
      ∙ ap (λ n. num (f r n m)) t

  -- the sample at a place outside
  pub sample_at_outside : (x y : ℕ) → IsWhole p → p.plane_cfg.xorigin + x < p.plane_cfg.stride → p.plane_cfg.yorigin + y < p.plane_cfg.alloc_height →
      in_visible a x y ≡ false → sample_at num (painted_plane p a f) x y ≡ sample_at num p x y
  sample_at_outside x y s hx hy i =
      sample_at_painted x y s hx hy ∙ ap (λ b. cond b (num (f (y - a.y) (x - a.x) (pixel (sample_at num p x y)))) (sample_at num p x y)) i

module _ {T : Type 0} (p : Plane T) (a : VisibleArea) (f : ℕ → ℕ → T → T) where
  -- as many samples are stored
  pub length_painted : length (painted_plane p a f).samples ≡ length p.samples
  length_painted = length_paint p.plane_cfg.stride (stored_area p.plane_cfg a) f p.samples

  pub painted_plane_whole : IsWhole p → IsWhole (painted_plane p a f)
  painted_plane_whole = same_storage p.plane_cfg _ _ length_painted

  -- a rectangle that lay in storage still does
  pub painted_plane_fits : (b : VisibleArea) → InPlane b p → InPlane b (painted_plane p a f)
  painted_plane_fits b = same_fits (stored_area p.plane_cfg b) p.plane_cfg _ _ length_painted

  -- a rectangle with no samples
  pub painted_plane_none : (a.width ≡ 0) ⊎ (a.height ≡ 0) → painted_plane p a f ≡ p
  painted_plane_none e = ap (λ (s : List T). record p { samples = s }) (paint_empty p.plane_cfg.stride (stored_area p.plane_cfg a) f p.samples e)

  -- two changes that agree in the rectangle
  pub painted_plane_same : (g : ℕ → ℕ → T → T) → ((r c : ℕ) (v : T) → r < a.height → c < a.width → f r c v ≡ g r c v) →
      painted_plane p a f ≡ painted_plane p a g
  painted_plane_same g e = ap (λ (s : List T). record p { samples = s }) (paint_same p.plane_cfg.stride (stored_area p.plane_cfg a) f g p.samples e)

  -- the plane of a region that was made of p at that rectangle, painted and let go
  pub region_painted : (r o : PlaneRegionMut T) → r.plane.now ≡ p → r.plane_cfg ≡ p.plane_cfg → r.area ≡ stored_area p.plane_cfg a →
      o ≡ painted r a.width a.height f → o.plane.now ≡ painted_plane p a f
  region_painted r o e h k t =
      ap (λ (u : PlaneRegionMut T). u.plane.now) t
      ∙ ap (λ (b : StoredArea). record r.plane.now
      { samples = paint r.plane_cfg.stride (record { x = b.x; y = b.y; width = a.width; height = a.height }) f r.plane.now.samples }) k
      ∙ ap (λ (cfg : PlaneConfig). record r.plane.now { samples = paint cfg.stride (stored_area p.plane_cfg a) f r.plane.now.samples }) h
      ∙ ap (λ (u : Plane T). record u { samples = paint p.plane_cfg.stride (stored_area p.plane_cfg a) f u.samples }) e

-- a run of samples of a row lies in storage
pub run_in_storage : {T : Type 0} (p : Plane T) (x y w : ℕ) → InPlane (record { x = x; y = y; width = w; height = 1 }) p →
    place_at p.plane_cfg x y + w ≤ length p.samples
run_in_storage p x y w s =
    let cfg = p.plane_cfg in
    let e = row_end_le (cfg.yorigin + y) cfg.alloc_height cfg.stride (cfg.xorigin + x + w) (length p.samples) s.storage.fills (omega (arith, s.rows))
    (omega (arith, s.columns)) in
    omega (arith, e)
