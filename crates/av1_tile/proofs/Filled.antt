-- A plane whose visible samples were put in, and which was then padded.
use Rattle.std.proofs.Common.{ℕ, zero, suc, ◌+◌, ◌*◌, ◌/◌, ◌^◌, ◌<◌, ◌≤◌, ◌≡◌, ◌∙◌, ap, sym, subst, refl, arith, zero-add, List, [], ◌∷◌, All, slice_index}
use Rattle.std.proofs.lemmas.List.Elements.{All-head, All-tail}
use Rattle.std.proofs.lemmas.Nat.{pow_pos}
use Rattle.std.proofs.Math.Nat.{le_of_eq}
use Rattle.av1_frame.specs.declared.plane.Plane.{Plane}
use Rattle.av1_frame.specs.Areas.{all_visible}
use Rattle.av1_frame.specs.Planes.{InPlane, IsWhole, new_config, padded, painted_plane, sample_at}
use Rattle.av1_frame.proofs.Planes.{painted_plane_whole, sample_at_inside}
use Rattle.av1_inter.proofs.Vectors.{padded_is_padded, visible_stays}
use Rattle.av1_plan.specs.declared.header.Header.{Header}
use Rattle.av1_plan.specs.Geometry.{shown_rows, shown_columns, xdec, ydec}
use Rattle.av1_tile.specs.Motion.{HoldsPlane}

-- samples that lie below a bound do so past the end of their list too, where they count as 0
pub read_below : (samples : List ℕ) (bound i : ℕ) → 0 < bound → All (λ sample. sample < bound) samples → slice_index samples i < bound
read_below [] bound i some below = some
read_below (x ∷ xs) bound zero some below = All-head (λ sample. sample < bound) x xs below
read_below (x ∷ xs) bound (suc i) some below = read_below xs bound i some (All-tail (λ sample. sample < bound) x xs below)

-- the visible samples lie in storage
pub visible_fits : {T : Type 0} (plane : Plane T) → IsWhole plane → InPlane (all_visible plane.plane_cfg) plane
visible_fits plane whole =
    record { storage = whole; columns = omega (arith, whole.visible_columns); rows = omega (arith, whole.visible_rows) }

module _ {T : Type 0} (num : T → ℕ) (pixel : ℕ → T) (back : (v : T) → pixel (num v) ≡ v) (forth : (v : ℕ) → num (pixel v) ≡ v) (samples : List ℕ)
    (plane : Plane T) (whole : IsWhole plane) where
  -- the plane with these samples, row by row, as its visible ones
  abbrev put : Plane T
  put = painted_plane plane (all_visible plane.plane_cfg) (λ r c _. pixel (slice_index samples (r * plane.plane_cfg.width + c)))

  put_whole : IsWhole put
  put_whole = painted_plane_whole plane _ _ whole

  put_shows : (x y : ℕ) → x < plane.plane_cfg.width → y < plane.plane_cfg.height →
      sample_at num (padded put) x y ≡ slice_index samples (y * plane.plane_cfg.width + x)
  put_shows x y a b =
      visible_stays num put x y put_whole a b
      ∙ ap (λ n. sample_at num put n y) (sym (zero-add x)) ∙ ap (λ n. sample_at num put (0 + x) n) (sym (zero-add y))
      ∙ sample_at_inside num pixel back plane (all_visible plane.plane_cfg)
      (λ r c _. pixel (slice_index samples (r * plane.plane_cfg.width + c))) y x (visible_fits plane whole) b a
      ∙ forth _

  put_holds : (h : Header) (p : ℕ) → 80 / 2 ^ xdec h p ≤ plane.plane_cfg.xpad → 80 / 2 ^ ydec h p ≤ plane.plane_cfg.ypad →
      plane.plane_cfg.width ≡ shown_columns h p → plane.plane_cfg.height ≡ shown_rows h p
      → plane.plane_cfg.xdec ≡ xdec h p → plane.plane_cfg.ydec ≡ ydec h p → All (λ sample. sample < 2 ^ h.depth) samples →
      HoldsPlane num h p samples (padded put)
  put_holds h p xpad ypad w t dx dy below = record {
    padded = padded_is_padded num put (padded put) refl put_whole;
    xpad = xpad;
    ypad = ypad;
    width = w;
    height = t;
    xdec = dx;
    ydec = dy;
    shows = λ x y a b. put_shows x y (omega (arith, a, w)) (omega (arith, b, t)) ∙ ap (λ n. slice_index samples (y * n + x)) w;
    within =
        λ x y a b. subst (λ n. n < 2 ^ h.depth) (sym (put_shows x y (omega (arith, a, w)) (omega (arith, b, t))))
        (read_below samples (2 ^ h.depth) _ (pow_pos h.depth) below);
  }

-- Such a plane holds plane p of a frame, where it was made with that plane's sides and decimations.
pub filled_holds : {T : Type 0} (num : T → ℕ) (pixel : ℕ → T) (back : (v : T) → pixel (num v) ≡ v) (forth : (v : ℕ) → num (pixel v) ≡ v) (samples : List ℕ)
    (made filled result : Plane T) {width height dx dy xpad ypad : ℕ} (h : Header) (p : ℕ)
    → IsWhole made → made.plane_cfg ≡ new_config width height dx dy xpad ypad → xpad ≡ 80 / 2 ^ dx → ypad ≡ 80 / 2 ^ dy → width ≡ shown_columns h p →
    height ≡ shown_rows h p → dx ≡ xdec h p → dy ≡ ydec h p
    → All (λ sample. sample < 2 ^ h.depth) samples →
    filled ≡ painted_plane made (all_visible made.plane_cfg) (λ r c _. pixel (slice_index samples (r * made.plane_cfg.width + c)))
    → result ≡ padded filled → HoldsPlane num h p samples result
filled_holds {T} num pixel back forth samples made filled result h p whole cfg px py w t ex ey below fill pad =
    let columns : 80 / 2 ^ xdec h p ≤ made.plane_cfg.xpad = le_of_eq (sym (ap (λ s. s.xpad) cfg ∙ px ∙ ap (λ (s : ℕ). 80 / 2 ^ s) ex)) in
    let rows : 80 / 2 ^ ydec h p ≤ made.plane_cfg.ypad = le_of_eq (sym (ap (λ s. s.ypad) cfg ∙ py ∙ ap (λ (s : ℕ). 80 / 2 ^ s) ey)) in
    subst (λ (q : Plane T). HoldsPlane num h p samples q) (sym (pad ∙ ap padded fill))
    (put_holds num pixel back forth samples made whole h p columns rows (ap (λ s. s.width) cfg ∙ w) (ap (λ s. s.height) cfg ∙ t) (ap (λ s. s.xdec) cfg ∙ ex)
    (ap (λ s. s.ydec) cfg ∙ ey) below)
