-- A plane that holds what has been written on its canvas.
use Rattle.std.proofs.Common.{ℕ, ◌+◌, ◌<◌, ◌≡◌, true, refl, ap, arith, sym, Option, Some, None, ◌∙◌}
use Rattle.std.specs.Option.{is_some}
use Rattle.std.proofs.lemmas.List.FromFn.{fill_by_all, length-map-range_with_len, get_or-map-range_with_len}
use Rattle.av1_lists.specs.Lists.{by_index}
use Rattle.av1_frame.specs.declared.plane.Plane.{Plane}
use Rattle.av1_frame.specs.Planes.{sample_at}
use Rattle.av1_plan.specs.declared.header.Header.{Header}
use Rattle.av1_plan.specs.Geometry.{plane_width, plane_height}
use Rattle.av1_tile.specs.Canvas.{Written}
use Rattle.av1_tile.specs.Walk.{IsPlaneOf}

-- the plane holds each sample that was written, where there is storage for it
abbrev pub Agrees : {T : Type 0} → (T → ℕ) → Plane T → Written → Type 0
Agrees num p written = (x y v : ℕ) → p.plane_cfg.xorigin + x < p.plane_cfg.stride → p.plane_cfg.yorigin + y < p.plane_cfg.alloc_height → written x y ≡ Some v →
    sample_at num p x y ≡ v

-- equal places make equal sides
pub listed_same : (n : ℕ) (f g : ℕ → ℕ) → ((k : ℕ) → k < n → f k ≡ g k) → by_index n f ≡ by_index n g
listed_same n f g e =
    fill_by_all g (by_index n f) n 0 (length-map-range_with_len f 0 n) (λ k h. get_or-map-range_with_len f 0 n k k 0 h (omega arith) ∙ e k h)

is_known : (o : Option ℕ) (s : ℕ) → is_some o ≡ true → ((v : ℕ) → o ≡ Some v → s ≡ v) → o ≡ Some s
is_known None s h e = cc
is_known (Some v) s h e = ap Some (sym (e v refl))

-- a visible place has storage
pub stored_place : {T : Type 0} (h : Header) (p : ℕ) (plane : Plane T) (x y : ℕ) → IsPlaneOf h p plane → x < plane_width h p → y < plane_height h p
    → (plane.plane_cfg.xorigin + x < plane.plane_cfg.stride) × (plane.plane_cfg.yorigin + y < plane.plane_cfg.alloc_height)
stored_place h p plane x y s hx hy = (omega (arith, s.width, s.whole.visible_columns), omega (arith, s.height, s.whole.visible_rows))

-- a visible sample that was written
pub written_is : {T : Type 0} (num : T → ℕ) (h : Header) (p : ℕ) (plane : Plane T) (written : Written) → IsPlaneOf h p plane → Agrees num plane written
    → (x y : ℕ) → x < plane_width h p → y < plane_height h p → is_some (written x y) ≡ true → written x y ≡ Some (sample_at num plane x y)
written_is num h p plane written stores agrees x y hx hy w =
    let (column, row) = stored_place h p plane x y stores hx hy in
    is_known (written x y) (sample_at num plane x y) w (λ v u. agrees x y v column row u)

-- a sample that was written and has storage
pub stored_is : {T : Type 0} (num : T → ℕ) (plane : Plane T) (written : Written) → Agrees num plane written
    → (x y : ℕ) → plane.plane_cfg.xorigin + x < plane.plane_cfg.stride → plane.plane_cfg.yorigin + y < plane.plane_cfg.alloc_height →
    is_some (written x y) ≡ true → written x y ≡ Some (sample_at num plane x y)
stored_is num plane written agrees x y hx hy w = is_known (written x y) (sample_at num plane x y) w (λ v u. agrees x y v hx hy u)
