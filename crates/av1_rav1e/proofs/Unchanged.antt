-- Painting that leaves each sample as it is.
use Rattle.std.proofs.Common.{ℕ, ◌%◌, ◌/◌, ◌≡◌, List, get_or, refl, ap, sym, Bool, true, false, cond}
use Rattle.av1_frame.specs.declared.plane_region.PlaneRegionMut.{PlaneRegionMut}
use Rattle.av1_frame.specs.declared.plane_region.StoredArea.{StoredArea}
use Rattle.av1_frame.specs.Samples.{paint, corner, in_area}
use Rattle.av1_frame.specs.Regions.{painted, with_samples, stored}
use Rattle.av1_frame.proofs.Update.{update_is}

cond_same : {X : Type 0} (b : Bool) (x y : X) → x ≡ y → cond b x y ≡ y
cond_same true x y e = e
cond_same false x y e = refl

paint_same_samples : {X : Type 0} (stride : ℕ) (a : StoredArea) (f : ℕ → ℕ → X → X) (s : List X) → ((r c : ℕ) (v : X) → f r c v ≡ v) → s ≡ paint stride a f s
unfolding paint
paint_same_samples stride a f s h =
    update_is _ s s refl (λ k d l. sym (cond_same (in_area a (k % stride) (k / stride)) _ (get_or s k d) (h _ _ (get_or s k d))))

pub painted_unchanged : {T : Type 0} (r : PlaneRegionMut T) (w h : ℕ) (f : ℕ → ℕ → T → T) → ((q p : ℕ) (v : T) → f q p v ≡ v) → r ≡ painted r w h f
painted_unchanged r w h f e = ap (with_samples r) (paint_same_samples r.plane_cfg.stride (corner r.area w h) f (stored r) e)
