use Rattle.std.proofs.Common.{◌≡◌, ◌+◌, ◌*◌, ◌≤◌, length, List, ℕ, ◌-◌, min, ap, ◌∙◌, sym, subst, arith, inl, inr, ◌⊎◌, take, drop, ◌++◌}
use Rattle.std.proofs.Math.Seq.{take-append_seam}
use Rattle.av1_frame.specs.declared.plane_region.StoredArea.{StoredArea}
use Rattle.av1_frame.specs.Planes.{sample_at}
use Rattle.av1_frame.specs.Samples.{paint}
use Rattle.av1_frame.proofs.Paint.{length_paint}
use Rattle.av1_tile.specs.Predicted.{copied}
use Rattle.av1_tile.specs.SampleRows.{SampleRows}
use Rattle.av1_tile.proofs.Keeping.{paint_seen, paint_unseen}
use Rattle.av1_tile.proofs.predicted.PredictedPlane.keep.Goals.{then-area-self-via-then-area-self, then-area-self-via-else-area-self+then-area-self-2}
use Rattle.av1_tile.proofs.predicted.PredictedPlane.keep.Goals as goal

pub returns-then-area-self : goal.returns-then-area-self
returns-then-area-self g c =
    let a = c.args in
    let own = c.self.inside in
    let past : (own.width ≤ a.area.x) ⊎ (own.height ≤ a.area.y) = elim c.then-area-self.branch [
      | then-area-self-via-then-area-self w ↦ inl w.if-area-self.true
      | then-area-self-via-else-area-self+then-area-self-2 w ↦ inr w.if-area-self-2.true
    ] in
    let long : length own.samples.items ≡ own.height * own.width = sym own.samples.ok.0 ∙ c.self.invariant.0 in
    subst (λ (r : SampleRows _). r ≡ copied g.T.Pixel.num g.T.Pixel.pixel a.plane.now a.area r) c.self.view_is
    (ap (λ (s : List _). record { width = own.width; samples = s }) (paint_unseen own.width own.height a.area _ own.samples.items long past))

pub returns : goal.returns
returns g c =
    let a = c.args in
    let own = c.self.inside in
    let old = own.samples.items in
    let new = c.copy_area.new.samples in
    let w = own.width in
    let f : ℕ → ℕ → _ → _ = λ r k v. g.T.Pixel.pixel (sample_at g.T.Pixel.num a.plane.now (a.area.x + k) (a.area.y + r)) in
    let area : ℕ → ℕ → StoredArea = λ width height. record { x = a.area.x; y = a.area.y; width = width; height = height } in
    let long : length old ≡ own.height * w = sym own.samples.ok.0 ∙ c.self.invariant.0 in
    let same : new ≡ paint w a.area f old = c.copy_area.ensures
    ∙ ap (paint w (area c.min.result c.min-2.result) f) c.as_mut_slice.ensures.value
    ∙ ap (λ (n : ℕ). paint w (area n c.min-2.result) f old) c.min.ensures
    ∙ ap (λ (n : ℕ). paint w (area (min a.area.width (w - a.area.x)) n) f old) c.min-2.ensures
    ∙ paint_seen w own.height a.area f old long (omega (arith, c.if-area-self.false)) in
    let fits : own.samples.len ≡ length new = own.samples.ok.0 ∙ sym (length_paint w a.area f old) ∙ ap length (sym same) in
    let left : take own.samples.len (new ++ drop (length new) old) ≡ new = ap (λ (n : ℕ). take n (new ++ drop (length new) old)) fits
    ∙ take-append_seam new _ in
    subst (λ (r : SampleRows _). record { width = w; samples = take own.samples.len (new ++ drop (length new) old) } ≡
    copied g.T.Pixel.num g.T.Pixel.pixel a.plane.now a.area r) c.self.view_is
    (ap (λ (s : List _). record { width = w; samples = s }) (left ∙ same))
