-- References that show the same predict the same.
use Rattle.std.proofs.Common.{ℕ, ◌<◌, ◌≡◌, ap, ◌∙◌, ℤ}
use mathlib.Core.Path.{fun_ext}
use Rattle.av1_blocks.specs.declared.mc.FilterMode.{FilterMode}
use Rattle.av1_blocks.specs.declared.mc.MotionVector.{MotionVector}
use Rattle.av1_frame.proofs.Slices.{visible_below}
use Rattle.av1_inter.specs.Filters.{filter_of}
use Rattle.av1_inter.specs.Motion.{single, prepared}
use Rattle.av1_inter.specs.Reference.{ReferencePlane, moved_in, single_in, prepared_in, sixteenths}

-- two references with the same sides, halved in the same way, whose visible samples agree; each has some
pub record ShowSame (p q : ReferencePlane) : Type 0 where
  pub width : p.width ≡ q.width
  pub height : p.height ≡ q.height
  pub xdec : p.xdec ≡ q.xdec
  pub ydec : p.ydec ≡ q.ydec
  pub some_columns : 0 < q.width
  pub some_rows : 0 < q.height
  pub samples : (x y : ℕ) → x < q.width → y < q.height → p.sample x y ≡ q.sample x y

module _ (p q : ReferencePlane) (same : ShowSame p q) where
  -- q with the samples of p is p
  with_samples : ReferencePlane
  with_samples = record q { sample = p.sample }

  is_first : p ≡ with_samples
  unfolding with_samples
  is_first =
      let made : ℕ → ℕ → ℕ → ℕ → ReferencePlane = λ w h u v. record { width = w; height = h; xdec = u; ydec = v; sample = p.sample } in
      ap (λ n. made n p.height p.xdec p.ydec) same.width ∙ ap (λ n. made q.width n p.xdec p.ydec) same.height
      ∙ ap (λ n. made q.width q.height n p.ydec) same.xdec ∙ ap (λ n. made q.width q.height q.xdec n) same.ydec

  moved_same : (x y : ℤ) (mv : MotionVector) → moved_in with_samples x y mv ≡ moved_in q x y mv
  unfolding with_samples
  moved_same x y mv =
      fun_ext (λ c. fun_ext (λ r. same.samples _ _ (visible_below q.width _ same.some_columns) (visible_below q.height _ same.some_rows)))

  pub single_in_same : (depth : ℕ) (mode : ℕ → FilterMode) (x y : ℤ) (mv : MotionVector) (width height r c : ℕ)
      → single_in depth mode p x y mv width height r c ≡ single_in depth mode q x y mv width height r c
  unfolding with_samples
  single_in_same depth mode x y mv width height r c =
      let fx = sixteenths mv.col q.xdec in
      let fy = sixteenths mv.row q.ydec in
      ap (λ u. single_in depth mode u x y mv width height r c) is_first
      ∙ ap (λ s. single depth fx fy (filter_of (mode width) fx width) (filter_of (mode height) fy height) s r c) (moved_same x y mv)

  pub prepared_in_same : (depth : ℕ) (mode : ℕ → FilterMode) (x y : ℤ) (mv : MotionVector) (width height r c : ℕ)
      → prepared_in depth mode p x y mv width height r c ≡ prepared_in depth mode q x y mv width height r c
  unfolding with_samples
  prepared_in_same depth mode x y mv width height r c =
      let fx = sixteenths mv.col q.xdec in
      let fy = sixteenths mv.row q.ydec in
      ap (λ u. prepared_in depth mode u x y mv width height r c) is_first
      ∙ ap (λ s. prepared depth fx fy (filter_of (mode width) fx width) (filter_of (mode height) fy height) s r c) (moved_same x y mv)
