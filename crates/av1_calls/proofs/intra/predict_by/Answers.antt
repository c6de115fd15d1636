use Rattle.std.proofs.Common.{ℕ, ◌≡◌, ◌≢◌, ◌≤◌, true, refl, inl, rules, ap, ◌∙◌, sym, subst, length, w16}
use Rattle.std.proofs.lemmas.Int.{to_z-of_z}
use Rattle.av1_blocks.specs.Modes.{is_directional, is_intra}
use Rattle.av1_lists.specs.Sides.{IsTransformSide}
use Rattle.av1_frame.specs.Areas.{AreRows}
use Rattle.av1_frame.specs.declared.plane_region.StoredArea.{StoredArea}
use Rattle.av1_intra.specs.Angles.{is_interpolated}
use Rattle.av1_intra.specs.declared.directional.DirectionalBlock.{DirectionalBlock}
use Rattle.av1_intra.proofs.ByMode.{effective_intra, tx_height_side, tx_width_side}
use Rattle.av1_calls.specs.IntraBlocks.{HasNoDepth, HasShortSides, IsIntraBlock, IsIntraFault, LiesOutside, block_of, mode_in, variant_in}
use Rattle.av1_calls.specs.Arguments.{argument_status}
use Rattle.av1_calls.specs.declared.intra.Counts.{Counts}
use Rattle.av1_calls.specs.declared.argument.BadArgument.{BadArgument}
use Rattle.av1_calls.specs.declared.argument.BadArgument.TheVariants as bad
use Rattle.av1_calls.proofs.Blocks.{one_argument}
use Rattle.av1_blocks.proofs.Depths.{least_depth}
use Rattle.av1_calls.proofs.IntraCalls.{long_for, predicted_so, turned_angle}
use Rattle.av1_calls.proofs.intra.predict_by.Goals as goal

pub dispatch_predict_intra_to-requires : goal.dispatch_predict_intra_to-requires
dispatch_predict_intra_to-requires g c =
    let a = c.args in
    let b = a.block in
    let p = c.in-Ok.found in
    let f = c.in-Ok.ensures.found in
    let m = mode_in b a.mode in
    let P = λ (Q : DirectionalBlock → Type 0) (q : Q (block_of b m p.size)). subst Q (sym f.block_is) q in
    let long = long_for p.block (block_of b m p.size) p.variant (variant_in b) p.mode m (length a.sides.left.now) (length a.sides.above.now)
    (length a.ac.now) f.block_is f.variant_is f.mode_is f.asked.sides in
    let bits = c.BITS.ensures in
    record {
      intra = subst (λ k. is_intra k ≡ true) (sym f.mode_is) (effective_intra a.mode b.has_left b.has_above c.requires.intra);
      rows = subst (λ (r : StoredArea). AreRows a.at.stride r (length a.samples.now)) (sym f.area_is) f.asked.rows;
      columns = ap (λ (s : StoredArea). s.width) f.area_is ∙ sym (ap (λ (k : DirectionalBlock). k.width) f.block_is);
      lines = ap (λ (s : StoredArea). s.height) f.area_is ∙ sym (ap (λ (k : DirectionalBlock). k.height) f.block_is);
      width = P (λ k. IsTransformSide k.width) (tx_width_side p.size);
      height = P (λ k. IsTransformSide k.height) (tx_height_side p.size);
      angle = λ h. P (λ k. k.p_angle ≢ 90 → k.p_angle ≢ 180 → is_interpolated k.p_angle ≡ true)
          (turned_angle m b.angle_step f.asked.turn.few (subst (λ k. is_directional k ≡ true) f.mode_is h));
      above_long = long.above_long;
      left_long = long.left_long;
      ac_long = long.ac_long;
      low = P (λ k. 8 ≤ k.bit_depth) (least_depth b.bit_depth f.asked.depth.known);
      high = P (λ k. k.bit_depth ≤ g.T.Pixel.BITS) (subst (λ n. b.bit_depth ≤ n) bits f.asked.depth.fits);
    }

pub returns-in-Ok : goal.returns-in-Ok
returns-in-Ok g c =
    let a = c.args in
    let s = a.sides in
    let at = a.at in
    let p = c.in-Ok.found in
    let f = c.in-Ok.ensures.found in
    let found =
    subst (λ (n : ℕ). IsIntraBlock n a.block a.mode at.stride at.x at.y (length s.left.now) (length s.above.now) (length a.ac.now)
    (length a.samples.now) p.size) c.BITS.ensures f.asked in
    let painted =
    predicted_so g.T.Pixel.num g.T.Pixel.pixel a.block a.mode p.mode p.size at.stride at.x at.y s.left.now s.corner s.above.now a.ac.now a.alpha _
    a.samples.now c.dispatch_predict_intra_to.new.samples p.area p.block p.variant f.area_is f.mode_is f.variant_is
    f.block_is (to_z-of_z w16 a.alpha c.ranges.alpha) c.dispatch_predict_intra_to.ensures in
    record {
      done = λ _. (p.size, (found, painted));
      asked = λ _ _. refl;
      size = λ e. cc;
      angle = λ e. cc;
      depth = λ e. cc;
      area = λ e. cc;
      short = λ e. cc;
      kept = λ other. absurd (other refl);
      known = inl refl;
    }

pub returns-in-Err : goal.returns-in-Err
returns-in-Err g c =
    let a = c.args in
    let bits = c.BITS.ensures in
    let fault = c.in-Err.ensures.fault in
    let is = λ (other : BadArgument) (e : c.status.result ≡ argument_status other). one_argument c.in-Err.fault other (sym c.status.ensures ∙ e) in
    let has : Counts = record { left = length a.sides.left.now; above = length a.sides.above.now; ac = length a.ac.now; samples = length a.samples.now } in
    let Told = IsIntraFault c.BITS.result a.block a.mode a.at has in
    record {
      done = search rules;
      asked = search rules;
      size = λ e. subst Told (is bad.Size e) fault;
      angle = λ e. subst Told (is bad.Angle e) fault;
      depth = λ e. subst (λ (n : ℕ). HasNoDepth n a.block a.mode) bits (subst Told (is bad.Depth e) fault);
      area = λ e. subst (λ (n : ℕ). LiesOutside n a.block a.mode a.at.stride a.at.x a.at.y has.samples) bits (subst Told (is bad.Area e) fault);
      short = λ e.
          subst (λ (n : ℕ). HasShortSides n a.block a.mode a.at.stride a.at.x a.at.y has.left has.above has.ac has.samples)
          bits (subst Told (is bad.Short e) fault);
      kept = λ _. refl;
      known = search rules;
    }
