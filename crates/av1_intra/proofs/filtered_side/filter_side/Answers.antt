use Rattle.std.proofs.Common.{◌≡◌, ℕ, ◌+◌, Bool, cond, ap, sym, ◌∙◌, arith}
use Rattle.av1_intra.specs.Sides.{Side, distance, entries}
use Rattle.av1_intra.specs.EdgeFilter.{filter_strength, filtered}
use Rattle.av1_intra.specs.Upsampling.{is_upsampled, upsampled}
use Rattle.av1_intra.specs.Directional.{filter_choice, prepared}
use Rattle.av1_intra.specs.declared.directional.DirectionalBlock.{DirectionalBlock}
use Rattle.av1_intra.proofs.Ranges.{delta_is}
use Rattle.av1_intra.proofs.filtered_side.filter_side.Goals as goal

-- what a strength and upsampling make of a side
abbrev made : DirectionalBlock → ℕ → ℕ → Side → ℕ → Bool → Side
made b n m A strength upsample = cond upsample (upsampled b.bit_depth m (filtered n strength A)) (filtered n strength A)

-- and what the choice of the filter does
abbrev chosen : DirectionalBlock → ℕ → ℕ → ℕ → Side → Bool → Side
chosen b d n m A smooth = made b n m A (filter_strength (b.width + b.height) smooth d) (is_upsampled (b.width + b.height) smooth d)

pub returns-in-None-clause-numbers : goal.returns-in-None-clause-numbers
unfolding prepared
returns-in-None-clause-numbers c =
    let d = distance c.args.block.p_angle c.args.straight in
    let A = entries c.args.numbers.now in
    sym (ap (λ f. filter_choice f A (chosen c.args.block d c.args.smoothed c.args.places A)) c.in-None.is)

pub returns-in-Some-clause-numbers : goal.returns-in-Some-clause-numbers
unfolding prepared
returns-in-Some-clause-numbers c =
    let b = c.args.block in
    let s = b.width + b.height in
    let d = distance b.p_angle c.args.straight in
    let q = delta_is b.p_angle c.args.straight (omega arith) (omega arith) in
    let A = entries c.args.numbers.now in
    let smooth = c.in-Some.smooth in
    let m : c.select_ief_strength-strength.result ≡ filter_strength s smooth d = c.select_ief_strength-strength.ensures.value ∙ ap (filter_strength s smooth) q
    in
    let n : c.select_ief_upsample-upsample.result ≡ is_upsampled s smooth d = c.select_ief_upsample-upsample.ensures ∙ ap (is_upsampled s smooth) q in
    c.prepare.ensures
    ∙ ap (λ k. made b c.args.smoothed c.args.places A k c.select_ief_upsample-upsample.result) m
    ∙ ap (made b c.args.smoothed c.args.places A (filter_strength s smooth d)) n
    ∙ sym (ap (λ f. filter_choice f A (chosen b d c.args.smoothed c.args.places A)) c.in-Some.is)
