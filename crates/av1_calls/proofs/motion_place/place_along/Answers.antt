use mir.Val.{SFits}
use Rattle.std.proofs.Common.{ℤ, ◌≡◌, ◌∙◌, ◌+◌, ◌-ℤ◌, ap, arith, pos, rules, to_z, of_z, w16, w64}
use Rattle.std.specs.Int.{int_max, int_min}
use Rattle.std.proofs.lemmas.Int.{ints, to_z-of_z}
use Rattle.av1_calls.specs.MotionPlaces.{first_read}
use Rattle.av1_calls.proofs.MotionPlaces.{kept, kept_greatest, kept_least, place_found}
use Rattle.av1_calls.proofs.motion_place.place_along.Goals as goal

pub returns : goal.returns
returns c =
    let a = c.args in
    let first : ℤ = first_read a.at a.component a.decimation in
    let least : ℤ = pos 0 -ℤ pos (a.side + 7) in
    let low : ℤ = to_z w64 (of_z w64 c.pads_begin.result) in
    let high : ℤ = to_z w64 (of_z w64 c.signed.result) in
    let fits : SFits w16 a.component = search rules in
    let fits_first : SFits w64 c.first_read-first.result = search rules in
    let fits_low : SFits w64 c.pads_begin.result = search rules in
    let fits_high : SFits w64 c.signed.result = search rules in
    let first_is = to_z-of_z w64 c.first_read-first.result fits_first ∙ c.first_read-first.ensures
    ∙ ap (λ (k : ℤ). first_read a.at k a.decimation) (to_z-of_z w16 a.component fits) in
    let e : c.kept_between.result ≡ kept first a.side a.visible =
    c.kept_between.ensures ∙ ap (λ z. int_min (int_max z low) high) first_is
    ∙ ap (λ z. int_min (int_max first z) high) (to_z-of_z w64 c.pads_begin.result fits_low ∙ c.pads_begin.ensures)
    ∙ ap (int_min (int_max first least)) (to_z-of_z w64 c.signed.result fits_high ∙ c.signed.ensures) in
    let l = kept_least first a.side a.visible in
    let g = kept_greatest first a.side a.visible in
    place_found first a.side a.visible _ c.requires.some (omega (arith, ints, e, l, g))
