use Rattle.std.proofs.Common.{ℕ, ◌<◌, ◌≡◌, false, arith, inl, inr, subst, Some, None, slice_index_or}
use Rattle.std.proofs.lemmas.Bool.{cases_lt}
use Rattle.av1_sequence.specs.Slots.{has_bit}
use Rattle.av1_sequence.proofs.Places.{fewer}
use Rattle.av1_sequence.proofs.pictures.free_place.Goals as goal

pub loop-place-preserved : goal.loop-place-preserved
loop-place-preserved c = λ i lt.
    elim (cases_lt i c.loop-place.place) [
      | inl below ↦ c.loop-place.invariant i below
      | inr le ↦
          let at : c.loop-place.place ≡ i = omega (arith, lt, le) in
          subst (λ (n : ℕ). (s : ℕ) × ((s < 8) × (has_bit c.args.refresh s ≡ false) × (slice_index_or c.args.places.now s None ≡ Some n))) at
          (c.is_shown.ensures.yes c.if-not-is_shown.false)
    ]

pub returns-clause-free : goal.returns-clause-free
returns-clause-free c = λ s lt stays is.
    let (r, has) = c.requires.some in
    let more = fewer 8 8 (has_bit c.args.refresh) (λ s. slice_index_or c.args.places.now s None) r has.0 has.1
    (λ i below. elim (cases_lt i 7) [
      | inl first ↦ c.loop-place.invariant i (omega (arith, first, c.loop-place-test.false))
      | inr le ↦ (let at : 7 ≡ i = omega (arith, below, le)
          in subst (λ (n : ℕ). (s : ℕ) × ((s < 8) × (has_bit c.args.refresh s ≡ false) × (slice_index_or c.args.places.now s None ≡ Some n))) at (
            s,
            (lt, stays, is),
          ))
    ]) in
    absurd (omega (arith, more))
