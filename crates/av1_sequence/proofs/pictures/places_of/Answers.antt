use Rattle.std.proofs.Common.{ℕ, ◌≡◌, ◌∙◌, ap, arith, inl, inr, refl, subst, Option, Some, None, slice_index_or, set}
use Rattle.std.specs.Option.{unwrap_or}
use Rattle.std.proofs.lemmas.Bool.{cases_lt}
use Rattle.std.proofs.lemmas.List.{get_or-set_other, get_or-set_same, length-set}
use Rattle.av1_sequence.proofs.pictures.places_of.Goals as goal

pub loop-reference-init : goal.loop-reference-init
loop-reference-init c = record { count = refl; names = λ i place lt. absurd (omega (arith, lt)) }

pub loop-reference-preserved : goal.loop-reference-preserved
loop-reference-preserved c =
    let named = c.loop-reference.named in
    let reference = c.loop-reference.reference in
    record {
      count = length-set named reference c.unwrap_or.result ∙ c.loop-reference.invariant.count;
      names = λ i place lt e.
          elim (cases_lt i reference) [
            | inl below ↦ get_or-set_other named reference i c.unwrap_or.result 0 (λ same. absurd (omega (arith, below, same)))
                ∙ c.loop-reference.invariant.names i place below e
            | inr le ↦
                let at : reference ≡ i = omega (arith, lt, le) in
                let here : slice_index_or c.args.places.now c.from.result None ≡ Some place =
                ap (λ (n : ℕ). slice_index_or c.args.places.now n None) (c.from.ensures ∙ ap (λ (n : ℕ). slice_index_or c.args.slots.now n 0) at) ∙ e in
                let own : slice_index_or (set named reference c.unwrap_or.result) reference 0 ≡ place =
                get_or-set_same named reference c.unwrap_or.result 0 (omega (arith, c.loop-reference.invariant.count, c.loop-reference-test.true))
                ∙ c.unwrap_or.ensures ∙ ap (λ (o : Option ℕ). unwrap_or o 0) here in
                subst (λ (n : ℕ). slice_index_or (set named reference c.unwrap_or.result) n 0 ≡ place) at own
          ];
    }
