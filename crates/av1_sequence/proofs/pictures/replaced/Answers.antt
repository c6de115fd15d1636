use Rattle.std.proofs.Common.{ℕ, ◌+◌, ◌<◌, ◌≤◌, ◌≡◌, ◌∙◌, refl, ap, arith, inl, inr, sym, subst, true, false, Option, List, Some, None, slice_index_or, length}
use Rattle.std.proofs.Common.{set}
use Rattle.std.proofs.lemmas.Bool.{cases_lt, true≢false}
use Rattle.std.proofs.lemmas.List.{get_or-set_other, get_or-set_same, length-set}
use Rattle.av1_sequence.specs.Slots.{has_bit}
use Rattle.av1_sequence.proofs.pictures.replaced.Goals.{then-has_bit, else-has_bit}
use Rattle.av1_sequence.proofs.pictures.replaced.Goals as goal

-- what the places are once the first slots were gone through
record AreReplaced (places replaced : List (Option ℕ)) (refresh place n : ℕ) : Type 0 where
  count : length replaced ≡ 8
  new : (s : ℕ) → s < n → has_bit refresh s ≡ true → slice_index_or replaced s None ≡ Some place
  old : (s : ℕ) → s < 8 → has_bit refresh s ≡ false → slice_index_or replaced s None ≡ slice_index_or places s None
  rest : (s : ℕ) → n ≤ s → slice_index_or replaced s None ≡ slice_index_or places s None

one_more : (places replaced : List (Option ℕ)) (refresh place n : ℕ) → n < 8 → AreReplaced places replaced refresh place n → has_bit refresh n ≡ true →
    AreReplaced places (set replaced n (Some place)) refresh place (n + 1)
one_more places replaced refresh place n lt are has = record {
  count = length-set replaced n (Some place) ∙ are.count;
  new = λ s below e. elim (cases_lt s n) [
    | inl first ↦ get_or-set_other replaced n s (Some place) None (λ same. absurd (omega (arith, first, same))) ∙ are.new s first e
    | inr le ↦ (let at : n ≡ s = omega (arith, below, le)
        in subst (λ (k : ℕ). slice_index_or (set replaced n (Some place)) k None ≡ Some place) at
        (get_or-set_same replaced n (Some place) None (omega (arith, are.count, lt))))
  ];
  old = λ s below e. get_or-set_other replaced n s (Some place) None (λ same. absurd (true≢false (sym has ∙ ap (has_bit refresh) (sym same) ∙ e)))
      ∙ are.old s below e;
  rest = λ s le. get_or-set_other replaced n s (Some place) None (λ same. absurd (omega (arith, le, same))) ∙ are.rest s (omega (arith, le));
}

none_more : (places replaced : List (Option ℕ)) (refresh place n : ℕ) → AreReplaced places replaced refresh place n → has_bit refresh n ≡ false →
    AreReplaced places replaced refresh place (n + 1)
none_more places replaced refresh place n are has = record {
  count = are.count;
  new = λ s below e. elim (cases_lt s n) [
    | inl first ↦ are.new s first e
    | inr le ↦ (let at : s ≡ n = omega (arith, below, le) in absurd (true≢false (sym e ∙ ap (has_bit refresh) at ∙ has)))
  ];
  old = are.old;
  rest = λ s le. are.rest s (omega (arith, le));
}

pub loop-slot-init : goal.loop-slot-init
loop-slot-init c = record { count = c.requires; new = λ s lt. absurd (omega (arith, lt)); old = λ s lt e. refl; rest = λ s le. refl }

pub loop-slot-preserved : goal.loop-slot-preserved
loop-slot-preserved c =
    let a = c.args in
    let step = c.loop-slot in
    let held = step.invariant in
    let are : AreReplaced a.places step.replaced a.refresh a.place step.slot = record { count = held.count; new = held.new; old = held.old; rest = held.rest }
    in
    let past : List (Option ℕ) → Type 0 = λ xs. AreReplaced a.places xs a.refresh a.place (step.slot + 1) in
    let next : past c.if-has_bit.replaced =
    elim c.if-has_bit.branch [
      | then-has_bit w ↦ subst past (sym w.replaced-is)
          (one_more a.places step.replaced a.refresh a.place step.slot c.loop-slot-test.true are (sym c.has_bit.ensures ∙ w.if-has_bit.true))
      | else-has_bit w ↦ subst past (sym w.replaced-is)
          (none_more a.places step.replaced a.refresh a.place step.slot are (sym c.has_bit.ensures ∙ w.if-has_bit.false))
    ] in
    record { count = next.count; new = next.new; old = next.old; rest = next.rest }
