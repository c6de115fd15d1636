use Rattle.std.proofs.Common.{List, ◌≡◌, ◌∙◌, false, inl, inr, ap, arith, length, map, refl, rules, subst, sym, tests}
use Rattle.av1_plan.specs.declared.header.Header.{Header}
use Rattle.av1_trace.specs.declared.entry.Difference.{Difference}
use Rattle.av1_calls.proofs.Blocks.{denied}
use Rattle.av1_c.specs.TraceCalls.{AreGiven, difference_numbers, given_of, listed}
use Rattle.av1_c.proofs.differences.list_differences.Goals as goal

pub compare_given-requires-clause-given : goal.compare_given-requires-clause-given
compare_given-requires-clause-given c =
    subst (λ (h : Header). AreGiven h (given_of c.args.planes)) c.header.ensures.value
    (c.are_given.ensures.true_is (grind (arith, tests, c.if-not-are_given.false)))

pub returns-then-not-are_given : goal.returns-then-not-are_given
returns-then-not-are_given c =
    let untrue : c.are_given.result ≡ false = grind (arith, tests, c.if-not-are_given.true) in
    record {
      done = λ e. cc;
      area = λ _ are. denied c.are_given.result c.are_given.ensures.is_true untrue
          (subst (λ (h : Header). AreGiven h (given_of c.args.planes)) (sym c.header.ensures.value) are);
      kept = λ _. (refl, refl);
      known = inr (inl refl);
    }

pub returns-in-Ok : goal.returns-in-Ok
returns-in-Ok c =
    let a = c.args in
    let are = subst (λ (h : Header). AreGiven h (given_of a.planes)) c.header.ensures.value
    (c.are_given.ensures.true_is (grind (arith, tests, c.if-not-are_given.false))) in
    record {
      done = λ _. (
        are,
        record {
          count = (let e : c.len.result ≡ length c.in-Ok.list.items = search rules in e) ∙ ap length c.in-Ok.ensures;
          front = c.put_differences.ensures
              ∙ ap (λ (xs : List Difference). listed (map difference_numbers xs) a.room.now) (c.deref.ensures.value ∙ c.in-Ok.ensures);
        },
      );
      area = λ e. cc;
      kept = λ other. absurd (other refl);
      known = inl refl;
    }

pub returns-in-Err : goal.returns-in-Err
returns-in-Err c = record { done = λ e. cc; area = λ e. cc; kept = λ _. (refl, refl); known = inr (inr refl) }
