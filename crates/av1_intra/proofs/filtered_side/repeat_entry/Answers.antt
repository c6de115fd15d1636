use Rattle.std.proofs.Common.{◌∙◌, arith, refl, sym}
use Rattle.av1_intra.proofs.Repeated.{filled_entry, kept_entry}
use Rattle.av1_intra.proofs.filtered_side.repeat_entry.Goals as goal

pub returns-clause-kept : goal.returns-clause-kept
returns-clause-kept c = λ k h.
    let parts = c.split_at_mut-rest.ensures in
    kept_entry c.args.last 66 k _ c.args.numbers.now _ _ _ parts.front parts.back c.fill_row.ensures refl (omega arith) (omega arith) h

pub returns-clause-repeated : goal.returns-clause-repeated
returns-clause-repeated c = λ k h l.
    let parts = c.split_at_mut-rest.ensures in
    let last = c.args.last in
    filled_entry last 66 k _ c.args.numbers.now _ _ _ parts.front parts.back c.fill_row.ensures (omega arith) h (omega (arith, l))
    ∙ sym (filled_entry last 66 last _ c.args.numbers.now _ _ _ parts.front parts.back c.fill_row.ensures (omega arith) (omega arith) (omega arith))
