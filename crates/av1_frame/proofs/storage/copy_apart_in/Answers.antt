use Rattle.std.proofs.Common.{◌+◌, ◌≤◌, inl, inr, arith, rules}
use Rattle.av1_frame.proofs.Update.{part_before, part_behind}
use Rattle.av1_frame.proofs.storage.copy_apart_in.Goals as goal

pub returns-then-from-to : goal.returns-then-from-to
returns-then-from-to g c =
    let a = c.args in
    let apart : a.from + a.width ≤ a.to = elim c.requires.apart [ inl h ↦ omega (arith, h) | inr h ↦ omega (arith, h) ] in
    part_behind a.from a.to a.width a.samples.now _ _ _ apart c.requires.from c.requires.to c.split_at_mut-source.ensures.front
    c.split_at_mut-source.ensures.back (search rules)

pub returns-else-from-to : goal.returns-else-from-to
returns-else-from-to g c =
    let a = c.args in
    let apart : a.to + a.width ≤ a.from = elim c.requires.apart [ inl h ↦ omega (arith, h) | inr h ↦ omega (arith, h) ] in
    let outer = c.split_at_mut-front.ensures in
    let inner = c.split_at_mut-target.ensures in
    part_before a.from a.to a.width a.samples.now _ _ _ _ _ apart c.requires.from c.requires.to outer.front inner.front inner.back outer.back (search rules)
