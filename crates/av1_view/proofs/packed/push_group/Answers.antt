use Rattle.std.proofs.Common.{rules, ◌≡◌, ℕ, List, ◌++◌, refl, sym, ap, take, ◌∙◌, append-nil, w64}
use Rattle.std.specs.Int.{to_le_bytes}
use Rattle.av1_view.specs.Packed.{joined}
use Rattle.av1_view.proofs.Packing.{group_pushed}
use Rattle.av1_view.proofs.packed.push_group.Goals as goal

pub returns : goal.returns
returns c =
    let between = c.push.new.self.items in
    let bytes =
    c.in_ok-extend_from_slice.ensures.items ∙ ap (λ (n : ℕ). between ++ take n c.to_le_bytes-word.result) c.from.ensures
    ∙ ap (λ (l : List ℕ). between ++ take c.bits_of-bits.result l) c.to_le_bytes-word.ensures in
    group_pushed c.args.bytes.now.items between _ c.args.group.now c.bits_of-bits.result c.joined.result c.bits_of-bits.ensures.few
    c.bits_of-bits.ensures.value c.joined.ensures c.in_ok-push.ensures.items bytes

pub returns-then-bits-eq0 : goal.returns-then-bits-eq0
returns-then-bits-eq0 c =
    let between = c.push.new.self.items in
    let bits = c.bits_of-bits.result in
    let word = joined bits c.args.group.now in
    let none : bits ≡ 0 = search rules in
    group_pushed c.args.bytes.now.items between between c.args.group.now bits word c.bits_of-bits.ensures.few c.bits_of-bits.ensures.value refl
    c.in_ok-push.ensures.items (sym (ap (λ (n : ℕ). between ++ take n (to_le_bytes w64 word)) none ∙ append-nil between))
