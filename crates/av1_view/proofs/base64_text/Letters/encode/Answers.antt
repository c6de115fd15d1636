use Rattle.std.proofs.Common.{arith, rules, ◌≡◌, ◌+◌, ◌*◌, ◌/◌, ◌<◌, ◌≤◌, List, ℕ, ◌++◌, drop, length, length-append, ap, ◌∙◌}
use Rattle.std.proofs.lemmas.List.{take_rest}
use Rattle.av1_view.specs.Base64.{base64_text}
use Rattle.av1_view.proofs.Groups.{all_letters, next_group, next_letters}
use Rattle.av1_view.proofs.base64_text.Letters.encode.Goals as goal

pub groups-init : goal.groups-init
groups-init c = record {
  so_far = ap (λ (l : List ℕ). l ++ base64_text c.args.bytes.now) c.clear.ensures;
  long = ap length c.clear.ensures;
}

pub push-requires : goal.push-requires
push-requires c = omega (arith, c.groups.invariant.long, c.groups-test.true, c.requires)

pub groups-preserved : goal.groups-preserved
groups-preserved c =
    let four : length c.group.result ≡ 4 = search rules in
    let inside : 3 * c.groups.k + 2 < length c.args.bytes.now = omega (arith, c.groups-test.true) in
    record {
      so_far = next_group c.args.bytes.now c.groups.self _ c.group.result c.groups.k inside c.groups.invariant.so_far c.group.ensures c.push.ensures;
      long = omega (arith, four, ap length c.push.ensures, length-append c.groups.self c.group.result, c.groups.invariant.long);
    }

pub returns-then-whole-bytes : goal.returns-then-whole-bytes
returns-then-whole-bytes c =
    let bytes = c.args.bytes.now in
    let end : length bytes / 3 ≡ c.groups.k = omega (arith, c.groups-test.false, c.groups.auto.k-end) in
    let past : length bytes ≤ 3 * (c.groups.k + 1) = omega (arith, end) in
    c.push-then-whole-bytes.ensures
    ∙ all_letters bytes (c.groups.self ++ c.first_letters.result) (c.groups.k + 1) past
    (next_letters bytes _ c.groups.self c.first_letters.result c.groups.k (take_rest bytes (3 * (length bytes / 3)) ∙ ap (λ (n : ℕ). drop (3 * n) bytes) end)
    c.groups.invariant.so_far c.first_letters.ensures)

pub returns-else-whole-bytes : goal.returns-else-whole-bytes
returns-else-whole-bytes c =
    let past : length c.args.bytes.now ≤ 3 * c.groups.k = omega (arith, c.if-whole-bytes.false, c.groups-test.false) in
    all_letters c.args.bytes.now c.groups.self c.groups.k past c.groups.invariant.so_far
