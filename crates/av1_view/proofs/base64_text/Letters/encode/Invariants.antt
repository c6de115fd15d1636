use Rattle.std.proofs.Common.{◌≡◌, ◌*◌, ◌++◌, drop, length}
use Rattle.av1_view.specs.Base64.{base64_text}
use Rattle.av1_view.proofs.base64_text.Letters.encode.Given as goal

abbrev pub invariant-groups : goal.invariant-groups
invariant-groups l = record {
  so_far : l.self ++ base64_text (drop (3 * l.k) l.bytes) ≡ base64_text l.bytes;
  long : length l.self ≡ 4 * l.k;
}
