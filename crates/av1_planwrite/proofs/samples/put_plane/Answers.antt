use Rattle.std.proofs.Common.{◌≡◌, ℕ, ◌+◌, List, ◌++◌, length, take, ap, sym, ◌∙◌, arith}
use Rattle.std.proofs.Math.Seq.{take-append-add}
use Rattle.av1_planwrite.specs.Text.{plane_text}
use Rattle.av1_planwrite.proofs.Rests.{rest_within}
use Rattle.av1_planwrite.proofs.samples.put_plane.Goals as goal

pub returns-clause-text : goal.returns-clause-text
returns-clause-text c =
    let split = c.split_at_mut-free in
    let front = split.result.0.now in
    let len : length front ≡ c.args.at = omega (arith, split.ensures.front_len) in
    ap (λ (n : ℕ). take (n + c.pack.result) (front ++ c.pack.new.bytes)) (sym len) ∙ take-append-add front c.pack.new.bytes c.pack.result
    ∙ ap (λ (bytes : List ℕ). front ++ bytes) c.pack.ensures.bytes
    ∙ ap (λ (bytes : List ℕ). bytes ++ plane_text c.args.depth c.args.samples.now) split.ensures.front

pub returns-clause-rest : goal.returns-clause-rest
returns-clause-rest c =
    let split = c.split_at_mut-free in
    rest_within c.args.at c.pack.result split.result.0.now split.result.1.now c.pack.new.bytes c.args.slice.now split.ensures.value
    (omega (arith, split.ensures.front_len)) c.pack.ensures.rest
