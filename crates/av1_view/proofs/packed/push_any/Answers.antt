use Rattle.std.proofs.Common.{◌≡◌, ℕ, ◌++◌, List, IfOk, subst}
use Rattle.av1_view.specs.Packed.{group_bytes}
use Rattle.av1_view.proofs.packed.push_any.Goals as goal

pub returns : goal.returns
returns c =
    subst (λ (l : List ℕ). IfOk c.push_group.result (λ done. c.push_group.new.bytes.items ≡ c.args.bytes.now.items ++ group_bytes l)) c.any_group-group.ensures
    c.push_group.ensures
