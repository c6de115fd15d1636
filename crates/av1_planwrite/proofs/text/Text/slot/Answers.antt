use Rattle.std.proofs.Common.{◌≡◌, List, ℕ, OnOk, subst}
use Rattle.av1_planwrite.proofs.References.{slot_bytes}
use Rattle.av1_planwrite.proofs.text.Text.slot.Goals as goal

pub returns : goal.returns
returns c =
    subst (λ (bytes : List ℕ). OnOk c.slot_plane-3.result (c.slot_plane-3.new.self.bytes.items ≡ bytes))
    (slot_bytes c.args.plan.now c.args.slot c.args.self.now.bytes.items c.slot_plane.new.self.bytes.items c.slot_plane-2.new.self.bytes.items c.requires
    c.in_ok-slot_plane.ensures c.in_ok-slot_plane-2.ensures) c.slot_plane-3.ensures
