use Rattle.std.proofs.Common.{ℕ, List, ◌++◌, Some, sym, ap, ◌∙◌, drop}
use Rattle.av1_plan.specs.Walk.{remaining}
use Rattle.av1_plan.proofs.Walks.{room_is, cut_less}
use Rattle.av1_planwrite.specs.Text.{Draft, byte}
use Rattle.av1_planwrite.specs.Writing.{draft}
use Rattle.av1_planwrite.proofs.WrittenParts.{node_goes, leaf_goes}
use Rattle.av1_planwrite.proofs.nodes.Writer.next_part.Goals as goal

pub next_cut-cut-requires : goal.next_cut-cut-requires
next_cut-cut-requires c = (room_is c.in-Some-Node.field-0-is c.in-Some-Node.ensures.room).most

pub returns-in_ok-byte-in-Some-Node-clause-text : goal.returns-in_ok-byte-in-Some-Node-clause-text
returns-in_ok-byte-in-Some-Node-clause-text c =
    let n = c.in-Some-Node in
    let old = draft c.args.self.now in
    let bytes = c.in_ok-byte-in-Some-Node.ensures.text ∙ ap (λ (v : ℕ). old.1 ++ byte v) c.mark_of.ensures in
    node_goes c.args.walk.now.header (remaining c.args.walk.now) _ n.level _ _ _ old _ (sym n.ensures.value ∙ ap Some n.field-0-is) c.next_cut-cut.ensures
    c.cut.ensures.parts (ap (λ (bs : List ℕ). let d : Draft = (old.0, bs) in d) bytes)

pub returns-in_ok-byte-in-Some-Node-clause-less : goal.returns-in_ok-byte-in-Some-Node-clause-less
returns-in_ok-byte-in-Some-Node-clause-less c = λ _.
    let n = c.in-Some-Node in
    let r = room_is n.field-0-is n.ensures.room in
    cut_less c.args.walk.now.header (remaining c.args.walk.now) _ n.level _ _ _ r.some (sym n.ensures.value ∙ ap Some n.field-0-is) c.cut.ensures.parts

pub returns-in_ok-leaf_part-in-Some-Leaf-clause-text : goal.returns-in_ok-leaf_part-in-Some-Leaf-clause-text
returns-in_ok-leaf_part-in-Some-Leaf-clause-text c =
    let l = c.in-Some-Leaf in
    leaf_goes c.args.walk.now.header (remaining c.args.walk.now) _ _ _ _ (draft c.args.self.now) (draft c.leaf_part.new.self)
    (sym l.ensures.value ∙ ap Some l.field-0-is) c.pass.ensures.parts c.in_ok-leaf_part-in-Some-Leaf.ensures.text
