use Rattle.std.proofs.Common.{◌++◌, Some, List, sym, ap, ◌∙◌, length, arith}
use Rattle.av1_plan.specs.declared.nodes.Part.{Part}
use Rattle.av1_plan.specs.Remaining.{cut_before, superblocks_from}
use Rattle.av1_plan.specs.Walk.{remaining}
use Rattle.av1_plan.proofs.Walks.{room_is, cut_append, cut_first_is}
use Rattle.av1_plan.proofs.tree_walk.TreeWalk.cut.Goals as goal

pub cut-requires-clause-level : goal.cut-requires-clause-level
cut-requires-clause-level c =
    let n = c.in-Some-Node in
    let r = room_is n.field-0-is n.ensures.room in
    (r.some, r.most)

pub cut-requires-clause-place : goal.cut-requires-clause-place
cut-requires-clause-place c =
    let n = c.in-Some-Node in
    let r = room_is n.field-0-is n.ensures.room in
    (r.x_within, r.y_within)

pub cut-requires-clause-room : goal.cut-requires-clause-room
cut-requires-clause-room c =
    let n = c.in-Some-Node in
    let r = room_is n.field-0-is n.ensures.room in
    omega (arith, r.room, ap (λ (ps : List Part). length ps) c.pass.ensures.stack)

pub returns-clause-parts : goal.returns-clause-parts
returns-clause-parts c =
    let n = c.in-Some-Node in
    let old = c.args.self.now in
    let w = c.pass.new.self in
    let first = sym n.ensures.value ∙ ap Some n.field-0-is in
    ap (λ (ps : List Part). ps ++ superblocks_from w.header w.left.row w.left.col) c.cut.ensures
    ∙ cut_append w.header n.level n.x n.y c.args.cut w.parts (superblocks_from w.header w.left.row w.left.col)
    ∙ ap (cut_before w.header n.level n.x n.y c.args.cut) c.pass.ensures.parts
    ∙ rw c.pass.ensures.header (sym (cut_first_is old.header (remaining old) n.level n.x n.y c.args.cut first))
