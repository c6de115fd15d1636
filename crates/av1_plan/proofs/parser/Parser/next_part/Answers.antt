use Rattle.std.proofs.Common.{Some, sym, ap, ◌∙◌, arith}
use Rattle.av1_plan.specs.declared.header.Header.{Header}
use Rattle.av1_plan.specs.Parsing.{state}
use Rattle.av1_plan.specs.Remaining.{cut_first}
use Rattle.av1_plan.specs.Walk.{remaining}
use Rattle.av1_plan.proofs.RemainingParts.{node_goes, node_fails, leaf_goes, leaf_fails, passed_on}
use Rattle.av1_plan.proofs.Walks.{room_is}
use Rattle.av1_plan.proofs.parser.Parser.next_part.Goals as goal

pub mark-requires-clause-level : goal.mark-requires-clause-level
mark-requires-clause-level c = let r = room_is c.in-Some-Node.field-0-is c.in-Some-Node.ensures.room in r.most

pub mark-requires-clause-x : goal.mark-requires-clause-x
mark-requires-clause-x c = let r = room_is c.in-Some-Node.field-0-is c.in-Some-Node.ensures.room in omega (arith, r.x_within)

pub mark-requires-clause-y : goal.mark-requires-clause-y
mark-requires-clause-y c = let r = room_is c.in-Some-Node.field-0-is c.in-Some-Node.ensures.room in omega (arith, r.y_within)

pub returns-in_err-cut-in-Some-Node-clause-fails : goal.returns-in_err-cut-in-Some-Node-clause-fails
returns-in_err-cut-in-Some-Node-clause-fails c =
    let n = c.in-Some-Node in
    passed_on c.from_residual.result c.in_err-cut-in-Some-Node.field-0.0 _ c.from_residual.ensures.1
    (node_fails c.args.header.now (remaining c.args.walk.now) n.level n.x n.y _ _ c.in_err-cut-in-Some-Node.field-0.0 (sym n.ensures.value
    ∙ ap Some n.field-0-is)
    c.in_err-cut-in-Some-Node.ensures.read)

pub returns-in_err-leaf-in-Some-Leaf-clause-fails : goal.returns-in_err-leaf-in-Some-Leaf-clause-fails
returns-in_err-leaf-in-Some-Leaf-clause-fails c =
    let l = c.in-Some-Leaf in
    passed_on c.from_residual-in_err-leaf-in-Some-Leaf.result c.in_err-leaf-in-Some-Leaf.field-0.0 _ c.from_residual-in_err-leaf-in-Some-Leaf.ensures.1
    (leaf_fails c.args.header.now (remaining c.args.walk.now) l.size l.x l.y (state c.args.self.now) c.in_err-leaf-in-Some-Leaf.field-0.0
    (sym l.ensures.value ∙ ap Some l.field-0-is) c.in_err-leaf-in-Some-Leaf.ensures.read)

pub returns-in_ok-cut-in-Some-Node-clause-read : goal.returns-in_ok-cut-in-Some-Node-clause-read
returns-in_ok-cut-in-Some-Node-clause-read c =
    let n = c.in-Some-Node in
    let cut = c.in_ok-cut-in-Some-Node.cut in
    node_goes c.args.header.now (remaining c.args.walk.now) _ n.level n.x n.y cut _ _ _ (sym n.ensures.value ∙ ap Some n.field-0-is)
    (c.cut.ensures.parts ∙ ap (λ (h : Header). cut_first h (remaining c.args.walk.now) cut) c.requires.frame) c.in_ok-cut-in-Some-Node.ensures.read

pub returns-in_ok-leaf-in-Some-Leaf-clause-read : goal.returns-in_ok-leaf-in-Some-Leaf-clause-read
returns-in_ok-leaf-in-Some-Leaf-clause-read c =
    let l = c.in-Some-Leaf in
    leaf_goes c.args.header.now (remaining c.args.walk.now) _ l.size l.x l.y (state c.args.self.now) (state c.leaf.new.self)
    (sym l.ensures.value ∙ ap Some l.field-0-is) c.pass.ensures.parts c.in_ok-leaf-in-Some-Leaf.ensures.read
