use Rattle.av1_planwrite.proofs.Left.{few_triples, leaf_step}
use Rattle.av1_planwrite.proofs.nodes.Writer.leaf.Goals as goal

pub told_triples-y-requires-clause-count : goal.told_triples-y-requires-clause-count
told_triples-y-requires-clause-count c = few_triples c.args.self.now.plan.now c.args.self.now.next 0 c.args.leaf c.requires

pub told_triples-u-requires-clause-count : goal.told_triples-u-requires-clause-count
told_triples-u-requires-clause-count c = few_triples c.args.self.now.plan.now c.args.self.now.next 1 c.args.leaf c.requires

pub told_triples-v-requires-clause-count : goal.told_triples-v-requires-clause-count
told_triples-v-requires-clause-count c = few_triples c.args.self.now.plan.now c.args.self.now.next 2 c.args.leaf c.requires

pub returns : goal.returns
returns c =
    leaf_step c.args.self.now.coefficients c.args.self.now.plan.now c.args.self.now.next c.args.leaf c.args.self.now.text.bytes.items
    c.leaf.new.self.bytes.items _ _ _ c.requires
    c.told_triples-y.ensures.value c.told_triples-u.ensures.value c.told_triples-v.ensures.value c.in_ok-leaf.ensures.text
