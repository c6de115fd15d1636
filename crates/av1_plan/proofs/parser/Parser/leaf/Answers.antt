use Rattle.std.proofs.Common.{arith, length}
use Rattle.av1_plan.proofs.Formats.{adding}
use Rattle.av1_plan.proofs.Triples.{leaf_values_push, Follow-push, few_push}
use Rattle.av1_plan.proofs.parser.Parser.leaf.Goals as goal

pub returns-clause-read : goal.returns-clause-read
returns-clause-read c =
    let e = leaf_values_push c.args.self.now.triples.items c.leaf.new.into.items c.args.self.now.leaves.items _ c.in_ok-leaf.leaf c.requires.follow
    c.in_ok-leaf.ensures.extends in
    rw (c.in_ok-push.ensures.items, e) (grind (arith, adding))

pub returns-clause-sound : goal.returns-clause-sound
returns-clause-sound c = record {
  follow =
      rw (c.in_ok-push.ensures.items, c.in_ok-leaf.ensures.extends.count)
      (Follow-push 0 c.args.self.now.leaves.items (length c.args.self.now.triples.items) c.in_ok-leaf.leaf c.requires.follow c.in_ok-leaf.ensures.first);
  room = omega arith;
  few = rw c.in_ok-push.ensures.items (few_push c.args.self.now.leaves.items c.in_ok-leaf.leaf _ _ c.requires.few c.in_ok-leaf.ensures.takes);
}
