use Rattle.std.proofs.Common.{◌≡◌, ◌<◌, List, ◌∷◌, length, ap, sym, subst, ◌∙◌, true, arith}
use Rattle.std.proofs.lemmas.List.{length-set}
use Rattle.av1_plan.specs.declared.nodes.Part.{Part}
use Rattle.av1_plan.specs.Stacks.{has_room, have_room}
use Rattle.av1_plan.proofs.Stacks.{few_below, count_on_top, put_on_top, room_for}
use Rattle.av1_plan.proofs.part_stack.PartStack.put.Goals as goal

pub bounds-self-inside-self-inside : goal.bounds-self-inside-self-inside
bounds-self-inside-self-inside c =
    let s = c.self.inside in
    let count = count_on_top s.parts s.count (omega (arith, c.self.invariant.0, c.self.invariant.1)) in
    let same = ap (λ (ps : List Part). length ps) c.self.view_is in
    omega (arith, few_below c.args.part (length c.args.self.now) c.requires, count, same)

pub invariant_of-self : goal.invariant_of-self
invariant_of-self c =
    let s = c.self.inside in
    let count = count_on_top s.parts s.count (omega (arith, c.self.invariant.0, c.self.invariant.1)) in
    let same = ap (λ (ps : List Part). length ps) c.self.view_is in
    let few : s.count < 13 = omega (arith, few_below c.args.part (length c.args.self.now) c.requires, count, same) in
    let more = put_on_top s.parts s.count c.args.part (omega (arith, few, c.self.invariant.0)) in
    let room = subst (λ (ps : List Part). has_room c.args.part (length ps) ≡ true) (sym c.self.view_is) c.requires in (
      length-set s.parts s.count c.args.part ∙ c.self.invariant.0,
      omega (arith, few),
      subst (λ (ps : List Part). have_room ps ≡ true) (sym more) (room_for c.args.part _ room c.self.invariant.2),
    )

pub returns : goal.returns
returns c =
    let s = c.self.inside in
    let count = count_on_top s.parts s.count (omega (arith, c.self.invariant.0, c.self.invariant.1)) in
    let same = ap (λ (ps : List Part). length ps) c.self.view_is in
    let few : s.count < 13 = omega (arith, few_below c.args.part (length c.args.self.now) c.requires, count, same) in
    put_on_top s.parts s.count c.args.part (omega (arith, few, c.self.invariant.0)) ∙ ap (λ (ps : List Part). c.args.part ∷ ps) c.self.view_is
