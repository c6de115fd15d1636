use Rattle.std.proofs.Common.{true, false, refl, sym, ◌∙◌, arith}
use Rattle.std.proofs.lemmas.Int.{ints}
use Rattle.av1_plan.proofs.Faults.{next_is}
use Rattle.av1_plan.proofs.check.is_next.Goals as goal

pub is_bounded-requires : goal.is_bounded-requires
is_bounded-requires c = rw c.requires.limit (omega (arith, ints))

pub returns-then-not-follows : goal.returns-then-not-follows
returns-then-not-follows c =
    next_is c.args.header.now c.args.p c.args.area.now c.args.last c.args.triple.now c.args.bounds.places c.args.bounds.limit false _ _ c.requires.places
    c.requires.limit (sym c.follows.ensures ∙ c.if-not-follows.true) refl refl

pub returns-then-not-is_bounded : goal.returns-then-not-is_bounded
returns-then-not-is_bounded c =
    next_is c.args.header.now c.args.p c.args.area.now c.args.last c.args.triple.now c.args.bounds.places c.args.bounds.limit true false _ c.requires.places
    c.requires.limit (sym c.follows.ensures ∙ c.if-not-follows.false) (sym c.is_bounded.ensures ∙ c.if-not-is_bounded.true) refl

pub returns : goal.returns
returns c =
    next_is c.args.header.now c.args.p c.args.area.now c.args.last c.args.triple.now c.args.bounds.places c.args.bounds.limit true true c.has_block.result
    c.requires.places c.requires.limit (sym c.follows.ensures ∙ c.if-not-follows.false) (sym c.is_bounded.ensures ∙ c.if-not-is_bounded.false)
    (sym c.has_block.ensures)
