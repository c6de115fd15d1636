use Rattle.std.proofs.Common.{sym, ◌∙◌}
use Rattle.std.proofs.Math.Logic.{∥∥₁_map}
use Rattle.av1_planwrite.specs.Held.{building}
use Rattle.av1_planwrite.proofs.Telling.{tells_end}
use Rattle.av1_planwrite.proofs.builder.PlanBuilder.finish.Goals as goal

pub returns-clause-text : goal.returns-clause-text
returns-clause-text c = λ p t. tells_end (building c.args.self) p t (sym c.asks_more.ensures ∙ c.if-asks_more.false)

pub returns-clause-of_some : goal.returns-clause-of_some
returns-clause-of_some c =
    ∥∥₁_map c.args.self.tells (λ t. (t.0, tells_end (building c.args.self) t.0 t.1 (sym c.asks_more.ensures ∙ c.if-asks_more.false)))
