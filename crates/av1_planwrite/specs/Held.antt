-- The unfinished plan that a builder holds.
use Rattle.av1_planwrite.specs.declared.builder.PlanBuilder.{PlanBuilder}
use Rattle.av1_planwrite.specs.Builder.{built}
use Rattle.av1_planwrite.specs.Building.{Building}

-- the unfinished plan
abbrev pub building : PlanBuilder → Building
building b = built b.progress b.text.bytes.items
