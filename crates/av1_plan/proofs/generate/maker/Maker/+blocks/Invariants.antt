use Rattle.std.proofs.Common.{◌*◌, ◌-◌}
use Rattle.av1_plan.proofs.generate.maker.Maker.+blocks.Given as goal

abbrev pub decreases-block : goal.decreases-block
decreases-block l = 2 * l.level

abbrev pub decreases-parts : goal.decreases-parts
decreases-parts l = 2 * l.level - 1
