use Rattle.std.proofs.Common.{ap, subst, sym, ◌∙◌}
use Rattle.av1_inter.specs.Scaffolding.{halved, IsFilter}
use Rattle.av1_inter.proofs.Table.{filter_of_is_filter}
use Rattle.av1_inter.proofs.filter.get_filter.Goals as goal

pub halves_of-requires : goal.halves_of-requires
halves_of-requires c = subst IsFilter (sym c.taps_at.ensures) (filter_of_is_filter c.args.mode c.args.frac c.args.length c.requires)

pub returns-clause-value : goal.returns-clause-value
returns-clause-value c = c.halves_of.ensures.value ∙ ap halved c.taps_at.ensures

pub returns-clause-filter : goal.returns-clause-filter
returns-clause-filter c =
    subst IsFilter (sym (c.halves_of.ensures.twice ∙ c.taps_at.ensures)) (filter_of_is_filter c.args.mode c.args.frac c.args.length c.requires)
