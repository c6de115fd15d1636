use Rattle.std.proofs.Common.{rules, refl}
use Rattle.av1_frame.proofs.Regions.{lent_painted, lent_rows, written_in_storage}
use Rattle.av1_itx.proofs.inverse.inverse_transform_add_with.Goals as goal

pub inverse_transform_add_to-requires-clause-rows : goal.inverse_transform_add_to-requires-clause-rows
inverse_transform_add_to-requires-clause-rows g c =
    lent_rows c.args.output.now _ _ c.corner-area.result _ c.requires.fits c.requires.columns c.requires.rows (search rules) c.rows_mut.ensures.value

pub returns-clause-painted : goal.returns-clause-painted
returns-clause-painted g c =
    lent_painted c.args.output.now _ _ c.corner-area.result _ _ c.rows_mut.result.now c.inverse_transform_add_to.new.samples
    c.requires.fits c.requires.rows (search rules) c.rows_mut.ensures.value c.inverse_transform_add_to.ensures.painted (λ r q v h l. refl)

pub returns-clause-fits : goal.returns-clause-fits
returns-clause-fits g c = written_in_storage c.args.output.now _ c.inverse_transform_add_to.new.samples c.requires.fits
