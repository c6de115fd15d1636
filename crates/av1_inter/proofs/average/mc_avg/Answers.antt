use Rattle.std.proofs.Common.{ap, subst, sym, length, ◌+◌, ◌*◌, ◌≤◌}
use Rattle.av1_frame.specs.declared.plane_region.StoredArea.{StoredArea}
use Rattle.av1_frame.proofs.Regions.{lent_painted, lent_rows, written_in_storage}
use Rattle.av1_inter.specs.Motion.{averaged, entry}
use Rattle.av1_inter.proofs.average.mc_avg.Goals as goal

pub mc_avg_to-requires-clause-rows : goal.mc_avg_to-requires-clause-rows
mc_avg_to-requires-clause-rows g c = search lent_rows

pub mc_avg_to-requires-clause-first_long : goal.mc_avg_to-requires-clause-first_long
mc_avg_to-requires-clause-first_long g c =
    subst (λ (a : StoredArea). a.height * a.width ≤ length c.args.tmp1.now) (sym c.corner-area.ensures) c.requires.first_long

pub mc_avg_to-requires-clause-second_long : goal.mc_avg_to-requires-clause-second_long
mc_avg_to-requires-clause-second_long g c =
    subst (λ (a : StoredArea). a.height * a.width ≤ length c.args.tmp2.now) (sym c.corner-area.ensures) c.requires.second_long

pub returns-clause-painted : goal.returns-clause-painted
returns-clause-painted g c =
    lent_painted c.args.dst.now c.args.width c.args.height c.corner-area.result _ _ c.rows_mut.result.now c.mc_avg_to.new.samples
    c.requires.fits c.requires.rows c.corner-area.ensures c.rows_mut.ensures.value c.mc_avg_to.ensures
    (λ q p v h l.
    ap (λ (a : StoredArea). g.T.Pixel.pixel (averaged c.args.bit_depth (entry c.args.tmp1.now (q * a.width + p))
    (entry c.args.tmp2.now (q * a.width + p)))) c.corner-area.ensures)

pub returns-clause-fits : goal.returns-clause-fits
returns-clause-fits g c = written_in_storage c.args.dst.now _ c.mc_avg_to.new.samples c.requires.fits
