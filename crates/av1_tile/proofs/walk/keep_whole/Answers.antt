use Rattle.std.proofs.Common.{◌≡◌, true, false, ap, arith, tests, subst, sym, ◌∙◌}
use Rattle.av1_frame.specs.Areas.{VisibleArea}
use Rattle.av1_frame.specs.Planes.{InPlane}
use Rattle.av1_tile.specs.Motion.{visible_in}
use Rattle.av1_tile.proofs.Keeping.{no_whole_kept, whole_is_kept}
use Rattle.av1_tile.proofs.walk.keep_whole.Goals as goal

pub keep-requires : goal.keep-requires
keep-requires g c = subst (λ (a : VisibleArea). InPlane a c.args.plane.now) (sym (ap visible_in c.whole_area.ensures.value)) c.requires.fits

pub returns-then-not-is_whole : goal.returns-then-not-is_whole
returns-then-not-is_whole g c =
    let a = c.args in
    let block = a.block.now in
    let own : c.is_whole.result ≡ false = grind (arith, tests, c.if-not-is_whole.true) in
    no_whole_kept g.T.Pixel.num g.T.Pixel.pixel block.plane a.plane.now a.kept.now block (sym c.is_whole.ensures ∙ own)

pub returns : goal.returns
returns g c =
    let a = c.args in
    let block = a.block.now in
    let whole : c.is_whole.result ≡ true = grind (arith, tests, c.if-not-is_whole.false) in
    whole_is_kept g.T.Pixel.num g.T.Pixel.pixel block.plane a.plane.now a.kept.now block c.keep.new.self c.whole_area.result
    (sym c.is_whole.ensures ∙ whole) c.whole_area.ensures.value c.keep.ensures
