use Rattle.std.proofs.Common.{◌≡◌, ℕ, ap, arith, sym, ◌∙◌}
use Rattle.av1_frame.specs.declared.plane_region.StoredArea.{StoredArea}
use Rattle.av1_tile.specs.Predicted.{stored_in}
use Rattle.av1_tile.specs.Walk.{area_at}
use Rattle.av1_tile.proofs.Keeping.{no_own_kept, own_is_kept}
use Rattle.av1_tile.proofs.walk.keep_block.Goals as goal

pub keep-requires : goal.keep-requires
keep-requires g c =
    let f = c.requires.fits in
    record { storage = f.storage; columns = omega (arith, f.columns, c.width.ensures.value); rows = omega (arith, f.rows, c.height.ensures.value) }

pub returns-then-is_whole : goal.returns-then-is_whole
returns-then-is_whole g c =
    let a = c.args in
    let block = a.block.now in
    no_own_kept g.T.Pixel.num g.T.Pixel.pixel block.plane a.plane.now a.kept.now block a.at.number (area_at block a.at) (sym c.is_whole.ensures
    ∙ c.if-is_whole.true)

pub returns : goal.returns
returns g c =
    let a = c.args in
    let block = a.block.now in
    let area : ℕ → ℕ → StoredArea = λ w h. record { x = a.at.x; y = a.at.y; width = w; height = h } in
    let same : area c.width.result c.height.result ≡ stored_in (area_at block a.at) = ap (λ (w : ℕ). area w c.height.result) c.width.ensures.value
    ∙ ap (area _) c.height.ensures.value in
    own_is_kept g.T.Pixel.num g.T.Pixel.pixel block.plane a.plane.now a.kept.now block c.keep.new.self a.at.number (area_at block a.at)
    (area c.width.result c.height.result) (sym c.is_whole.ensures ∙ c.if-is_whole.false) same c.keep.ensures
