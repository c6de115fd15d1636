use Rattle.std.proofs.Common.{◌+◌, ◌-◌, ◌/◌, ◌≡◌, ◌∙◌, Bool, true, false, ap, arith, sym, tests}
use Rattle.av1_frame.specs.Planes.{painted_plane}
use Rattle.av1_tile.specs.Motion.{visible_in}
use Rattle.av1_tile.specs.Reference.{beside}
use Rattle.av1_tile.proofs.Halves.{beside_joined, still_inside}
use Rattle.av1_tile.proofs.shared_chroma.predict_row.Goals as goal

pub predict_motion-requires-3-clause-fits : goal.predict_motion-requires-3-clause-fits
predict_motion-requires-3-clause-fits g c =
    let own = c.requires.references in
    let f = c.requires.fits in
    let a = visible_in c.args.area in
    let left = record a { width = a.width / 2 } in
    let right = record a { x = a.x + a.width / 2; width = a.width - a.width / 2 } in
    let fits = own.1.1.0 in
    still_inside c.args.plane.now c.predict_motion-2.new.plane left right _
    (c.predict_motion-2.ensures own.0 own.1.0 (record { wide = omega (arith, fits.wide); high = fits.high; serves = fits.serves }))
    (record { storage = f.storage; columns = omega (arith, f.columns); rows = f.rows })

pub returns-then-not-row : goal.returns-then-not-row
returns-then-not-row g c = λ value holds left right.
    let row = c.args.row in
    let a = visible_in c.args.area in
    let f = value.motion c.args.p in
    let wide : row.narrow ≡ false = grind (arith, tests, c.if-not-row.true) in
    c.predict_motion.ensures value holds right
    ∙ ap (λ (t : Bool). painted_plane c.args.plane.now a (λ i j _. g.T.Pixel.pixel (beside t (f row.left) (f row.right) a i j))) (sym wide)

pub returns : goal.returns
returns g c = λ value holds left right.
    let narrow : c.args.row.narrow ≡ true = grind (arith, tests, c.if-not-row.false) in
    beside_joined g.T.Pixel.pixel c.args.plane.now c.predict_motion-2.new.plane c.predict_motion-3.new.plane (visible_in c.args.area)
    (value.motion c.args.p c.args.row.left) (value.motion c.args.p c.args.row.right) c.args.row.narrow narrow
    (c.predict_motion-2.ensures value holds (record { wide = omega (arith, left.wide); high = left.high; serves = left.serves }))
    (c.predict_motion-3.ensures value holds (record { wide = omega (arith, right.wide); high = right.high; serves = right.serves }))
