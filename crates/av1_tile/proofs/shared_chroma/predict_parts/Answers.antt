use Rattle.std.proofs.Common.{ℕ, ◌+◌, ◌-◌, ◌/◌, ◌≤◌, ◌≡◌, ◌∙◌, Bool, true, false, ap, arith, sym, tests}
use Rattle.av1_frame.specs.Areas.{VisibleArea}
use Rattle.av1_frame.specs.Planes.{painted_plane}
use Rattle.av1_plan.specs.declared.header.Header.{Header}
use Rattle.av1_tile.specs.declared.motion.Motion.{Motion}
use Rattle.av1_tile.specs.Motion.{visible_in}
use Rattle.av1_tile.specs.declared.shared_chroma.MotionParts.{MotionParts}
use Rattle.av1_tile.specs.Reference.{above, beside}
use Rattle.av1_tile.specs.Walk.{MotionFits, MotionServes, PartsFit}
use Rattle.av1_tile.proofs.Halves.{above_joined, still_inside}
use Rattle.av1_tile.proofs.shared_chroma.predict_parts.Goals as goal

-- a part of a rectangle, by a leaf that serves
part_fits : (h : Header) (p : ℕ) (a b : VisibleArea) (parts : MotionParts) (motion : Motion) → PartsFit h p a parts → b.width ≤ a.width → b.height ≤ a.height →
    MotionServes h motion → MotionFits h p b motion
part_fits h p a b parts motion fits wide high serves =
    record { wide = omega (arith, wide, fits.wide); high = omega (arith, high, fits.high); serves = serves }

pub returns-then-not-parts : goal.returns-then-not-parts
returns-then-not-parts g c = λ value holds fits.
    let parts = c.args.parts in
    let a = visible_in c.args.area in
    let f = value.motion c.args.p in
    let high : parts.low ≡ false = grind (arith, tests, c.if-not-parts.true) in
    c.predict_row.ensures value holds (part_fits value.header c.args.p a a parts parts.side fits (omega arith) (omega arith) fits.serve.side)
    (part_fits value.header c.args.p a a parts parts.own fits (omega arith) (omega arith) fits.serve.own)
    ∙ ap (λ (t : Bool). painted_plane c.args.plane.now a
    (λ i j _. g.T.Pixel.pixel (above t (beside parts.narrow (f parts.corner) (f parts.over)) (beside parts.narrow (f parts.side) (f parts.own)) a i j)))
    (sym high)

pub predict_row-requires-3-clause-fits : goal.predict_row-requires-3-clause-fits
predict_row-requires-3-clause-fits g c =
    let own = c.requires.references in
    let f = c.requires.fits in
    let parts = c.args.parts in
    let a = visible_in c.args.area in
    let upper = record a { height = a.height / 2 } in
    let lower = record a { y = a.y + a.height / 2; height = a.height - a.height / 2 } in
    let fits = own.1.1 in
    still_inside c.args.plane.now c.predict_row-2.new.plane upper lower _
    (c.predict_row-2.ensures own.0 own.1.0
    (part_fits own.0.header c.args.p a upper parts parts.corner fits (omega arith) (omega arith) fits.serve.corner)
    (part_fits own.0.header c.args.p a upper parts parts.over fits (omega arith) (omega arith) fits.serve.over))
    (record { storage = f.storage; columns = f.columns; rows = omega (arith, f.rows) })

pub returns : goal.returns
returns g c = λ value holds fits.
    let parts = c.args.parts in
    let a = visible_in c.args.area in
    let upper = record a { height = a.height / 2 } in
    let lower = record a { y = a.y + a.height / 2; height = a.height - a.height / 2 } in
    let f = value.motion c.args.p in
    let low : parts.low ≡ true = grind (arith, tests, c.if-not-parts.false) in
    above_joined g.T.Pixel.pixel c.args.plane.now c.predict_row-2.new.plane c.predict_row-3.new.plane a
    (beside parts.narrow (f parts.corner) (f parts.over)) (beside parts.narrow (f parts.side) (f parts.own)) parts.low low
    (c.predict_row-2.ensures value holds
    (part_fits value.header c.args.p a upper parts parts.corner fits (omega arith) (omega arith) fits.serve.corner)
    (part_fits value.header c.args.p a upper parts parts.over fits (omega arith) (omega arith) fits.serve.over))
    (c.predict_row-3.ensures value holds
    (part_fits value.header c.args.p a lower parts parts.side fits (omega arith) (omega arith) fits.serve.side)
    (part_fits value.header c.args.p a lower parts parts.own fits (omega arith) (omega arith) fits.serve.own))
