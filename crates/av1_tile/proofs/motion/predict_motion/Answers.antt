use Rattle.std.proofs.Common.{ℕ, ◌/◌, ◌^◌, ◌<◌, ◌≤◌, ◌≡◌, ◌∙◌, ◌+ℤ◌, ap, arith, pos, refl, rules, subst, sym}
use Rattle.std.proofs.Math.Nat.{div-le_self, le_trans}
use Rattle.av1_blocks.specs.declared.partition.RefType.{RefType}
use Rattle.av1_frame.specs.Areas.{VisibleArea}
use Rattle.av1_frame.specs.declared.tile_state.TileRect.{TileRect}
use Rattle.av1_frame.specs.Regions.{painted}
use Rattle.av1_frame.proofs.Regions.{painted_same}
use Rattle.av1_inter.specs.Reference.{IsServed, reference_of}
use Rattle.av1_plan.specs.Geometry.{xdec, ydec}
use Rattle.av1_tile.specs.declared.references.TileReferences.{TileReferences}
use Rattle.av1_tile.specs.Motion.{rect_of, visible_in}
use Rattle.av1_tile.specs.Reference.{Scene}
use Rattle.av1_tile.specs.Walk.{ReferenceFits, ServesScene}
use Rattle.av1_tile.proofs.Painted.{IsLeafRegion, leaf_region, motion_region}
use Rattle.av1_tile.proofs.Served.{served, served_shorter}
use Rattle.av1_tile.proofs.motion.predict_motion.Goals as goal

up_to_64 : (n s : ℕ) → n ≤ 64 / 2 ^ s → n ≤ 64
up_to_64 n s short = le_trans short (div-le_self 64 (2 ^ s))

-- sides that are few in a scene are in the frame that its references are of
few_in : (w s t : ℕ) → t ≡ s → w ≤ 64 / 2 ^ s → w ≤ 64 / 2 ^ t
few_in w s t same few = subst (λ (n : ℕ). w ≤ 64 / 2 ^ n) (sym same) few

-- so what serves a scene serves each reference that the scene has
module _ {T : Type 0} (num : T → ℕ) (value : Scene) (from : TileReferences T) (serves : ServesScene num value from) (p : ℕ) (a : VisibleArea) (below : p < 3)
    (wide : a.width ≤ 64 / 2 ^ xdec value.header p) (high : a.height ≤ 64 / 2 ^ ydec value.header p) where
  scene_served : (reference : RefType) → ReferenceFits value.header reference → IsServed num from.fi.now reference p a.width a.height
  scene_served reference fits =
      served num serves.plan from.fi.now reference p a.width a.height serves.serves (serves.has reference ∙ fits.has) fits.other.least fits.other.most below
      (few_in a.width (xdec value.header p) (xdec serves.plan.header p) (serves.xdec p) wide)
      (few_in a.height (ydec value.header p) (ydec serves.plan.header p) (serves.ydec p) high)

pub predict_inter-requires-clause-mode : goal.predict_inter-requires-clause-mode
predict_inter-requires-clause-mode g c = c.requires.references.1.1.serves.mode

pub predict_inter-requires-clause-wide : goal.predict_inter-requires-clause-wide
predict_inter-requires-clause-wide g c = omega (arith, up_to_64 _ _ c.requires.references.1.1.wide)

pub predict_inter-requires-clause-high : goal.predict_inter-requires-clause-high
predict_inter-requires-clause-high g c = omega (arith, up_to_64 _ _ c.requires.references.1.1.high)

pub predict_inter-requires-clause-depths : goal.predict_inter-requires-clause-depths
predict_inter-requires-clause-depths g c = c.requires.references.1.0.serves.depth

pub predict_inter-requires-clause-first : goal.predict_inter-requires-clause-first
predict_inter-requires-clause-first g c =
    let own = c.requires.references in
    let area = c.args.area in
    served_shorter g.T.Pixel.num c.args.from.now.fi.now (reference_of c.args.motion.references 0) c.args.p area.width area.height _ _ (omega arith)
    (omega arith)
    (scene_served g.T.Pixel.num own.0 c.args.from.now own.1.0 c.args.p (visible_in area) c.requires.plane own.1.1.wide own.1.1.high _
    own.1.1.serves.first)

pub predict_inter-requires-clause-second : goal.predict_inter-requires-clause-second
predict_inter-requires-clause-second g c = λ two.
    let own = c.requires.references in
    let area = c.args.area in
    served_shorter g.T.Pixel.num c.args.from.now.fi.now (reference_of c.args.motion.references 1) c.args.p area.width area.height _ _ (omega arith)
    (omega arith)
    (scene_served g.T.Pixel.num own.0 c.args.from.now own.1.0 c.args.p (visible_in area) c.requires.plane own.1.1.wide own.1.1.high _
    (own.1.1.serves.second two))

pub returns : goal.returns
returns g c = λ value holds fits.
    let plane = c.args.plane.now in
    let area = visible_in c.args.area in
    let region = c.region_mut-region in
    let tile = rect_of c.args.from.now c.args.p in
    let motion = c.args.motion in
    let leaf =
    subst (λ (t : TileRect). IsLeafRegion plane area t region.result (pos c.rect.result.x +ℤ c.first_sample.result.x)
    (pos c.rect.result.y +ℤ c.first_sample.result.y) c.args.area.width c.args.area.height) c.rect.ensures
    (leaf_region plane area c.rect.result region.result region.ensures.plane region.ensures.cfg region.ensures.area c.visible_area.ensures
    c.first_sample.ensures.x c.first_sample.ensures.y refl refl) in
    let predicted = c.predict_inter in
    let e = motion_region g.T.Pixel.num g.T.Pixel.pixel holds.plan c.args.from.now.fi.now holds.serves c.args.p c.requires.plane plane area tile
    region.result predicted.new.dst _ _ _ _ leaf motion (holds.has _ ∙ fits.serves.first.has) (λ two. holds.has _ ∙ (fits.serves.second two).has)
    predicted.ensures.single predicted.ensures.compound in
    let shown : predicted.new.dst ≡ painted region.result area.width area.height (λ i j _. g.T.Pixel.pixel (value.motion c.args.p motion area i j)) =
    painted_same region.result predicted.new.dst area.width area.height _ (λ i j _. g.T.Pixel.pixel (value.motion c.args.p motion area i j)) e
    (λ i j v hi hj. ap g.T.Pixel.pixel (sym (holds.motion c.args.p motion area i j))) in
    search rules
