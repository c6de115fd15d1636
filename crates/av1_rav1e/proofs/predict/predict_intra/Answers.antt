use Rattle.std.proofs.Common.{ℕ, ℤ, ◌≡◌, ◌≤◌, true, arith, ap, ◌∙◌, sym, subst, length, unsigned_abs, to_z, of_z, w64}
use Rattle.std.proofs.lemmas.Int.{ints}
use Rattle.av1_blocks.specs.declared.predict.PredictionMode.{PredictionMode}
use Rattle.av1_blocks.specs.declared.predict.IntraParam.{IntraParam}
use Rattle.av1_blocks.specs.Transforms.{tx_width, tx_height}
use Rattle.av1_blocks.specs.Modes.{is_intra, is_cfl}
use Rattle.av1_frame.specs.Regions.{painted}
use Rattle.av1_edges.specs.Parts.{effective}
use Rattle.av1_intra.specs.declared.variant.PredictionVariant.{PredictionVariant}
use Rattle.av1_rav1e.specs.Blocks.{block_at, edge_of}
use Rattle.av1_intra.specs.ChromaFromLuma.{ac_at}
use Rattle.av1_intra.specs.Predicted.{variant_at, angle_or_alpha, is_angle_of, predicted, places_above, places_left}
use Rattle.av1_intra.proofs.ByMode.{effective_intra, effective_cfl, angle_given}
use Rattle.av1_rav1e.proofs.predict.predict_intra.Goals as goal

-- what is made of a mode, the sides in the tile and an angle, at a place of the tile
at_place : {A : Type 0} (f : PredictionMode → PredictionVariant → ℤ → A) (mode m : PredictionMode) (param : IntraParam) (x y X Y : ℕ) (v : PredictionVariant)
    (z : ℤ) →
    x ≡ X → y ≡ Y → m ≡ effective mode x y → v ≡ variant_at x y → z ≡ angle_or_alpha m param →
    f m v z ≡ f (effective mode X Y) (variant_at X Y) (angle_or_alpha (effective mode X Y) param)
at_place f mode m param x y X Y v z h k a b e =
    ap (f m v) e
    ∙ ap (λ m. f m v (angle_or_alpha m param)) (a ∙ ap (λ n. effective mode n y) h ∙ ap (effective mode X) k)
    ∙ ap (λ v. f (effective mode X Y) v (angle_or_alpha (effective mode X Y) param)) (b ∙ ap (λ n. variant_at n y) h ∙ ap (variant_at X) k)

pub dispatch_predict_intra-requires-clause-intra : goal.dispatch_predict_intra-requires-clause-intra
dispatch_predict_intra-requires-clause-intra g c =
    subst (λ m. is_intra m ≡ true) (sym c.effective-mode.ensures) (effective_intra c.args.mode _ _ c.requires.intra)

pub dispatch_predict_intra-requires-clause-angle : goal.dispatch_predict_intra-requires-clause-angle
dispatch_predict_intra-requires-clause-angle g c =
    let m = c.effective-mode.result in
    let t = c.angle_or_alpha.type_inv in
    let z : to_z w64 (of_z w64 c.angle_or_alpha.result) ≡ c.angle_or_alpha.result = omega (arith, ints, t) in
    subst (λ n. is_angle_of m n ≡ true) (sym (z ∙ c.angle_or_alpha.ensures)) (angle_given m c.args.intra_param c.requires.step c.requires.alpha)

pub dispatch_predict_intra-requires-clause-above_long : goal.dispatch_predict_intra-requires-clause-above_long
dispatch_predict_intra-requires-clause-above_long g c =
    let a = c.args in
    let p = c.place_in_tile-x.ensures in
    let t = c.angle_or_alpha.type_inv in
    let z : to_z w64 (of_z w64 c.angle_or_alpha.result) ≡ c.angle_or_alpha.result = omega (arith, ints, t) in
    subst (λ n. n ≤ length a.edge_buf.now.above.now)
    (sym (at_place (λ m v z. places_above m v (unsigned_abs z) (tx_width a.tx_size) (tx_height a.tx_size)) a.mode _ a.intra_param _ _ _ _ _ _ p.column p.row
    c.effective-mode.ensures c.new.ensures (z ∙ c.angle_or_alpha.ensures))) c.requires.above_long

pub dispatch_predict_intra-requires-clause-left_long : goal.dispatch_predict_intra-requires-clause-left_long
dispatch_predict_intra-requires-clause-left_long g c =
    let a = c.args in
    let p = c.place_in_tile-x.ensures in
    let t = c.angle_or_alpha.type_inv in
    let z : to_z w64 (of_z w64 c.angle_or_alpha.result) ≡ c.angle_or_alpha.result = omega (arith, ints, t) in
    subst (λ n. n ≤ length a.edge_buf.now.left.now)
    (sym (at_place (λ m v z. places_left m v (unsigned_abs z) (tx_width a.tx_size) (tx_height a.tx_size)) a.mode _ a.intra_param _ _ _ _ _ _ p.column p.row
    c.effective-mode.ensures c.new.ensures (z ∙ c.angle_or_alpha.ensures))) c.requires.left_long

pub dispatch_predict_intra-requires-clause-ac_long : goal.dispatch_predict_intra-requires-clause-ac_long
dispatch_predict_intra-requires-clause-ac_long g c = λ h.
    c.requires.ac_long (effective_cfl c.args.mode _ _ (subst (λ m. is_cfl m ≡ true) c.effective-mode.ensures h))

pub returns-clause-painted : goal.returns-clause-painted
returns-clause-painted g c =
    let a = c.args in
    let w = tx_width a.tx_size in
    let h = tx_height a.tx_size in
    let d = a.dst.now in
    let p = c.place_in_tile-x.ensures in
    let t = c.angle_or_alpha.type_inv in
    let z : to_z w64 (of_z w64 c.angle_or_alpha.result) ≡ c.angle_or_alpha.result = omega (arith, ints, t) in
    c.dispatch_predict_intra.ensures.painted
    ∙ at_place (λ m v z. painted d w h
    (λ q p _.
    g.T.Pixel.pixel (predicted (block_at d (unsigned_abs z) w h a.bit_depth a.ief_params) v m z (ac_at w a.ac.now)
    (edge_of g.T.Pixel.num a.edge_buf.now) q p))) a.mode _ a.intra_param _ _ _ _ _ _ p.column p.row c.effective-mode.ensures c.new.ensures
    (z ∙ c.angle_or_alpha.ensures)
