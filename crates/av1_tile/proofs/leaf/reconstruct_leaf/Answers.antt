use Rattle.std.proofs.Math.Seq.{take-append_seam}
use Rattle.std.proofs.Common.{length, take, drop, ◌++◌, sym, refl, ap, ◌∙◌, ◌≡◌, ◌<◌, subst, true, false, [], ℕ, ℤ, List}
use Rattle.std.specs.List.{fold}
use Rattle.std.proofs.lemmas.Bool.{true≢false}
use Rattle.av1_blocks.specs.Transforms.{tx_width}
use Rattle.av1_frame.specs.declared.plane.PlaneConfig.{PlaneConfig}
use Rattle.av1_frame.specs.Planes.{sample_at}
use Rattle.av1_intra.specs.ChromaFromLuma.{ac_at, chroma_block, leaf_difference}
use Rattle.av1_plan.specs.Geometry.{carries_chroma}
use Rattle.av1_tile.specs.Canvas.{Y, U, V}
use Rattle.av1_tile.specs.PlaneBlocks.{is_from_luma}
use Rattle.av1_tile.specs.Reference.{luma_for, luma_of}
use Rattle.av1_tile.specs.Predicted.{Gathered, gathered, keeping_in}
use Rattle.av1_tile.specs.Steps.{plane_steps}
use Rattle.av1_tile.specs.Walk.{LumaFits, block_by, known_in, leaf_with, near_by, luma_block, with_header}
use Rattle.av1_tile.proofs.LeafLuma.{HoldsLuma, luma_in_u, luma_in_v, plain_in_y}
use Rattle.av1_tile.proofs.Lifts.{kept_same, leaf_kept, luma_kept}
use Rattle.av1_tile.proofs.PlanLeaves.{parts_serve}
use Rattle.av1_tile.proofs.leaf.reconstruct_leaf.Goals.{then-is_from_luma, else-is_from_luma}
use Rattle.av1_tile.proofs.leaf.reconstruct_leaf.Goals as goal

pub reconstruct_leaf_in-requires-clause-fits : goal.reconstruct_leaf_in-requires-clause-fits
reconstruct_leaf_in-requires-clause-fits g c =
    let a = c.args in
    let l = leaf_with a.leaf.now a.y.now a.u.now a.v.now in
    let h = a.frame.now.header.now in
    let known = known_in a.frame.now in
    c.requires.fits.y (near_by h known Y l) (parts_serve h known.motions 0 l c.requires.frame.motions c.requires.fits.serves)

pub reconstruct_leaf_in-requires-then-carries_chroma-clause-fits : goal.reconstruct_leaf_in-requires-then-carries_chroma-clause-fits
reconstruct_leaf_in-requires-then-carries_chroma-clause-fits g c =
    let a = c.args in
    let l = leaf_with a.leaf.now a.y.now a.u.now a.v.now in
    let h = a.frame.now.header.now in
    let known = known_in a.frame.now in
    c.requires.fits.u (sym c.carries_chroma.ensures ∙ c.if-carries_chroma.true) (near_by h known U l)
    (parts_serve h known.motions 1 l c.requires.frame.motions c.requires.fits.serves)

pub reconstruct_leaf_in-requires-then-carries_chroma-2-clause-fits : goal.reconstruct_leaf_in-requires-then-carries_chroma-2-clause-fits
reconstruct_leaf_in-requires-then-carries_chroma-2-clause-fits g c =
    let a = c.args in
    let l = leaf_with a.leaf.now a.y.now a.u.now a.v.now in
    let h = a.frame.now.header.now in
    let known = known_in a.frame.now in
    c.requires.fits.v (sym c.carries_chroma.ensures ∙ c.if-carries_chroma.true) (near_by h known V l)
    (parts_serve h known.motions 2 l c.requires.frame.motions c.requires.fits.serves)

pub prepare_luma-requires-clause-fits : goal.prepare_luma-requires-clause-fits
prepare_luma-requires-clause-fits g c =
    let a = c.args in
    let h = a.frame.now.header.now in
    let l = leaf_with a.leaf.now a.y.now a.u.now a.v.now in
    let carried : carries_chroma h l.x l.y l.size ≡ true = sym c.carries_chroma.ensures ∙ c.if-carries_chroma.true in
    let from : is_from_luma l.kind ≡ true = sym c.is_from_luma.ensures ∙ c.if-is_from_luma.true in
    let own : LumaFits h a.planes.now.y.plane_cfg (leaf_with a.leaf.now [] [] []) =
    (let f = c.requires.fits.luma carried from
    in record { narrow = f.narrow; low = f.low; width = f.width; height = f.height; few = f.few; columns = f.columns; rows = f.rows; depth = f.depth }) in
    subst (λ (k : PlaneConfig). LumaFits h k (leaf_with a.leaf.now [] [] [])) (sym c.reconstruct_leaf_in.ensures.kept.config) own

pub returns-after-is_from_luma-clause-walked : goal.returns-after-is_from_luma-clause-walked
returns-after-is_from_luma-clause-walked g c = λ value serves.
    let a = c.args in
    let num = g.T.Pixel.num in
    let h = a.frame.now.header.now in
    let plan = with_header h value in
    let l = leaf_with a.leaf.now a.y.now a.u.now a.v.now in
    let known = known_in a.frame.now in
    let luma = c.if-is_from_luma.buffers.luma.items in
    let y = c.reconstruct_leaf_in.new.plane in
    let samples = sample_at num y in
    let carried : carries_chroma h l.x l.y l.size ≡ true = sym c.carries_chroma.ensures ∙ c.if-carries_chroma.true in
    let holds : is_from_luma l.kind ≡ true → HoldsLuma h samples l luma = λ from.
    elim c.if-is_from_luma.branch [
      | then-is_from_luma w ↦
          let fits = c.requires.fits.luma carried from in
          let long : c.reconstruct_leaf_in.new.buffers.luma.len ≡ length w.prepare_luma.new.luma = c.reconstruct_leaf_in.new.buffers.luma_long
          ∙ sym w.prepare_luma.ensures.long in
          let at : luma ≡ w.prepare_luma.new.luma =
          ap (λ (b : _). b.luma.items) w.buffers-is
          ∙ ap (λ (n : ℕ). take n (w.prepare_luma.new.luma ++ drop (length w.prepare_luma.new.luma) c.reconstruct_leaf_in.new.buffers.luma.items)) long
          ∙ take-append_seam w.prepare_luma.new.luma _ in
          record {
            width = fits.width;
            height = fits.height;
            value = subst (λ (ac : List ℤ). (r c : ℕ) → r < (chroma_block (luma_of h (luma_block l))).height →
                c < (chroma_block (luma_of h (luma_block l))).width
                → ac_at (chroma_block (luma_of h (luma_block l))).width ac r c ≡ leaf_difference samples (luma_of h (luma_block l)) r c)
                (sym at) w.prepare_luma.ensures.value;
          }
      | else-is_from_luma w ↦ absurd (true≢false (sym from ∙ sym c.is_from_luma.ensures ∙ w.if-is_from_luma.false))
    ] in
    let block = block_by h known Y l in
    let before = sample_at num a.planes.now.y in
    let now = gathered a.buffers.now.kept a.buffers.now.edges.prepared in
    let first = gathered c.reconstruct_leaf_in.new.buffers.kept c.reconstruct_leaf_in.new.buffers.edges.prepared in
    let second = gathered c.reconstruct_leaf_in-then-carries_chroma.new.buffers.kept c.reconstruct_leaf_in-then-carries_chroma.new.buffers.edges.prepared in
    let third = gathered c.reconstruct_leaf_in-then-carries_chroma-2.new.buffers.kept c.reconstruct_leaf_in-then-carries_chroma-2.new.buffers.edges.prepared in
    let kept : gathered c.if-is_from_luma.buffers.kept c.if-is_from_luma.buffers.edges.prepared ≡ first = elim c.if-is_from_luma.branch [
      | then-is_from_luma w ↦ ap (λ (b : _). gathered b.kept b.edges.prepared) w.buffers-is
      | else-is_from_luma w ↦ ap (λ (b : _). gathered b.kept b.edges.prepared) w.buffers-is
    ] in
    let same_y =
    kept_same num g.T.Pixel.pixel plan 0 (λ _. ac_at (tx_width block.area.tx_size) a.buffers.now.luma.items)
    (luma_for h before Y) block (plain_in_y h l (near_by h known Y l) before (tx_width block.area.tx_size) a.buffers.now.luma.items) h a.y.now
    (a.planes.now.y, now) in
    let same_u = kept_same num g.T.Pixel.pixel plan 1 (λ _. ac_at (tx_width (block_by h known U l).area.tx_size) luma) (luma_for h samples U)
    (block_by h known U l) (luma_in_u h samples l luma holds (near_by h known U l)) h a.u.now (a.planes.now.u, first) in
    let same_v = kept_same num g.T.Pixel.pixel plan 2 (λ _. ac_at (tx_width (block_by h known V l).area.tx_size) luma) (luma_for h samples V)
    (block_by h known V l) (luma_in_v h samples l luma holds (near_by h known V l)) h a.v.now (a.planes.now.v, second) in
    leaf_kept num g.T.Pixel.pixel plan a.planes.now _ now first second third (λ k. block_by h known k l) l carried
    (c.reconstruct_leaf_in.ensures.walked value serves ∙ same_y)
    (c.reconstruct_leaf_in-then-carries_chroma.ensures.walked value serves
    ∙ ap (λ (k : Gathered _). fold (keeping_in num g.T.Pixel.pixel plan 1 (λ _. ac_at (tx_width (block_by h known U l).area.tx_size) luma))
    (a.planes.now.u, k) (plane_steps h (block_by h known U l) a.u.now)) kept ∙ same_u)
    (c.reconstruct_leaf_in-then-carries_chroma-2.ensures.walked value serves
    ∙ ap (λ (ac : List ℤ). fold (keeping_in num g.T.Pixel.pixel plan 2 (λ _. ac_at (tx_width (block_by h known V l).area.tx_size) ac))
    (a.planes.now.v, second) (plane_steps h (block_by h known V l) a.v.now)) c.reconstruct_leaf_in-then-carries_chroma.ensures.luma ∙ same_v)

pub returns-else-carries_chroma-clause-walked : goal.returns-else-carries_chroma-clause-walked
returns-else-carries_chroma-clause-walked g c = λ value serves.
    let a = c.args in
    let num = g.T.Pixel.num in
    let h = a.frame.now.header.now in
    let plan = with_header h value in
    let l = leaf_with a.leaf.now a.y.now a.u.now a.v.now in
    let known = known_in a.frame.now in
    let carried : carries_chroma h l.x l.y l.size ≡ false = sym c.carries_chroma.ensures ∙ c.if-carries_chroma.false in
    let block = block_by h known Y l in
    let before = sample_at num a.planes.now.y in
    let now = gathered a.buffers.now.kept a.buffers.now.edges.prepared in
    let same_y =
    kept_same num g.T.Pixel.pixel plan 0 (λ _. ac_at (tx_width block.area.tx_size) a.buffers.now.luma.items)
    (luma_for h before Y) block (plain_in_y h l (near_by h known Y l) before (tx_width block.area.tx_size) a.buffers.now.luma.items) h a.y.now
    (a.planes.now.y, now) in
    luma_kept num g.T.Pixel.pixel plan a.planes.now _ now (gathered c.reconstruct_leaf_in.new.buffers.kept c.reconstruct_leaf_in.new.buffers.edges.prepared)
    (λ k. block_by h known k l) l carried
    (c.reconstruct_leaf_in.ensures.walked value serves ∙ same_y) refl refl
