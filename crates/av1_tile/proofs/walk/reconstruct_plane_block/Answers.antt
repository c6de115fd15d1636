use Rattle.std.proofs.Common.{ℕ, ◌∙◌, arith, ℤ}
use Rattle.av1_blocks.specs.Transforms.{tx_width}
use Rattle.av1_intra.specs.ChromaFromLuma.{ac_at}
use Rattle.av1_tile.specs.declared.plane_block.PlaneBlock.{PlaneBlock}
use Rattle.av1_tile.specs.Reference.{no_luma}
use Rattle.av1_tile.specs.Predicted.{gathered, keeping_in}
use Rattle.av1_tile.specs.Steps.{whole_steps}
use Rattle.av1_tile.specs.Walk.{with_header}
use Rattle.av1_tile.proofs.BlockSteps.{all_steps, fits_laid, whole_between, whole_counted, whole_inside, whole_layout}
use Rattle.av1_tile.proofs.BlockTriples.{none_kept}
use Rattle.av1_tile.proofs.Keeping.{gathered_taken, whole_steps_kept}
use Rattle.av1_tile.proofs.Lifts.{whole_steps_same}
use Rattle.av1_tile.proofs.walk.reconstruct_plane_block.Goals as goal

pub predict_whole-requires-clause-depth : goal.predict_whole-requires-clause-depth
predict_whole-requires-clause-depth g c =
    let own = c.requires.frame.references.1 in omega (arith, own.serves.settings.depth, own.depth, c.requires.frame.depth)

pub predict_whole-requires-clause-fits : goal.predict_whole-requires-clause-fits
predict_whole-requires-clause-fits g c =
    let a = c.args in
    whole_inside a.frame.now.header.now a.block.now a.triples.now a.plane.now c.requires.stores.place c.requires.fits

pub predict_whole-requires-clause-references : goal.predict_whole-requires-clause-references
predict_whole-requires-clause-references g c =
    let own = c.requires.frame.references in (with_header c.args.frame.now.header.now own.0, (own.1, c.requires.fits.prediction))

pub keep_whole-requires : goal.keep_whole-requires
keep_whole-requires g c =
    let a = c.args in
    let own = c.requires.frame.references in
    let plan = with_header a.frame.now.header.now own.0 in
    let whole = c.predict_whole.ensures plan own.1 c.requires.fits.prediction in
    let stores =
    whole_between g.T.Pixel.num g.T.Pixel.pixel g.met.T.Pixel.num_of_pixel g.met.T.Pixel.pixel_of_num plan a.frame.now.from.now own.1 a.block.now
    c.requires.plane c.requires.fits.prediction a.plane.now c.predict_whole.new.plane whole c.requires.stores in
    let laid =
    whole_layout g.T.Pixel.num g.T.Pixel.pixel g.met.T.Pixel.num_of_pixel g.met.T.Pixel.pixel_of_num plan a.frame.now.from.now own.1 a.block.now
    c.requires.plane c.requires.fits.prediction a.plane.now c.predict_whole.new.plane whole in
    record {
      fits = whole_inside plan.header a.block.now a.triples.now c.predict_whole.new.plane stores.place
          (fits_laid plan.header a.block.now a.triples.now a.plane.now.plane_cfg c.predict_whole.new.plane.plane_cfg laid c.requires.fits);
    }

pub reconstruct_blocks-requires-clause-held : goal.reconstruct_blocks-requires-clause-held
reconstruct_blocks-requires-clause-held g c =
    let a = c.args in
    let own = c.requires.frame.references in
    let plan = with_header a.frame.now.header.now own.0 in
    record {
      frame = c.requires.frame.header;
      depth = c.requires.frame.depth;
      stores = whole_between g.T.Pixel.num g.T.Pixel.pixel g.met.T.Pixel.num_of_pixel g.met.T.Pixel.pixel_of_num plan a.frame.now.from.now own.1 a.block.now
          c.requires.plane c.requires.fits.prediction a.plane.now c.predict_whole.new.plane
          (c.predict_whole.ensures plan own.1 c.requires.fits.prediction) c.requires.stores;
    }

pub reconstruct_blocks-requires-clause-fits : goal.reconstruct_blocks-requires-clause-fits
reconstruct_blocks-requires-clause-fits g c =
    let a = c.args in
    let own = c.requires.frame.references in
    let plan = with_header a.frame.now.header.now own.0 in
    let laid =
    whole_layout g.T.Pixel.num g.T.Pixel.pixel g.met.T.Pixel.num_of_pixel g.met.T.Pixel.pixel_of_num plan a.frame.now.from.now own.1 a.block.now
    c.requires.plane c.requires.fits.prediction
    a.plane.now c.predict_whole.new.plane (c.predict_whole.ensures plan own.1 c.requires.fits.prediction) in
    fits_laid plan.header a.block.now a.triples.now a.plane.now.plane_cfg c.predict_whole.new.plane.plane_cfg laid c.requires.fits

pub returns-then-is_only_predicted-clause-kept : goal.returns-then-is_only_predicted-clause-kept
returns-then-is_only_predicted-clause-kept g c =
    let a = c.args in
    let own = c.requires.frame.references in
    let plan = with_header a.frame.now.header.now own.0 in
    let whole = c.predict_whole.ensures plan own.1 c.requires.fits.prediction in
    record {
      stores = whole_between g.T.Pixel.num g.T.Pixel.pixel g.met.T.Pixel.num_of_pixel g.met.T.Pixel.pixel_of_num plan a.frame.now.from.now own.1 a.block.now
          c.requires.plane c.requires.fits.prediction a.plane.now c.predict_whole.new.plane whole c.requires.stores;
      config = whole_layout g.T.Pixel.num g.T.Pixel.pixel g.met.T.Pixel.num_of_pixel g.met.T.Pixel.pixel_of_num plan a.frame.now.from.now own.1 a.block.now
          c.requires.plane c.requires.fits.prediction a.plane.now c.predict_whole.new.plane whole;
    }

pub returns-clause-kept : goal.returns-clause-kept
returns-clause-kept g c =
    let a = c.args in
    let own = c.requires.frame.references in
    let plan = with_header a.frame.now.header.now own.0 in
    record {
      stores = c.reconstruct_blocks.ensures.kept.stores;
      config = c.reconstruct_blocks.ensures.kept.config
          ∙ whole_layout g.T.Pixel.num g.T.Pixel.pixel g.met.T.Pixel.num_of_pixel g.met.T.Pixel.pixel_of_num plan a.frame.now.from.now own.1 a.block.now
          c.requires.plane c.requires.fits.prediction a.plane.now c.predict_whole.new.plane
          (c.predict_whole.ensures plan own.1 c.requires.fits.prediction);
    }

pub returns-then-is_only_predicted-clause-walked : goal.returns-then-is_only_predicted-clause-walked
returns-then-is_only_predicted-clause-walked g c = λ value serves.
    let a = c.args in
    let plan = with_header a.frame.now.header.now value in
    let block = a.block.now in
    let luma : PlaneBlock → ℕ → ℕ → ℤ = λ _. ac_at (tx_width block.area.tx_size) a.buffers.now.luma.items in
    let between = c.predict_whole.new.plane in
    let count = a.buffers.now.edges.prepared in
    let now = gathered a.buffers.now.kept count in
    let next = gathered c.keep_whole.new.kept count in
    let whole = c.predict_whole.ensures plan serves c.requires.fits.prediction in
    let taken = gathered_taken g.T.Pixel.num g.T.Pixel.pixel block.plane between now (whole_steps block) c.keep_whole.new.kept count c.keep_whole.ensures
    (whole_counted block count) in
    let stores =
    whole_between g.T.Pixel.num g.T.Pixel.pixel g.met.T.Pixel.num_of_pixel g.met.T.Pixel.pixel_of_num plan a.frame.now.from.now serves block
    c.requires.plane c.requires.fits.prediction a.plane.now between whole c.requires.stores in
    all_steps (keeping_in g.T.Pixel.num g.T.Pixel.pixel plan block.plane luma) plan.header block a.triples.now (a.plane.now, now) (between, next)
    (between, next)
    (whole_steps_kept g.T.Pixel.num g.T.Pixel.pixel plan block.plane luma a.plane.now between now next block
    (whole ∙ whole_steps_same g.T.Pixel.num g.T.Pixel.pixel plan block.plane (λ _. no_luma) luma block a.plane.now) taken)
    (none_kept block a.triples.now (c.is_only_predicted.ensures.whole c.if-is_only_predicted.true) g.T.Pixel.num g.T.Pixel.pixel
    g.met.T.Pixel.pixel_of_num plan luma between (c.is_only_predicted.ensures.none c.if-is_only_predicted.true) stores.within next)

pub returns-clause-walked : goal.returns-clause-walked
returns-clause-walked g c = λ value serves.
    let a = c.args in
    let plan = with_header a.frame.now.header.now value in
    let block = a.block.now in
    let luma : PlaneBlock → ℕ → ℕ → ℤ = λ _. ac_at (tx_width block.area.tx_size) a.buffers.now.luma.items in
    let between = c.predict_whole.new.plane in
    let count = a.buffers.now.edges.prepared in
    let now = gathered a.buffers.now.kept count in
    let next = gathered c.keep_whole.new.kept count in
    let taken = gathered_taken g.T.Pixel.num g.T.Pixel.pixel block.plane between now (whole_steps block) c.keep_whole.new.kept count c.keep_whole.ensures
    (whole_counted block count) in
    all_steps (keeping_in g.T.Pixel.num g.T.Pixel.pixel plan block.plane luma) plan.header block a.triples.now (a.plane.now, now) (between, next)
    (c.reconstruct_blocks.new.plane, gathered c.reconstruct_blocks.new.buffers.kept c.reconstruct_blocks.new.buffers.edges.prepared)
    (whole_steps_kept g.T.Pixel.num g.T.Pixel.pixel plan block.plane luma a.plane.now between now next block
    (c.predict_whole.ensures plan serves c.requires.fits.prediction
    ∙ whole_steps_same g.T.Pixel.num g.T.Pixel.pixel plan block.plane (λ _. no_luma) luma block a.plane.now) taken)
    (c.reconstruct_blocks.ensures.walked value)
