use Rattle.std.proofs.Common.{◌∙◌}
use Rattle.av1_recon.proofs.Rows.{as_prefix}
use Rattle.av1_trace.proofs.Items.{Appends-item, Appends-items, AppendsPrefix-item}
use Rattle.av1_view.specs.Page.{piece_text}
use Rattle.av1_view.proofs.page.write_pieces.Goals as goal

pub returns-in_err-write_piece-clause-prefix : goal.returns-in_err-write_piece-clause-prefix
returns-in_err-write_piece-clause-prefix g c =
    AppendsPrefix-item piece_text c.args.pieces.now c.loop-piece.piece-index _ _ _ _ c.loop-piece-test.true c.loop-piece.invariant.so_far
    c.write_piece.ensures.prefix

pub loop-piece-preserved : goal.loop-piece-preserved
loop-piece-preserved g c = record {
  so_far =
      Appends-item piece_text c.args.pieces.now c.loop-piece.piece-index _ _ _ _ c.loop-piece-test.true c.loop-piece.invariant.so_far
      c.in_ok-write_piece.ensures.whole;
  uncounted = c.in_ok-write_piece.ensures.cause.uncounted ∙ c.loop-piece.invariant.uncounted;
}

pub returns-clause-whole : goal.returns-clause-whole
returns-clause-whole g c = Appends-items piece_text c.args.pieces.now c.loop-piece.piece-index _ _ c.loop-piece-test.false c.loop-piece.invariant.so_far

pub returns-clause-prefix : goal.returns-clause-prefix
returns-clause-prefix g c = as_prefix _ _ (returns-clause-whole g c)
