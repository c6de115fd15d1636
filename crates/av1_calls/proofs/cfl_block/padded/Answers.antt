use Rattle.std.proofs.Common.{ℕ, ◌≡◌, ◌∙◌, ◌≤◌, ap, arith, subst, sym, slice_get, Some}
use Rattle.av1_blocks.specs.Blocks.{block_height, block_width}
use Rattle.av1_blocks.specs.Transforms.{tx_height, tx_width}
use Rattle.av1_blocks.specs.declared.partition.TheConstants.BlockSize as block_sizes
use Rattle.av1_calls.specs.CflPads.{pad_along}
use Rattle.av1_calls.proofs.CflPads.{height_fits, padded_same, width_fits}
use Rattle.av1_calls.proofs.cfl_block.padded.Goals as goal

pub returns : goal.returns
returns c =
    let l = c.args.luma in
    let s = c.args.sizes in
    let r = c.requires in
    let rows : l.ydec ≤ 1 = omega (arith, r.sampled.columns, r.sampled.rows) in
    let w : c.pad_along.result ≡ pad_along (block_width s.luma) (tx_width s.transform) l.visible_columns l.xdec =
    c.pad_along.ensures ∙ ap (λ n. pad_along n c.width-2.result l.visible_columns c.from.result) c.width.ensures.value
    ∙ ap (λ n. pad_along (block_width s.luma) n l.visible_columns c.from.result) c.width-2.ensures.value
    ∙ ap (pad_along (block_width s.luma) (tx_width s.transform) l.visible_columns) c.from.ensures in
    let h : c.pad_along-2.result ≡ pad_along (block_height s.luma) (tx_height s.transform) l.visible_rows l.ydec =
    c.pad_along-2.ensures ∙ ap (λ n. pad_along n c.height-2.result l.visible_rows c.from-2.result) c.height.ensures.value
    ∙ ap (λ n. pad_along (block_height s.luma) n l.visible_rows c.from-2.result) c.height-2.ensures.value
    ∙ ap (pad_along (block_height s.luma) (tx_height s.transform) l.visible_rows) c.from-2.ensures in
    record {
      luma = s.luma;
      transform = s.transform;
      chroma = s.chroma;
      sizes = r.sized;
      is_chroma = record {
        sized = record {
          named = subst (λ (n : ℕ). slice_get block_sizes.ALL n ≡ Some s.chroma) (sym c.number.ensures.value) c.number.ensures.named;
          narrow = r.sized.chroma_sized.narrow;
          low = r.sized.chroma_sized.low;
        };
        sampled = r.sampled;
        padded = record {
          columns = width_fits s.luma s.transform l.visible_columns l.xdec _ c.pad_along.result r.sampled.columns r.visible.columns r.sides.width w;
          rows = height_fits s.luma s.transform l.visible_rows l.ydec _ c.pad_along-2.result rows r.visible.rows r.sides.height h;
        };
      };
      same = padded_same l s.luma s.transform s.chroma c.pad_along.result c.pad_along-2.result r.sampled.columns rows r.sides w h;
    }
