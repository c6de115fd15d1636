use Rattle.std.proofs.Common.{◌≡◌, ◌-◌, ◌^◌, ◌<◌, All, [], arith}
use Rattle.av1_frame.specs.Planes.{sample_at}
use Rattle.av1_edges.specs.Edges.{region_sample}
use Rattle.av1_intra.specs.declared.luma.LumaLeaf.{LumaLeaf}
use Rattle.av1_order.proofs.Plans.{halved_y}
use Rattle.av1_tile.specs.Reference.{luma_of}
use Rattle.av1_tile.specs.Walk.{leaf_with, luma_block}
use Rattle.av1_tile.proofs.LumaRegions.{leaf_rows_at, origin_sample, region_below}
use Rattle.av1_tile.proofs.leaf.prepare_luma.Goals as goal

pub leaf_luma_ac-requires-clause-ydec : goal.leaf_luma_ac-requires-clause-ydec
leaf_luma_ac-requires-clause-ydec g c = omega (arith, halved_y c.args.header.now 1)

pub leaf_luma_ac-requires-clause-low : goal.leaf_luma_ac-requires-clause-low
leaf_luma_ac-requires-clause-low g c x y column row =
    let within : All (λ v. g.T.Pixel.num v < 2 ^ c.args.header.now.depth) c.region-stored.result.samples.now =
    rw c.region-stored.ensures.samples c.requires.stores.within in
    region_below g.T.Pixel.num c.args.header.now.depth c.region-stored.result _ _ c.requires.fits.depth within

pub returns-clause-value : goal.returns-clause-value
returns-clause-value g c r k row column =
    let read = c.region-stored in
    let plane = c.args.plane.now in
    let leaf = luma_of c.args.header.now (luma_block (leaf_with c.args.leaf.now [] [] [])) in
    let told : LumaLeaf = record {
      x = c.from.result;
      y = c.from-2.result;
      bsize = c.args.leaf.now.size;
      tx_size = c.args.leaf.now.tx_size;
      visible_width = c.plane_width.result;
      visible_height = c.plane_height.result;
      xdec = c.xdec.result;
      ydec = c.ydec.result;
    } in
    let same : told ≡ leaf = cc in
    let cfg = c.config-config.result in
    let samples =
    origin_sample g.T.Pixel.num plane read.result (cfg.stride - cfg.xorigin)
    (cfg.alloc_height - cfg.yorigin) read.ensures.samples read.ensures.cfg read.ensures.area in
    leaf_rows_at (sample_at g.T.Pixel.num plane) (region_sample g.T.Pixel.num read.result) told leaf c.args.luma.now c.leaf_luma_ac.new.ac r k same samples
    (omega (arith, c.requires.fits.few, c.requires.long)) c.leaf_luma_ac.ensures row column
