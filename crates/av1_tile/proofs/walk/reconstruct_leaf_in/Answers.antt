use Rattle.std.proofs.Common.{[], arith}
use Rattle.av1_tile.specs.Predicted.{gathered}
use Rattle.av1_tile.specs.Walk.{known_in, leaf_with, with_header}
use Rattle.av1_tile.proofs.LeafBlocks.{fits_there, in_plane, kept_there, stores_there, walked_there}
use Rattle.av1_tile.proofs.walk.reconstruct_leaf_in.Goals as goal

pub reconstruct_plane_block-requires-clause-plane : goal.reconstruct_plane_block-requires-clause-plane
reconstruct_plane_block-requires-clause-plane g c =
    omega (
      arith,
      in_plane g.T.Pixel.num g.T.Pixel.pixel c.args.frame.now.header.now (known_in c.args.frame.now) c.args.p (leaf_with c.args.leaf.now [] [] [])
          c.requires.plane c.args.triples.now
          c.intra_block-block.result c.intra_block-block.ensures,
      c.requires.plane,
    )

pub reconstruct_plane_block-requires-clause-stores : goal.reconstruct_plane_block-requires-clause-stores
reconstruct_plane_block-requires-clause-stores g c =
    stores_there g.T.Pixel.num g.T.Pixel.pixel c.args.frame.now.header.now (known_in c.args.frame.now) c.args.p (leaf_with c.args.leaf.now [] [] [])
    c.requires.plane c.args.triples.now
    c.intra_block-block.result c.intra_block-block.ensures c.args.plane.now c.requires.stores

pub reconstruct_plane_block-requires-clause-fits : goal.reconstruct_plane_block-requires-clause-fits
reconstruct_plane_block-requires-clause-fits g c =
    fits_there g.T.Pixel.num g.T.Pixel.pixel c.args.frame.now.header.now (known_in c.args.frame.now) c.args.p (leaf_with c.args.leaf.now [] [] [])
    c.requires.plane c.args.triples.now
    c.intra_block-block.result c.intra_block-block.ensures c.args.plane.now.plane_cfg c.requires.fits

pub returns-then-not-is_inter-clause-kept : goal.returns-then-not-is_inter-clause-kept
returns-then-not-is_inter-clause-kept g c =
    kept_there g.T.Pixel.num g.T.Pixel.pixel c.args.frame.now.header.now (known_in c.args.frame.now) c.args.p (leaf_with c.args.leaf.now [] [] [])
    c.requires.plane c.args.triples.now
    c.intra_block-block.result c.intra_block-block.ensures c.args.plane.now c.reconstruct_plane_block.new.plane c.reconstruct_plane_block.ensures.kept

pub returns-then-not-is_inter-clause-walked : goal.returns-then-not-is_inter-clause-walked
returns-then-not-is_inter-clause-walked g c = λ value serves.
    walked_there g.T.Pixel.num g.T.Pixel.pixel c.args.frame.now.header.now (known_in c.args.frame.now) c.args.p (leaf_with c.args.leaf.now [] [] [])
    c.requires.plane c.args.triples.now
    c.intra_block-block.result c.intra_block-block.ensures c.args.buffers.now.luma.items
    (with_header c.args.frame.now.header.now value) (c.args.plane.now, gathered c.args.buffers.now.kept c.args.buffers.now.edges.prepared) _
    (c.reconstruct_plane_block.ensures.walked value serves)

pub reconstruct_plane_block-requires-then-is_shared-clause-plane : goal.reconstruct_plane_block-requires-then-is_shared-clause-plane
reconstruct_plane_block-requires-then-is_shared-clause-plane g c =
    omega (
      arith,
      in_plane g.T.Pixel.num g.T.Pixel.pixel c.args.frame.now.header.now (known_in c.args.frame.now) c.args.p (leaf_with c.args.leaf.now [] [] [])
          c.requires.plane c.args.triples.now
          c.shared_block-block.result c.shared_block-block.ensures,
      c.requires.plane,
    )

pub reconstruct_plane_block-requires-then-is_shared-clause-stores : goal.reconstruct_plane_block-requires-then-is_shared-clause-stores
reconstruct_plane_block-requires-then-is_shared-clause-stores g c =
    stores_there g.T.Pixel.num g.T.Pixel.pixel c.args.frame.now.header.now (known_in c.args.frame.now) c.args.p (leaf_with c.args.leaf.now [] [] [])
    c.requires.plane c.args.triples.now
    c.shared_block-block.result c.shared_block-block.ensures c.args.plane.now c.requires.stores

pub reconstruct_plane_block-requires-then-is_shared-clause-fits : goal.reconstruct_plane_block-requires-then-is_shared-clause-fits
reconstruct_plane_block-requires-then-is_shared-clause-fits g c =
    fits_there g.T.Pixel.num g.T.Pixel.pixel c.args.frame.now.header.now (known_in c.args.frame.now) c.args.p (leaf_with c.args.leaf.now [] [] [])
    c.requires.plane c.args.triples.now
    c.shared_block-block.result c.shared_block-block.ensures c.args.plane.now.plane_cfg c.requires.fits

pub returns-then-is_shared-clause-kept : goal.returns-then-is_shared-clause-kept
returns-then-is_shared-clause-kept g c =
    kept_there g.T.Pixel.num g.T.Pixel.pixel c.args.frame.now.header.now (known_in c.args.frame.now) c.args.p (leaf_with c.args.leaf.now [] [] [])
    c.requires.plane c.args.triples.now
    c.shared_block-block.result c.shared_block-block.ensures c.args.plane.now c.reconstruct_plane_block-then-is_shared.new.plane
    c.reconstruct_plane_block-then-is_shared.ensures.kept

pub returns-then-is_shared-clause-walked : goal.returns-then-is_shared-clause-walked
returns-then-is_shared-clause-walked g c = λ value serves.
    walked_there g.T.Pixel.num g.T.Pixel.pixel c.args.frame.now.header.now (known_in c.args.frame.now) c.args.p (leaf_with c.args.leaf.now [] [] [])
    c.requires.plane c.args.triples.now
    c.shared_block-block.result c.shared_block-block.ensures c.args.buffers.now.luma.items
    (with_header c.args.frame.now.header.now value) (c.args.plane.now, gathered c.args.buffers.now.kept c.args.buffers.now.edges.prepared) _
    (c.reconstruct_plane_block-then-is_shared.ensures.walked value serves)

pub reconstruct_plane_block-requires-2-clause-plane : goal.reconstruct_plane_block-requires-2-clause-plane
reconstruct_plane_block-requires-2-clause-plane g c =
    omega (
      arith,
      in_plane g.T.Pixel.num g.T.Pixel.pixel c.args.frame.now.header.now (known_in c.args.frame.now) c.args.p (leaf_with c.args.leaf.now [] [] [])
          c.requires.plane c.args.triples.now
          c.inter_block-block.result c.inter_block-block.ensures,
      c.requires.plane,
    )

pub reconstruct_plane_block-requires-2-clause-stores : goal.reconstruct_plane_block-requires-2-clause-stores
reconstruct_plane_block-requires-2-clause-stores g c =
    stores_there g.T.Pixel.num g.T.Pixel.pixel c.args.frame.now.header.now (known_in c.args.frame.now) c.args.p (leaf_with c.args.leaf.now [] [] [])
    c.requires.plane c.args.triples.now
    c.inter_block-block.result c.inter_block-block.ensures c.args.plane.now c.requires.stores

pub reconstruct_plane_block-requires-2-clause-fits : goal.reconstruct_plane_block-requires-2-clause-fits
reconstruct_plane_block-requires-2-clause-fits g c =
    fits_there g.T.Pixel.num g.T.Pixel.pixel c.args.frame.now.header.now (known_in c.args.frame.now) c.args.p (leaf_with c.args.leaf.now [] [] [])
    c.requires.plane c.args.triples.now
    c.inter_block-block.result c.inter_block-block.ensures c.args.plane.now.plane_cfg c.requires.fits

pub returns-clause-kept : goal.returns-clause-kept
returns-clause-kept g c =
    kept_there g.T.Pixel.num g.T.Pixel.pixel c.args.frame.now.header.now (known_in c.args.frame.now) c.args.p (leaf_with c.args.leaf.now [] [] [])
    c.requires.plane c.args.triples.now
    c.inter_block-block.result c.inter_block-block.ensures c.args.plane.now c.reconstruct_plane_block-2.new.plane c.reconstruct_plane_block-2.ensures.kept

pub returns-clause-walked : goal.returns-clause-walked
returns-clause-walked g c = λ value serves.
    walked_there g.T.Pixel.num g.T.Pixel.pixel c.args.frame.now.header.now (known_in c.args.frame.now) c.args.p (leaf_with c.args.leaf.now [] [] [])
    c.requires.plane c.args.triples.now
    c.inter_block-block.result c.inter_block-block.ensures c.args.buffers.now.luma.items
    (with_header c.args.frame.now.header.now value) (c.args.plane.now, gathered c.args.buffers.now.kept c.args.buffers.now.edges.prepared) _
    (c.reconstruct_plane_block-2.ensures.walked value serves)
