-- Triples of leaves that pass the validity check: they stand in their blocks and fit the depth.
use Rattle.std.proofs.Common.{ℕ, ◌+◌, ◌-◌, ◌^◌, ◌≡◌, true, not, ℤ, pos, neg_ℤ, int_lt, List, All, arith}
use Rattle.std.proofs.lemmas.Bool.{and_parts, not-true}
use Rattle.std.proofs.lemmas.Int.{ints}
use Rattle.av1_dct.specs.Arithmetic.{FitsBits}
use Rattle.av1_plan.specs.declared.header.Header.{Header}
use Rattle.av1_plan.specs.declared.leaf.Triple.{Triple}
use Rattle.av1_plan.specs.Geometry.{carries_chroma}
use Rattle.av1_plan.specs.Plan.{LeafValue}
use Rattle.av1_plan.specs.Validity.{fits_signed}
use Rattle.av1_plan.proofs.ValidLeaves.{IsFittingTriple, IsValidLeaf, HasFittingTriples, blocks_rise, rising_triples}
use Rattle.av1_tile.specs.declared.plane_block.Nearby.{Nearby}
use Rattle.av1_tile.specs.declared.plane_block.PlaneBlock.{PlaneBlock}
use Rattle.av1_tile.specs.Canvas.{Component, Y, U, V}
use Rattle.av1_tile.specs.PlaneBlocks.{block_told, triples_in}
use Rattle.av1_tile.specs.Walk.{TripleFits, AreRising}
use Rattle.av1_tile.proofs.UnitSteps.{covers}

bits_fit : (bits : ℕ) (v : ℤ) → fits_signed bits v ≡ true → FitsBits bits v
unfolding fits_signed
bits_fit bits v e =
    let (low, high) = and_parts (not (int_lt v (neg_ℤ (pos (2 ^ (bits - 1)))))) (int_lt v (pos (2 ^ (bits - 1)))) e in
    let above = not-true (int_lt v (neg_ℤ (pos (2 ^ (bits - 1))))) low in
    record { low = grind (arith, ints); high = grind (arith, ints) }

all_fit : (h : Header) (block : PlaneBlock) (triples : List Triple) → All (IsFittingTriple h block.plane block.area) triples →
    All (TripleFits h.depth block) triples
all_fit h block triples fit k d within = let t = fit k d within in record { place = t.place; value = bits_fit (h.depth + 8) _ t.value }

-- the triples of a valid leaf, in each plane that it covers a part of
pub triples_fit : (h : Header) (near : Nearby) (leaf : LeafValue) (k : Component) → HasFittingTriples h leaf →
    covers k (carries_chroma h leaf.x leaf.y leaf.size) ≡ true → All (TripleFits h.depth (block_told h near k leaf)) (triples_in k leaf)
triples_fit h near leaf Y fit covered = all_fit h (block_told h near Y leaf) (triples_in Y leaf) fit.y
triples_fit h near leaf U fit covered = all_fit h (block_told h near U leaf) (triples_in U leaf) (fit.u covered)
triples_fit h near leaf V fit covered = all_fit h (block_told h near V leaf) (triples_in V leaf) (fit.v covered)

-- ---- their order

-- the triples of a valid leaf rise by their blocks
pub triples_rise : (h : Header) (leaf : LeafValue) (k : Component) → IsValidLeaf h leaf → covers k (carries_chroma h leaf.x leaf.y leaf.size) ≡ true →
    AreRising (triples_in k leaf)
triples_rise h leaf Y valid covered = blocks_rise (triples_in Y leaf) (rising_triples h leaf valid).y
triples_rise h leaf U valid covered = blocks_rise (triples_in U leaf) ((rising_triples h leaf valid).u covered)
triples_rise h leaf V valid covered = blocks_rise (triples_in V leaf) ((rising_triples h leaf valid).v covered)
