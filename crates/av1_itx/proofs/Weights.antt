-- The tables of weights and of places are those of the definitions.
use Rattle.std.proofs.Common.{ℕ, ◌≡◌, ◌<◌, pos, refl}
use Rattle.av1_dct.specs.Cosine.{cos128}
use Rattle.av1_itx.specs.declared.adst.TheConstants.{START_8, START_16, BLOCK_16, BLOCK_8, BLOCK_4}
use Rattle.av1_itx.specs.Adst.{start_weights, round_weights}
use Rattle.av1_itx.proofs.Fills.{listed}
use Rattle.av1_itx.proofs.Turns.{weights_at}

pub start_8 : (p : ℕ) → p < 4 → weights_at START_8 p ≡ start_weights 8 p
unfolding cos128
start_8 = listed (start_weights 8) _ 4 (pos 0, pos 0) refl

pub start_16 : (p : ℕ) → p < 8 → weights_at START_16 p ≡ start_weights 16 p
unfolding cos128
start_16 = listed (start_weights 16) _ 8 (pos 0, pos 0) refl

pub block_16 : (p : ℕ) → p < 4 → weights_at BLOCK_16 p ≡ round_weights 8 p
unfolding cos128
block_16 = listed (round_weights 8) _ 4 (pos 0, pos 0) refl

pub block_8 : (p : ℕ) → p < 2 → weights_at BLOCK_8 p ≡ round_weights 4 p
unfolding cos128
block_8 = listed (round_weights 4) _ 2 (pos 0, pos 0) refl

pub block_4 : (p : ℕ) → p < 1 → weights_at BLOCK_4 p ≡ round_weights 2 p
unfolding cos128
block_4 = listed (round_weights 2) _ 1 (pos 0, pos 0) refl
