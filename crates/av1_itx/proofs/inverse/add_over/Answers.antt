use Rattle.std.proofs.Common.{ℕ, ◌≡◌, ◌*◌, ◌≤◌, ◌∙◌, arith, ap}
use Rattle.std.proofs.lemmas.List.{length-take-le}
use Rattle.av1_blocks.specs.declared.transform.TxSize.{TxSize}
use Rattle.av1_blocks.specs.Transforms.{tx_width, tx_height}
use Rattle.av1_itx.proofs.Handed.{areas}
use Rattle.av1_itx.proofs.inverse.add_over.Goals as goal

-- the numbers of samples and of coefficients, as the code computes them
places : (size : TxSize) (h w : ℕ) → h ≡ tx_height size → w ≡ tx_width size → (h * w ≡ tx_height size * tx_width size) × (h * w ≤ 4096)
places size h w eh ew = let is = ap (λ n. n * w) eh ∙ ap (λ n. tx_height size * n) ew in (is, omega (arith, is, (areas size).0))

pub overflow_mul-places : goal.overflow_mul-places
overflow_mul-places g c = let few = places c.args.block.tx_size _ _ c.height.ensures.value c.width.ensures.value in omega (arith, few.1)

pub slice_bounds-add_any-end : goal.slice_bounds-add_any-end
slice_bounds-add_any-end g c =
    let few = places c.args.block.tx_size _ _ c.height.ensures.value c.width.ensures.value in omega (arith, few.1, c.requires.buffer_len)

pub add_any-requires-clause-buffer_len : goal.add_any-requires-clause-buffer_len
add_any-requires-clause-buffer_len g c =
    let few = places c.args.block.tx_size _ _ c.height.ensures.value c.width.ensures.value in
    length-take-le _ c.args.buffer.now (omega (arith, few.1, c.requires.buffer_len)) ∙ few.0
