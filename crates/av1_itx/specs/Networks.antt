-- The one-dimensional inverse transforms, by their kind.
use Rattle.std.specs.Prelude.{◌≡◌, ◌≤◌, ℕ, ℤ, List, reverse}
use Rattle.av1_dct.specs.Operations.{Operations, wrapping}
use Rattle.av1_dct.specs.Cosine.{cosine_with}
use Rattle.av1_itx.specs.declared.kinds.TxType1D.{TxType1D}
use Rattle.av1_itx.specs.declared.kinds.TxType1D.TheVariants.{DCT, ADST, FLIPADST, IDENTITY}
use Rattle.av1_itx.specs.declared.kinds.TxType1D.TheVariants.{EXACT_IDENTITY, WHT}
use Rattle.av1_itx.specs.Adst.{adst_with}
use Rattle.av1_itx.specs.Identity.{exact, identity_with}
use Rattle.av1_itx.specs.Walsh.{walsh_with}

-- The inverse transform of 2^(k+1) values, with clamps to `range` bits. A flipped one gives its outputs in reverse
-- order.
unfoldable pub network_with : Operations → TxType1D → ℕ → ℕ → List ℤ → List ℤ
network_with ops DCT range k x = cosine_with ops range k x
network_with ops ADST range k x = adst_with ops range k x
network_with ops FLIPADST range k x = reverse (adst_with ops range k x)
network_with ops IDENTITY range k x = identity_with ops k x
network_with ops EXACT_IDENTITY range k x = identity_with exact k x
network_with ops WHT range k x = walsh_with ops x

-- the same over whole numbers that wrap
abbrev pub network : TxType1D → ℕ → ℕ → List ℤ → List ℤ
network = network_with wrapping

-- a kind has an inverse transform of 2^(k+1) values
abbrev pub HasNetwork : TxType1D → ℕ → Type 0
HasNetwork DCT k = (1 ≤ k) × (k ≤ 5)
HasNetwork ADST k = (1 ≤ k) × (k ≤ 3)
HasNetwork FLIPADST k = (1 ≤ k) × (k ≤ 3)
HasNetwork IDENTITY k = (1 ≤ k) × (k ≤ 4)
HasNetwork EXACT_IDENTITY k = (1 ≤ k) × (k ≤ 4)
HasNetwork WHT k = k ≡ 1
