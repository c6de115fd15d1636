-- Which plans have the same result in each version of the grammar, and what earlier versions don't have.
use Rattle.std.specs.Prelude.{◌≡◌, ◌≢◌, ◌≤◌, ℕ, List, None, ⊤}
use Rattle.std.specs.List.{All}
use Rattle.av1_blocks.specs.declared.mc.FilterMode.TheVariants.{SHARP}
use Rattle.av1_blocks.specs.declared.transform.TxSize.TheVariants.{TX_4X4}
use Rattle.av1_blocks.specs.declared.transform.TxType.TheVariants.{WHT_WHT}
use Rattle.av1_dct.specs.Arithmetic.{FitsBits}
use Rattle.av1_plan.specs.declared.header.Header.{Header}
use Rattle.av1_plan.specs.Geometry.{follows_av1}
use Rattle.av1_plan.specs.Plan.{LeafValue, PlanValue}
use Rattle.av1_plan.specs.Validity.{fault_of}
use Rattle.av1_plan.specs.Versions.{header_in, plan_in}
use Rattle.av1_tile.specs.Motion.{plan_filter}
use Rattle.av1_tile.specs.Canvas.{Component}
use Rattle.av1_tile.specs.Output.{planes_of}
use Rattle.av1_tile.specs.PlaneBlocks.{number}
use Rattle.av1_tile.specs.Reference.{block_residue, coefficients}
use Rattle.av1_tile.specs.SharedChroma.{parts_in}
use Rattle.av1_tile.specs.Steps.{Step, predict, add, steps}

-- The residual that a step adds, if it adds one, is the same in this version.
abbrev pub AddsTheSame : (version : ℕ) → Header → Step → Type 0
AddsTheSame version h (predict block n a) = ⊤
AddsTheSame version h (add block triples n a) = (r c : ℕ) →
    block_residue (follows_av1 (header_in version h)) h.depth block triples n r c ≡
    block_residue (follows_av1 h) h.depth block triples n r c

-- A plan follows the same rules in this version: its filter is the same along each side, and so is the residual that
-- each step adds.
pub record AgreesIn (version : ℕ) (plan : PlanValue) : Type 0 where
  pub filter : (side : ℕ) → plan_filter (header_in version plan.header) side ≡ plan_filter plan.header side
  pub residue : All (λ s. AddsTheSame version plan.header s.step) (steps plan.header plan.leaves)

-- The planes of a plan are the same in each version whose rules it follows.
abbrev pub VersionsShowTheSame : Type 0
VersionsShowTheSame =
    (version : ℕ) (plan : PlanValue) → AgreesIn version plan → planes_of (plan_in version plan) ≡ planes_of plan

-- If a step adds the residual of a lossless block, the block is 4x4 and its coefficients have at most 17 bits.
abbrev pub HasFewBits : Step → Type 0
HasFewBits (predict block n a) = ⊤
HasFewBits (add block triples n a) = block.tx_type ≡ WHT_WHT →
    (block.area.tx_size ≡ TX_4X4) × All (FitsBits 17) (coefficients block.area.tx_size n triples)

-- In the first two versions the filter along each side is the header's, as in rav1e.
abbrev pub EarlierKeepFilter : Type 0
EarlierKeepFilter = (h : Header) → h.version ≤ 2 → (side : ℕ) → plan_filter h side ≡ h.filter

-- The first two versions follow the same rules.
abbrev pub EarlyAgree : Type 0
EarlyAgree = (version : ℕ) (plan : PlanValue) → version ≤ 2 → plan.header.version ≤ 2 → AgreesIn version plan

-- All versions follow the same rules for a plan if its filter isn't the sharp one, its depth is at most 10, and no
-- lossless block has a coefficient of more than 17 bits. At depth 8 no coefficient has more.
abbrev pub ElsewhereAgree : Type 0
ElsewhereAgree =
    (version : ℕ) (plan : PlanValue) → plan.header.filter ≢ SHARP → plan.header.depth ≤ 10 →
    All (λ s. HasFewBits s.step) (steps plan.header plan.leaves) → AgreesIn version plan

-- In the first two versions no block of a valid leaf has parts, whatever leaves came before: only the leaf predicts it.
abbrev pub EarlierShareNone : Type 0
EarlierShareNone =
    (h : Header) (leaf : LeafValue) → h.version ≤ 2 → fault_of h leaf ≡ None →
    (earlier : List LeafValue) (k : Component)
    → parts_in h earlier (number k) leaf ≡ None
