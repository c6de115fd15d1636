-- How many samples the planes of an admitted frame have.
use Rattle.std.proofs.Common.{◌≡◌, ℕ, ◌*◌, ◌^◌, ◌<◌, ◌≤◌, true, ◌&&◌, List, length, arith}
use Rattle.std.specs.Prelude.{nat_lt, ◌==◌}
use Rattle.std.specs.List.{list_all}
use Rattle.std.proofs.Math.Nat.{mul-le-mul}
use Rattle.std.proofs.lemmas.Bool.{and_parts, eqb-true}
use Rattle.av1_plan.specs.declared.header.Header.{Header}
use Rattle.av1_plan.specs.Geometry.{plane_len, shown_columns, shown_rows}
use Rattle.av1_plan.proofs.Shown.{columns_few, rows_few}
use Rattle.av1_planwrite.specs.Building.{admits_header, admits_plane, admits_reference}
use Rattle.av1_planwrite.proofs.ReadHeaders.{header_read}

few_samples : (h : Header) (p : ℕ) (samples : List ℕ) → h.width ≤ 2048 → h.height ≤ 2048 → admits_plane h p samples ≡ true →
    length samples ≤ 2 ^ 22
unfolding admits_plane
few_samples h p samples width height e =
    let (count, _) = and_parts (length samples == plane_len h p) (list_all (λ sample. nat_lt sample (2 ^ h.depth)) samples) e in
    let columns : shown_columns h p ≤ 2048 = omega (arith, columns_few h p, width) in
    let rows : shown_rows h p ≤ 2048 = omega (arith, rows_few h p, height) in
    let most : shown_columns h p * shown_rows h p ≤ 2048 * 2048 = mul-le-mul columns rows in
    omega (arith, most, eqb-true (length samples) (plane_len h p) count)

-- three planes that are admitted have few samples each
pub few_in_each : (h : Header) (y u v : List ℕ) → admits_header h ≡ true → h.mask < 256 → length h.slots ≡ 7 → admits_reference h y u v ≡ true →
    (length y ≤ 2 ^ 22) × (length u ≤ 2 ^ 22) × (length v ≤ 2 ^ 22)
few_in_each h y u v admitted mask seven e =
    let read = header_read h admitted mask seven in
    let width : h.width ≤ 2048 = omega (arith, read.shown_width.within, read.width.most) in
    let height : h.height ≤ 2048 = omega (arith, read.shown_height.within, read.height.most) in
    let (both, third) = and_parts (admits_plane h 0 y && admits_plane h 1 u) (admits_plane h 2 v) e in
    let (first, second) = and_parts (admits_plane h 0 y) (admits_plane h 1 u) both in
    (few_samples h 0 y width height first, few_samples h 1 u width height second, few_samples h 2 v width height third)
