-- Counts of groups of columns that take the cosine transform.
use Rattle.std.proofs.Common.{ℕ, true, false, cond, ◌≡◌, ◌+◌, ◌-◌, ◌*◌, ◌^◌, ◌≤◌, ◌∙◌, arith, ap, sym}
use Rattle.av1_lists.specs.Counts.{raised}
use Rattle.av1_itx.specs.declared.kinds.TxType1D.{TxType1D}
use Rattle.av1_itx.specs.LaneGroups.{is_cosine}
use Rattle.av1_itx.specs.Scaffolding.{cosine_groups}

-- one more turn of a loop that counts the same at each
pub counted_more : (kind : TxType1D) (x g more : ℕ) →
    raised (raised x (cosine_groups kind (g * more))) (cosine_groups kind more) ≡ raised x (cosine_groups kind ((g + 1) * more))
counted_more kind x g more =
    elim (is_cosine kind) as (λ b. raised (raised x (cond b (g * more) 0)) (cond b more 0) ≡ raised x (cond b ((g + 1) * more) 0)) [
      | true ↦ (let next : (g + 1) * more ≡ g * more + more = grind arith in omega (arith, next))
      | false ↦ omega arith
    ]

-- no groups, or none that take it
pub counted_none : (kind : TxType1D) (x groups : ℕ) → x ≤ 2 ^ 64 - 1 → groups ≡ 0 → x ≡ raised x (cosine_groups kind groups)
counted_none kind x groups fits none =
    elim (is_cosine kind) as (λ b. x ≡ raised x (cond b groups 0)) [ true ↦ omega (arith, fits, none) | false ↦ omega (arith, fits) ]

pub not_counted : (kind : TxType1D) (x groups : ℕ) → x ≤ 2 ^ 64 - 1 → is_cosine kind ≡ false → x ≡ raised x (cosine_groups kind groups)
not_counted kind x groups fits other = (let same : x ≡ raised x 0 = omega (arith, fits) in same) ∙ ap (λ b. raised x (cond b groups 0)) (sym other)
