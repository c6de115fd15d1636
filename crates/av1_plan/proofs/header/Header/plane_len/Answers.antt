use Rattle.std.proofs.Common.{◌*◌, ◌≤◌, arith}
use Rattle.std.proofs.Math.Nat.{mul-le-mul}
use Rattle.av1_plan.proofs.header.Header.plane_len.Goals as goal

pub overflow_mul-result : goal.overflow_mul-result
overflow_mul-result c =
    let most : c.shown_columns.result * c.shown_rows.result ≤ 65535 * 65535 = mul-le-mul c.shown_columns.ensures.few c.shown_rows.ensures.few in
    omega (arith, most)
