use Rattle.std.proofs.Common.{◌≡◌, ◌-◌, ◌*◌, length, arith}
use Rattle.av1_plan.specs.Format.{start}
use Rattle.av1_tiles.proofs.ReadFronts.{read_front, count_is, few_tiles}
use Rattle.av1_tiles.proofs.container.read_tiles.Goals as goal

pub overflow_sub-count : goal.overflow_sub-count
overflow_sub-count c =
    let front =
    read_front c.in_ok-front.front (start c.args.bytes.now) _ (λ i. omega (arith, c.type_inv.bytes i)) c.in_ok-front.ensures.eight
    c.in_ok-front.ensures.read in
    omega (arith, front.columns.some, c.len.ensures)

pub overflow_sub-count-2 : goal.overflow_sub-count-2
overflow_sub-count-2 c =
    let front =
    read_front c.in_ok-front.front (start c.args.bytes.now) _ (λ i. omega (arith, c.type_inv.bytes i)) c.in_ok-front.ensures.eight
    c.in_ok-front.ensures.read in
    omega (arith, front.rows.some, c.len-2.ensures)

pub overflow_mul-count : goal.overflow_mul-count
overflow_mul-count c =
    let front =
    read_front c.in_ok-front.front (start c.args.bytes.now) _ (λ i. omega (arith, c.type_inv.bytes i)) c.in_ok-front.ensures.eight
    c.in_ok-front.ensures.read in
    omega (arith, few_tiles c.len.result c.len-2.result (omega (arith, front.columns.few, c.len.ensures)) (omega (arith, front.rows.few, c.len-2.ensures)))

pub returns-clause-file : goal.returns-clause-file
returns-clause-file c =
    let columns : c.len.result ≡ length c.in_ok-front.front.columns.items = omega (arith, c.len.ensures) in
    let rows : c.len-2.result ≡ length c.in_ok-front.front.rows.items = omega (arith, c.len-2.ensures) in
    let parts : length c.in_ok-parts.parts.items ≡ (c.len.result - 1) * (c.len-2.result - 1) = omega (arith, c.in_ok-parts.ensures.count) in
    record {
      front = read_front c.in_ok-front.front (start c.args.bytes.now) _ (λ i. omega (arith, c.type_inv.bytes i)) c.in_ok-front.ensures.eight
          c.in_ok-front.ensures.read;
      count = count_is _ _ _ _ _ parts columns rows;
      short = c.in_ok-parts.ensures.short;
    }
