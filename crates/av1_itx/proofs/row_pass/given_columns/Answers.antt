use Rattle.std.proofs.Common.{arith, ◌≡◌, ◌≤◌, ◌+◌, ◌*◌, ◌/◌, ap, sym, map, length, inl, inr}
use Rattle.std.proofs.Math.Nat.{mul-le-mul_right}
use Rattle.std.proofs.lemmas.Bool.{cases_lt}
use Rattle.std.proofs.lemmas.List.{length-map}
use Rattle.av1_blocks.specs.Transforms.{tx_width, tx_height, coded}
use Rattle.av1_itx.proofs.Lines.{columns_hold}
use Rattle.av1_itx.proofs.Passes.{input_none, input_past}
use Rattle.av1_itx.proofs.row_pass.given_columns.Goals as goal

pub returns-then-longer-lt-LONG_SIDE-clause-rest : goal.returns-then-longer-lt-LONG_SIDE-clause-rest
returns-then-longer-lt-LONG_SIDE-clause-rest g c = λ r x hx.
    let block = c.args.block in
    sym (input_past block.tx_size block.tx_type block.bd (map g.C.Coefficient.val c.args.input.now) r x (omega arith))

pub returns-clause-rest : goal.returns-clause-rest
returns-clause-rest g c = λ r x hx.
    let block = c.args.block in
    let size = block.tx_size in
    let n = length c.args.input.now in
    let cs = map g.C.Coefficient.val c.args.input.now in
    let rows : c.min-rows.result ≡ coded (tx_height size) = omega arith in
    elim (cases_lt x (coded (tx_width size))) [
      | inl lo ↦ (
          let past : n / c.min-rows.result + 1 ≤ x = omega arith in
          let room = mul-le-mul_right c.min-rows.result past in
          let hold = columns_hold n c.min-rows.result (omega arith) in
          let same = ap (λ k. x * k) rows in
          input_none size block.tx_type block.bd cs r x (omega (arith, room, hold, same, length-map c.args.input.now g.C.Coefficient.val))
          )
      | inr hi ↦ sym (input_past size block.tx_type block.bd cs r x hi)
    ]
