use Rattle.std.proofs.Common.{arith, ℕ, ◌≡◌, ◌≤◌, ◌<◌, ◌+◌, ◌-◌, ◌*◌, ◌/◌, ◌∙◌, ap, sym, subst, refl, map, length}
use Rattle.std.proofs.Math.Nat.{mul-le-mul_right}
use Rattle.av1_blocks.specs.Transforms.{tx_height, coded}
use Rattle.av1_dct.specs.Arithmetic.{at}
use Rattle.av1_dct.proofs.Groups.{put}
use Rattle.av1_itx.specs.Residue.{column_value, transformed_row}
use Rattle.av1_itx.proofs.Eights.{all_groups, group_in, room_for}
use Rattle.av1_itx.proofs.Fills.{part_len}
use Rattle.av1_itx.proofs.Handed.{groups}
use Rattle.av1_itx.proofs.Lines.{group_place, rows_end, rows_more}
use Rattle.av1_itx.proofs.Passes.{taken-past}
use Rattle.av1_itx.proofs.row_pass.rows_of.Goals as goal

pub filled-line-requires : goal.filled-line-requires
filled-line-requires g c = room_for g.row.N _ (omega (arith, (groups c.args.block.tx_size).2, c.requires.width)) c.requires.small

pub filled-transformed-requires : goal.filled-transformed-requires
filled-transformed-requires g c = room_for g.row.N _ (omega (arith, (groups c.args.block.tx_size).2, c.requires.width)) c.requires.small

pub loop-g-preserved : goal.loop-g-preserved
loop-g-preserved g c =
    let block = c.args.block in
    let size = block.tx_size in
    let cs = map g.C.Coefficient.val c.args.input.now in
    let w = g.row.N in
    let m = c.LANES-m.result in
    let q = c.loop-g.g in
    let a = q * (m * w) in
    let n = a + m * w - a in
    let f = λ (r x : ℕ). column_value block.by_av1 size block.tx_type block.bd (at (transformed_row block.by_av1 size block.tx_type block.bd cs r) x) in
    let rows : c.min-rows.result ≡ coded (tx_height size) = omega arith in
    let room : m * q + g.W.Word.LANES ≤ coded (tx_height size) =
    group_in c.LANES-m.ensures c.requires.whole (subst (λ (k : ℕ). q < k / m) rows c.loop-g-test.true) in
    let place = group_place m q w (tx_height size) (omega (arith, room, c.LANES-m.ensures)) in
    let long : length c.loop-g.buffer ≡ tx_height size * w = c.loop-g.auto.buffer ∙ c.requires.buffer_len ∙ ap (λ k. tx_height size * k) c.requires.width in
    let part = part_len a n c.loop-g.buffer (omega (arith, place.1, long)) in
    let is_n : n ≡ m * w = omega arith in
    let all = rows_more w (m * q) m n a f c.loop-g.buffer c.run_group.new.part c.loop-g.invariant place.0 is_n (c.run_group.auto.part ∙ part)
    (omega (arith, place.1, long))
    (λ j x hj hx. ap (λ k. at c.run_group.new.part (j * k + x)) (sym c.requires.width)
    ∙ c.run_group.ensures j x (omega (arith, hj, c.LANES-m.ensures)) (omega (arith, hx, c.requires.width))) in
    λ r x hr hx. all r x (omega arith) hx

pub returns : goal.returns
returns g c = λ r x hr hx.
    let block = c.args.block in
    let size = block.tx_size in
    let cs = map g.C.Coefficient.val c.args.input.now in
    let w = g.row.N in
    let h = tx_height size in
    let m = c.LANES-m.result in
    let k = c.min-rows.result in
    let buf = c.loop-g.buffer in
    let n = length buf - k * w in
    let f = λ (r x : ℕ). column_value block.by_av1 size block.tx_type block.bd (at (transformed_row block.by_av1 size block.tx_type block.bd cs r) x) in
    let rows : k ≡ coded h = omega arith in
    let long : length buf ≡ h * w = c.loop-g.auto.buffer ∙ c.requires.buffer_len ∙ ap (λ j. h * j) c.requires.width in
    let whole : m * (k / m) ≡ k =
    subst (λ (j : ℕ). m * (j / m) ≡ j) (sym rows) (subst (λ (l : ℕ). l * (coded h / l) ≡ coded h) (sym c.LANES-m.ensures) c.requires.whole) in
    let all = all_groups m c.loop-g.g k whole (omega arith) in
    let few : k ≤ h = omega (arith, rows) in
    let room = mul-le-mul_right w few in
    let P : ℕ → Type 0 = λ j. at (put (k * w) n buf c.clear.new.line) (r * j + x) ≡ f r x in
    subst P (sym c.requires.width)
    (rows_end w k n h f buf c.clear.new.line (λ a b ha hb. c.loop-g.invariant a b (omega (arith, ha, all)) hb) few long refl
    (c.clear.auto.line ∙ part_len (k * w) n buf (omega (arith, long, room))) c.clear.ensures
    (λ a b ha. taken-past block.by_av1 size block.tx_type block.bd cs a b (omega (arith, ha, rows))) r x hr (omega (arith, hx, c.requires.width)))
