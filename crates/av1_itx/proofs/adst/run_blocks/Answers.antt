use Rattle.std.proofs.Common.{arith, ◌+◌, ◌-◌, ◌*◌, ◌≤◌, length}
use Rattle.std.proofs.Math.Nat.{mul-le-mul_right}
use Rattle.std.proofs.lemmas.List.{length-map}
use Rattle.av1_dct.specs.Word.{column}
use Rattle.av1_dct.proofs.Groups.{words_fit}
use Rattle.av1_itx.proofs.Fills.{IsBegun-end}
use Rattle.av1_itx.proofs.Blocks.{block_round}
use Rattle.av1_itx.proofs.WrittenWords.{blocks_words, words_begun}
use Rattle.av1_itx.proofs.adst.run_blocks.Goals as goal

pub loop-b-init : goal.loop-b-init
loop-b-init g c = λ i h. words_begun _ _ (omega arith)

pub overflow_mul-b : goal.overflow_mul-b
overflow_mul-b g c =
    let room = mul-le-mul_right (4 * length c.args.weights.now) (let next : c.loop-b.b + 1 ≤ c.args.blocks = omega arith in next) in
    omega (arith, c.requires.len, room, c.loop-b.auto.v)

pub overflow_mul-b-in-loop-b : goal.overflow_mul-b-in-loop-b
overflow_mul-b-in-loop-b g c =
    let room = mul-le-mul_right (4 * length c.args.weights.now) (let next : c.loop-b.b + 1 ≤ c.args.blocks = omega arith in next) in
    omega (arith, c.requires.len, room, c.loop-b.auto.v)

pub overflow_add-b : goal.overflow_add-b
overflow_add-b g c =
    let room = mul-le-mul_right (4 * length c.args.weights.now) (let next : c.loop-b.b + 1 ≤ c.args.blocks = omega arith in next) in
    omega (arith, c.requires.len, room, c.loop-b.auto.v)

pub slice_bounds-run_block-end : goal.slice_bounds-run_block-end
slice_bounds-run_block-end g c =
    let room = mul-le-mul_right (4 * length c.args.weights.now) (let next : c.loop-b.b + 1 ≤ c.args.blocks = omega arith in next) in
    omega (arith, c.requires.len, room, c.loop-b.auto.v)

pub run_block-requires-clause-fit : goal.run_block-requires-clause-fit
run_block-requires-clause-fit g c =
    λ i h. words_fit g.W.Word.lane_of i (c.loop-b.b * (4 * length c.args.weights.now)) _ c.loop-b.v _ _ _ (c.loop-b.invariant i h) (c.requires.fit i h)

pub loop-b-preserved : goal.loop-b-preserved
loop-b-preserved g c = λ i h.
    let n = 4 * length c.args.weights.now in
    let room = mul-le-mul_right n (let next : c.loop-b.b + 1 ≤ c.args.blocks = omega arith in next) in
    blocks_words g.W.Word.lane_of i c.args.range (length c.args.weights.now) (length c.args.v.now) c.loop-b.b n (c.loop-b.b * n + n - c.loop-b.b * n)
    (column g.W.Word.lane_of i c.args.v.now) c.loop-b.v c.run_block.new.v (omega arith) (omega arith)
    (omega (arith, c.requires.len, room)) (length-map c.args.v.now _) (c.loop-b.invariant i h) (c.run_block.ensures i h)

pub returns : goal.returns
returns g c = λ i h.
    let room = mul-le-mul_right (4 * length c.args.weights.now) c.loop-b-test.false in
    IsBegun-end _ (block_round c.args.range (2 * length c.args.weights.now) (length c.args.v.now) (column g.W.Word.lane_of i c.args.v.now)) _ _ _
    (omega (arith, c.requires.len, room)) (c.loop-b.invariant i h)
