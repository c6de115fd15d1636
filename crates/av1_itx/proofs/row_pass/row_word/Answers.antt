use Rattle.std.proofs.Common.{arith, ℤ, ◌≡◌, ◌+◌, ◌*◌, ◌∙◌, ap, sym, subst, map}
use Rattle.av1_blocks.specs.Transforms.{tx_width, tx_height, coded}
use Rattle.av1_dct.specs.Arithmetic.{at, FitsBits}
use Rattle.av1_itx.specs.Residue.{row_value}
use Rattle.av1_itx.proofs.Lines.{place_in}
use Rattle.av1_itx.proofs.Passes.{input_in, row_value-is}
use Rattle.av1_itx.proofs.row_pass.row_word.Goals as goal

pub scaled-requires-clause-fits : goal.scaled-requires-clause-fits
scaled-requires-clause-fits g c = λ i h.
    let size = c.args.block.tx_size in
    let n = coded (tx_height size) in
    let cs = map g.C.Coefficient.val c.args.input.now in
    let rows : c.min-rows.result ≡ n = omega arith in
    let P : ℤ → Type 0 = λ z. FitsBits (c.args.block.bd + 8) z in
    let e : c.args.c * n + (c.args.r + i) ≡ c.args.c * n + c.args.r + i = omega arith in
    let is = c.word_at-word.ensures i h ∙ ap (λ k. at cs (c.args.c * k + c.args.r + i)) rows ∙ ap (at cs) (sym e) in
    subst P (sym is)
    (c.requires.block.fit (c.args.c * n + (c.args.r + i)) (place_in c.args.c (c.args.r + i) n (coded (tx_width size)) (omega arith) (omega arith)))

pub returns : goal.returns
returns g c = λ i h.
    let block = c.args.block in
    let size = block.tx_size in
    let n = coded (tx_height size) in
    let cs = map g.C.Coefficient.val c.args.input.now in
    let rows : c.min-rows.result ≡ n = omega arith in
    let e : c.args.c * n + (c.args.r + i) ≡ c.args.c * n + c.args.r + i = omega arith in
    let is = c.word_at-word.ensures i h ∙ ap (λ k. at cs (c.args.c * k + c.args.r + i)) rows ∙ ap (at cs) (sym e) in
    row_value-is size block.tx_type block.bd c.scaling_of.result.two_to_one c.scaling_of.result.lossless (g.W.Word.lane_of c.word_at-word.result i)
    (g.W.Word.lane_of c.scaled.result i) c.scaling_of.ensures.two_to_one c.scaling_of.ensures.lossless (c.scaled.ensures i h)
    ∙ ap (row_value size block.tx_type block.bd) is
    ∙ input_in size block.tx_type block.bd cs (c.args.r + i) c.args.c (omega arith)
