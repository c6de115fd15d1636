use Rattle.std.proofs.Common.{pos, ◌≤◌, ◌*◌, ◌^◌, arith, ◌∙◌}
use Rattle.std.proofs.Math.Pow.{pow_mono}
use Rattle.std.proofs.lemmas.List.{length-map}
use Rattle.std.proofs.lemmas.List.FromFn.{fill_by_all}
use Rattle.av1_dct.proofs.narrow_lanes.cut_words.Goals as goal

pub cut_eight-requires-clause-before : goal.cut_eight-requires-clause-before
cut_eight-requires-clause-before g c = λ i q h lt room. absurd (omega arith)

pub cut_eight-requires-2-clause-before : goal.cut_eight-requires-2-clause-before
cut_eight-requires-2-clause-before g c = c.cut_eight.ensures

pub cut_eight-requires-3-clause-before : goal.cut_eight-requires-3-clause-before
cut_eight-requires-3-clause-before g c = c.cut_eight-2.ensures

pub cut_eight-requires-4-clause-before : goal.cut_eight-requires-4-clause-before
cut_eight-requires-4-clause-before g c = c.cut_eight-3.ensures

pub cut_eight-requires-5-clause-before : goal.cut_eight-requires-5-clause-before
cut_eight-requires-5-clause-before g c = c.cut_eight-4.ensures

pub cut_eight-requires-6-clause-before : goal.cut_eight-requires-6-clause-before
cut_eight-requires-6-clause-before g c = c.cut_eight-5.ensures

pub cut_eight-requires-7-clause-before : goal.cut_eight-requires-7-clause-before
cut_eight-requires-7-clause-before g c = c.cut_eight-6.ensures

pub cut_eight-requires-8-clause-before : goal.cut_eight-requires-8-clause-before
cut_eight-requires-8-clause-before g c = c.cut_eight-7.ensures

pub returns : goal.returns
returns g c = λ i h.
    let small : 2 * 2 ^ g.row.K ≤ 2 * 2 ^ 5 = (let p = pow_mono {i = g.row.K} {j = 5} c.requires.k_in in omega arith) in
    let a = c.cut_eight.auto.words in
    let b = c.cut_eight-2.auto.words in
    let d = c.cut_eight-3.auto.words in
    let e = c.cut_eight-4.auto.words in
    fill_by_all _ _ _ (pos 0)
    (length-map c.cut_eight-8.new.words _
    ∙ (c.cut_eight-8.auto.words ∙ c.cut_eight-7.auto.words ∙ c.cut_eight-6.auto.words ∙ c.cut_eight-5.auto.words ∙ e ∙ d ∙ b ∙ a)
    ∙ c.requires.words_len)
    (λ q lt. c.cut_eight-8.ensures i q h (omega (arith, small)) lt)
