use Rattle.std.proofs.Common.{arith, refl, take, ap, sym, subst, ◌∙◌, List, ℤ}
use Rattle.std.proofs.lemmas.List.{map-id}
use Rattle.std.specs.List.{All}
use Rattle.av1_dct.specs.Arithmetic.{FitsBits}
use Rattle.av1_dct.specs.Cosine.{cosine}
use Rattle.av1_dct.proofs.inverse.av1_idct8.Goals as goal

pub cosine_words-requires-clause-fit : goal.cosine_words-requires-clause-fit
cosine_words-requires-clause-fit c = λ i h. let P : List ℤ → Type 0 = λ zs. All (FitsBits c.args.range) (take 8 zs)
    in subst P (sym (map-id c.args.input.now)) c.requires.fit

pub returns-clause-value : goal.returns-clause-value
returns-clause-value c = ap (take 8) (sym (map-id c.cosine_words.new.output)) ∙ c.cosine_words.ensures.value 2 0 (omega arith) refl
    ∙ ap (λ ys. cosine c.args.range 2 (take 8 ys)) (map-id c.args.input.now)
