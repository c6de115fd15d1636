use Rattle.std.proofs.Common.{◌≡◌, ◌∙◌, w16}
use Rattle.std.proofs.lemmas.Int.{to_z-of_z}
use Rattle.av1_intra.proofs.Weighted.{product_word}
use Rattle.av1_intra.proofs.chroma_from_luma.weighted.Goals as goal

pub returns-clause-small : goal.returns-clause-small
returns-clause-small c =
    let a : c.from.result ≡ c.args.alpha = c.from.ensures ∙ to_z-of_z w16 c.args.alpha c.ranges.alpha in
    let d : c.from-2.result ≡ c.args.difference = c.from-2.ensures ∙ to_z-of_z w16 c.args.difference c.ranges.difference in
    rw (a, d) (product_word c.args.alpha c.args.difference c.ranges.alpha c.ranges.difference)
