use Rattle.std.proofs.Common.{arith, rules, ◌≡◌, ◌+◌, ◌*◌, ◌∙◌, ap, pos, map, slice_index, List, [], ◌∷◌, ℤ, to_z, of_z, w16, FitsSigned}
use Rattle.std.proofs.lemmas.Int.{to_z-of_z}
use Rattle.av1_inter.specs.Motion.{entry}
use Rattle.av1_inter.specs.Scaffolding.{Between}
use Rattle.av1_inter.proofs.Eights.{each_of_eight}
use Rattle.av1_inter.proofs.Halves.{short_kept, short_read}
use Rattle.av1_inter.proofs.Sums.{weighted_same}
use Rattle.av1_inter.proofs.bytes.sum_bytes.Goals as goal

-- the values as they were read
abbrev values_of : (a b d e f g h i : ℤ) → List ℤ
values_of a b d e f g h i =
    to_z w16 (of_z w16 a) ∷ to_z w16 (of_z w16 b) ∷ to_z w16 (of_z w16 d) ∷ to_z w16 (of_z w16 e) ∷ to_z w16 (of_z w16 f) ∷ to_z w16 (of_z w16 g) ∷
    to_z w16 (of_z w16 h) ∷ to_z w16 (of_z w16 i) ∷ []

pub weigh_bytes-requires-clause-within : goal.weigh_bytes-requires-clause-within
weigh_bytes-requires-clause-within g c =
    each_of_eight
    (λ t. Between 0 255
    (entry (values_of c.byte_at-first.result c.byte_at-second.result c.byte_at-third.result c.byte_at-fourth.result c.byte_at-fifth.result
    c.byte_at-sixth.result
    c.byte_at-seventh.result c.byte_at-eighth.result) t))
    (short_kept 255 _ (omega arith) c.byte_at-first.ensures.within) (short_kept 255 _ (omega arith) c.byte_at-second.ensures.within)
    (short_kept 255 _ (omega arith) c.byte_at-third.ensures.within)
    (short_kept 255 _ (omega arith) c.byte_at-fourth.ensures.within)
    (short_kept 255 _ (omega arith) c.byte_at-fifth.ensures.within) (short_kept 255 _ (omega arith) c.byte_at-sixth.ensures.within)
    (short_kept 255 _ (omega arith) c.byte_at-seventh.ensures.within)
    (short_kept 255 _ (omega arith) c.byte_at-eighth.ensures.within)

pub returns-clause-value : goal.returns-clause-value
returns-clause-value g c =
    let num = g.T.Pixel.num in
    let s = c.args.source.now in
    let k = c.args.start in
    let d = c.args.step in
    let fits : FitsSigned w16 c.weigh_bytes.result = search rules in
    let first : k ≡ k + 0 * d = omega arith in
    let second : k + d ≡ k + 1 * d = omega arith in
    to_z-of_z w16 _ fits ∙ c.weigh_bytes.ensures.value ∙ weighted_same c.args.halves.now _ _ (each_of_eight
    (λ t. entry
    (values_of c.byte_at-first.result c.byte_at-second.result c.byte_at-third.result c.byte_at-fourth.result c.byte_at-fifth.result c.byte_at-sixth.result
    c.byte_at-seventh.result
    c.byte_at-eighth.result) t ≡ pos (slice_index (map num s) (k + t * d)))
    (short_read 255 _ (omega arith) c.byte_at-first.ensures.within ∙ c.byte_at-first.ensures.value ∙ ap (λ n. pos (slice_index (map num s) n)) first)
    (short_read 255 _ (omega arith) c.byte_at-second.ensures.within ∙ c.byte_at-second.ensures.value ∙ ap (λ n. pos (slice_index (map num s) n)) second)
    (short_read 255 _ (omega arith) c.byte_at-third.ensures.within ∙ c.byte_at-third.ensures.value)
    (short_read 255 _ (omega arith) c.byte_at-fourth.ensures.within ∙ c.byte_at-fourth.ensures.value)
    (short_read 255 _ (omega arith) c.byte_at-fifth.ensures.within ∙ c.byte_at-fifth.ensures.value)
    (short_read 255 _ (omega arith) c.byte_at-sixth.ensures.within ∙ c.byte_at-sixth.ensures.value)
    (short_read 255 _ (omega arith) c.byte_at-seventh.ensures.within ∙ c.byte_at-seventh.ensures.value)
    (short_read 255 _ (omega arith) c.byte_at-eighth.ensures.within ∙ c.byte_at-eighth.ensures.value))
