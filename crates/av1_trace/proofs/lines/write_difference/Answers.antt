use Rattle.std.proofs.Common.{◌≡◌, [], refl, ap, subst, ◌∙◌, ◌++◌, append-nil}
use Rattle.std.specs.Io.KnownBytes.{Appends}
use Rattle.std.proofs.KnownBytes.{Appends-trans}
use Rattle.std.proofs.lemmas.Result.{on_ok_weaker}
use Rattle.av1_streams.specs.Streams.{AppendsPrefix}
use Rattle.av1_streams.proofs.Prefixes.{AppendsPrefix-after, AppendsPrefix-first}
use Rattle.av1_trace.specs.DifferenceLines.{difference_line, place_text, sample_text}
use Rattle.av1_trace.proofs.lines.write_difference.Goals as goal

pub returns-in_err-write_bytes-clause-prefix : goal.returns-in_err-write_bytes-clause-prefix
unfolding difference_line
returns-in_err-write_bytes-clause-prefix g c =
    let text : c.as_bytes.result.now ≡ place_text c.args.difference = c.as_bytes.ensures ∙ c.place_text.ensures in
    AppendsPrefix-first _ _ (place_text c.args.difference) (sample_text c.args.difference) _ refl (subst (AppendsPrefix _ _) text c.write_bytes.ensures.prefix)

pub returns-clause-whole : goal.returns-clause-whole
unfolding difference_line
returns-clause-whole g c =
    let text : c.as_bytes.result.now ≡ place_text c.args.difference = c.as_bytes.ensures ∙ c.place_text.ensures in
    let samples : c.as_bytes-2.result.now ≡ sample_text c.args.difference = c.as_bytes-2.ensures ∙ c.sample_text.ensures in
    on_ok_weaker c.write_bytes-2.result
    (λ second. Appends-trans _ _ _ (place_text c.args.difference) (sample_text c.args.difference) (subst (Appends _ _) text c.in_ok-write_bytes.ensures.whole)
    (subst (Appends _ _) samples second))
    c.write_bytes-2.ensures.whole

pub returns-clause-prefix : goal.returns-clause-prefix
unfolding difference_line
returns-clause-prefix g c =
    let text : c.as_bytes.result.now ≡ place_text c.args.difference = c.as_bytes.ensures ∙ c.place_text.ensures in
    let samples : c.as_bytes-2.result.now ≡ sample_text c.args.difference = c.as_bytes-2.ensures ∙ c.sample_text.ensures in
    AppendsPrefix-after _ _ _ (place_text c.args.difference)
    (sample_text c.args.difference) [] _ (ap (λ l. place_text c.args.difference ++ l) (append-nil (sample_text c.args.difference)))
    (subst (Appends _ _) text c.in_ok-write_bytes.ensures.whole) (subst (AppendsPrefix _ _) samples c.write_bytes-2.ensures.prefix)
