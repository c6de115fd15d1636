use Rattle.std.proofs.Common.{◌≡◌, ◌<◌, length, rules, subst, sym}
use Rattle.std.specs.Io.KnownBytes.{Appends}
use Rattle.std.proofs.lemmas.Result.{on_ok_weaker}
use Rattle.av1_streams.specs.Streams.{AppendsPrefix}
use Rattle.av1_trace.proofs.DifferenceTexts.{lines_of_none, lines_of_some}
use Rattle.av1_trace.proofs.lines.write_differences.Goals as goal

pub returns-then-is_empty-clause-whole : goal.returns-then-is_empty-clause-whole
returns-then-is_empty-clause-whole g c =
    let none : length c.args.list.now ≡ 0 = search rules in
    on_ok_weaker c.write_bytes.result (λ done. subst (Appends _ _) (sym (lines_of_none c.args.list.now none)) done) c.write_bytes.ensures.whole

pub returns-then-is_empty-clause-prefix : goal.returns-then-is_empty-clause-prefix
returns-then-is_empty-clause-prefix g c =
    let none : length c.args.list.now ≡ 0 = search rules in
    subst (AppendsPrefix _ _) (sym (lines_of_none c.args.list.now none)) c.write_bytes.ensures.prefix

pub returns-else-is_empty-clause-whole : goal.returns-else-is_empty-clause-whole
returns-else-is_empty-clause-whole g c =
    let some : 0 < length c.args.list.now = search rules in
    on_ok_weaker c.write_each.result (λ done. subst (Appends _ _) (sym (lines_of_some c.args.list.now some)) done) c.write_each.ensures.whole

pub returns-else-is_empty-clause-prefix : goal.returns-else-is_empty-clause-prefix
returns-else-is_empty-clause-prefix g c =
    let some : 0 < length c.args.list.now = search rules in
    subst (AppendsPrefix _ _) (sym (lines_of_some c.args.list.now some)) c.write_each.ensures.prefix
