-- What was written of rows, from what was found in their bytes.
use Rattle.std.proofs.Common.{◌≡◌, ◌↔◌, ℕ, List, Option, ap, subst, ◌∙◌}
use Rattle.std.specs.Prelude.{IfSome, IsNone}
use Rattle.std.proofs.lemmas.Option.{IfSome_then}
use Rattle.av1_rows.specs.Replays.{Rows}
use Rattle.av1_rows.specs.Reports.{report, report_text}
use Rattle.av1_rows.specs.Rows.{Replayed, AllAgree, AreReplayed}
use Rattle.av1_rows.specs.Tallies.{Counts, counts_of}

-- the text of the counts is that of the rows
pub reported : (left : Option (List ℕ)) (bytes text : List ℕ) (counts : Counts) (P : List ℕ → Type 0) (Q : List Replayed → Type 0) →
    IfSome left (λ told. bytes ≡ told)
    → ((rows : List Replayed) × AreReplayed bytes rows × (counts ≡ counts_of rows) × (IsNone counts.first ↔ AllAgree rows))
    → text ≡ report_text counts → P text → ((rows : List Replayed) → (IsNone counts.first ↔ AllAgree rows) → P (report rows) → Q rows) → Rows left Q
reported left bytes text counts P Q told (rows, replayed, counted, clean) is p f =
    IfSome_then left told (λ b e. (rows, subst (λ (x : List ℕ). AreReplayed x rows) e replayed, f rows clean (subst P (is ∙ ap report_text counted) p)))
