-- The lines for the kinds, one after the other.
use Rattle.std.proofs.Common.{◌≡◌, ℕ, ◌+◌, List, [], ◌++◌, ◌∙◌, ap, append_assoc, get_or, refl, add-one}
use Rattle.av1_rows.specs.Reports.{kind_line, lines_below}
use Rattle.av1_rows.specs.Tallies.{Counts}

pub no_lines : (counts : Counts) → lines_below counts 0 ≡ []
unfolding lines_below
no_lines counts = refl

pub lines_more : (counts : Counts) (kind : ℕ) → lines_below counts (kind + 1) ≡ lines_below counts kind
    ++ kind_line kind (get_or counts.rows kind 0) (get_or counts.differ kind 0)
unfolding lines_below
lines_more counts kind = rw (add-one kind) refl

-- three texts, one after the other
pub three : (old first second third a b new : List ℕ) → a ≡ old ++ first → b ≡ a ++ second → new ≡ b ++ third → new ≡ old ++ (first ++ second ++ third)
three old first second third a b new e f g =
    g ∙ ap (λ t. t ++ third) (f ∙ ap (λ t. t ++ second) e ∙ append_assoc old first second) ∙ append_assoc old (first ++ second) third
