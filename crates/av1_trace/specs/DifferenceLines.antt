-- The lines on differences.
use Rattle.std.specs.Prelude.{ℕ, List, [], ◌∷◌, ◌++◌, codes, decimal}
use Rattle.std.specs.List.{flat_map}
use Rattle.av1_trace.specs.declared.entry.Difference.{Difference}

-- the position of a difference, and both samples
abbrev pub place_text : Difference → List ℕ
place_text d = codes "leaf " ++ decimal d.leaf ++ codes " plane " ++ decimal d.plane ++ codes " row " ++ decimal d.row
    ++ codes " column " ++ decimal d.column

abbrev pub sample_text : Difference → List ℕ
sample_text d = codes " given " ++ decimal d.given ++ codes " defined " ++ decimal d.defined ++ codes "\n"

-- the line of a difference
unfoldable pub difference_line : Difference → List ℕ
difference_line d = place_text d ++ sample_text d

-- the lines of differences: one for each, or `same` if there are none
unfoldable pub difference_lines : List Difference → List ℕ
difference_lines [] = codes "same\n"
difference_lines (d ∷ ds) = flat_map difference_line (d ∷ ds)
