-- The bytes of fields that several kinds of rows have: formats, margins, and how numbers are drawn.
use Rattle.std.specs.Prelude.{ℕ, List, ◌∷◌}
use Rattle.av1_replay.specs.declared.way.Way.{Way}
use Rattle.av1_replay.specs.declared.way.Way.TheVariants.{Any, Ends, Same}
use Rattle.av1_replay.specs.declared.way.Signed.{Signed}
use Rattle.av1_replay.specs.declared.samples.Format.{Format}
use Rattle.av1_replay.specs.declared.samples.Format.TheVariants.{Short, Long8, Long10, Long12}
use Rattle.av1_replay.specs.declared.samples.Margins.{Margins}

-- the number of a format
abbrev pub format_number : Format → ℕ
format_number Short = 0
format_number Long8 = 1
format_number Long10 = 2
format_number Long12 = 3

-- the depth of the samples of a format
abbrev pub depth_of : Format → ℕ
depth_of Short = 8
depth_of Long8 = 8
depth_of Long10 = 10
depth_of Long12 = 12

-- the number of a way of drawing
abbrev pub way_number : Way → ℕ
way_number Any = 0
way_number Ends = 1
way_number Same = 2

-- how signed numbers are drawn, before other bytes
abbrev pub signed_numbers_before : Signed → List ℕ → List ℕ
signed_numbers_before drawn others = drawn.bits ∷ way_number drawn.way ∷ drawn.spare ∷ others

-- the margins of a rectangle
abbrev pub margins_before : Margins → List ℕ → List ℕ
margins_before margins others = margins.x ∷ margins.y ∷ margins.behind ∷ others
