-- The page, from the bytes that it shows.
use Rattle.std.specs.Prelude.{ℕ, List, [], ◌∷◌}
use Rattle.std.specs.List.{concat}
use Rattle.av1_view.specs.declared.page.Piece.{Piece}
use Rattle.av1_view.specs.declared.page.Piece.TheVariants.{Text, Bytes}
use Rattle.av1_view.specs.declared.template.TheConstants.{BEFORE_PLAN, BEFORE_PLANES, BEFORE_PREDICTIONS, BEFORE_GIVEN}
use Rattle.av1_view.specs.declared.template.TheConstants.{BEFORE_SCRIPT, SCRIPT, AFTER_SCRIPT}
use Rattle.av1_view.specs.Base64.{base64_text}

-- a piece of the page
abbrev pub piece_text : Piece → List ℕ
piece_text (Text text) = text.now
piece_text (Bytes bytes) = base64_text bytes.now

-- The page: constant parts, and between them data in base64. The data is the bytes of a plan, of its planes, of its
-- packed predictions, and of the planes of a trace, if there is one.
unfoldable pub page : (plan planes predictions given : List ℕ) → List ℕ
page plan planes predictions given = concat (
    BEFORE_PLAN.now ∷ base64_text plan ∷ BEFORE_PLANES.now ∷ base64_text planes ∷ BEFORE_PREDICTIONS.now ∷
    base64_text predictions
    ∷ BEFORE_GIVEN.now ∷ base64_text given ∷ BEFORE_SCRIPT.now ∷ SCRIPT.now ∷ AFTER_SCRIPT.now ∷ []
    )
