-- The bytes of three fields, one by one.
use Rattle.std.proofs.Common.{◌≡◌, ℕ, ◌<◌, List, [], ◌∷◌, ◌++◌, slice_index_or, sym, ap, w16, w32}
use Rattle.std.specs.Int.{to_le_bytes}
use Rattle.av1_planwrite.specs.Text.{byte, pair, quad}
use Rattle.av1_planwrite.proofs.PlanTexts.{byte_is}

pub three_fields : (block place value : ℕ) (b c : List ℕ) → block < 256 → b ≡ to_le_bytes w16 place → c ≡ to_le_bytes w32 value
    → block ∷ slice_index_or b 0 0 ∷ slice_index_or b 1 0 ∷ slice_index_or c 0 0 ∷ slice_index_or c 1 0 ∷ slice_index_or c 2 0 ∷ slice_index_or c 3 0 ∷
    [] ≡ byte block ++ pair place ++ quad value
three_fields block place value b c lt e f = rw (e, f) (ap (λ (first : List ℕ). first ++ pair place ++ quad value) (sym (byte_is block lt)))
