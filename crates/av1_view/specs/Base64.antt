-- Base64.
use Rattle.std.specs.Prelude.{ℕ, ◌+◌, ◌*◌, ◌/◌, ◌%◌, List, [], ◌∷◌, ◌++◌, take, codes, slice_index}

-- the letter of a number of 6 bits
abbrev pub letter : ℕ → ℕ
letter number = slice_index (codes "ABCDEFGHIJKLMNOPQRSTUVWXYZabcdefghijklmnopqrstuvwxyz0123456789+/") number

-- three bytes as four letters, of 6 of their 24 bits each
abbrev pub group : (a b c : ℕ) → List ℕ
group a b c = letter (a / 4) ∷ letter (a % 4 * 16 + b / 16) ∷ letter (b % 16 * 4 + c / 64) ∷ letter (c % 64) ∷ []

-- bytes in base64 (RFC 4648, section 4): four letters for each three bytes, and a `=` for each byte that the last group
-- lacks
unfoldable pub base64_text : List ℕ → List ℕ
base64_text [] = []
base64_text (a ∷ []) = take 2 (group a 0 0) ++ codes "=="
base64_text (a ∷ b ∷ []) = take 3 (group a b 0) ++ codes "="
base64_text (a ∷ b ∷ c ∷ rest) = group a b c ++ base64_text rest
