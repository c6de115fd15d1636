-- Paeth prediction. AV1 specification: basic intra prediction process.
use Rattle.std.specs.Prelude.{ℕ, ◌+◌, ◌&&◌, nat_le, if◌then◌else◌}
use Rattle.av1_intra.specs.Sides.{distance}

-- The sample above, the left one or the corner: whichever is nearest to above + left - corner. If two are equally near,
-- the left one is chosen before the one above, and the one above before the corner.
unfoldable pub paeth : ℕ → ℕ → ℕ → ℕ
paeth above left corner =
    let off = λ (x : ℕ). distance (x + corner) (above + left) in
    if nat_le (off left) (off above) && nat_le (off left) (off corner) then left
    else if nat_le (off above) (off corner) then above
    else corner
