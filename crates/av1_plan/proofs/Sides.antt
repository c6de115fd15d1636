-- The sides that are shown are such as the version admits, and what is coded for them is 512; the letters name the version.
use Rattle.std.proofs.Common.{◌≡◌, ℕ, zero, suc, ◌+◌, ◌-◌, ◌/◌, ◌%◌, ◌≤◌, Bool, true, false, if◌then◌else◌, refl, arith, lit<, lit≤}
use Rattle.std.specs.Prelude.{◌==◌, ◌||◌, ◌&&◌}
use Rattle.std.specs.Int.{is_in_range}
use Rattle.std.proofs.lemmas.Bool.{eqb-true}
use Rattle.av1_plan.specs.Format.{two, four, IsAdmitted}
use Rattle.av1_plan.specs.Geometry.{coded_side, coded_width, coded_height}
use Rattle.av1_plan.specs.Grammar.{where_, is_magic, version_of, is_side}
use Rattle.av1_lists.proofs.Below.{below}
use Rattle.av1_plan.specs.Generator.{frame, letters, shown_side}

-- one of the three versions
abbrev pub IsVersion : ℕ → Type 0
IsVersion version = (1 ≤ version) × (version ≤ 3)

-- ---- letters

pub letters_are : (version : ℕ) → IsVersion version → IsAdmitted (where_ four is_magic) (letters version)
unfolding letters
letters_are zero is = absurd (omega (arith, is.0))
letters_are (suc zero) is = record { fits = lit< tt; admitted = refl }
letters_are (suc (suc zero)) is = record { fits = lit< tt; admitted = refl }
letters_are (suc (suc (suc zero))) is = record { fits = lit< tt; admitted = refl }
letters_are (suc (suc (suc (suc n)))) is = absurd (omega (arith, is.1))

pub letters_name : (version : ℕ) → IsVersion version → version_of (letters version) ≡ version
unfolding letters
letters_name zero is = absurd (omega (arith, is.0))
letters_name (suc zero) is = refl
letters_name (suc (suc zero)) is = refl
letters_name (suc (suc (suc zero))) is = refl
letters_name (suc (suc (suc (suc n)))) is = absurd (omega (arith, is.1))

-- ---- sides

-- a side, by whether any number may be one
abbrev side_by : Bool → ℕ → ℕ
side_by any v = if any then 512 - v % 8 else 512

most_by : (any : Bool) (v : ℕ) → side_by any v ≤ 512
most_by true v = omega arith
most_by false v = lit≤ tt

pub side_most : (version v : ℕ) → shown_side version v ≤ 512
unfolding shown_side
side_most version v = most_by (version == 3) v

admitted_by : (any : Bool) (v : ℕ) → ((any || side_by any v % 8 == 0) && is_in_range 1 2048 (side_by any v)) ≡ true
admitted_by true v = below 8 (λ r. is_in_range 1 2048 (512 - r)) refl (v % 8) (omega arith)
admitted_by false v = refl

pub side_is : (version v : ℕ) → IsAdmitted (where_ two (is_side version)) (shown_side version v)
unfolding shown_side
side_is version v =
    let most : side_by (version == 3) v ≤ 512 = most_by (version == 3) v in
    record { fits = omega (arith, most); admitted = admitted_by (version == 3) v }

coded_by : (any : Bool) (v : ℕ) → coded_side (side_by any v) ≡ 512
coded_by true v = eqb-true (coded_side (512 - v % 8)) 512 (below 8 (λ r. coded_side (512 - r) == 512) refl (v % 8) (omega arith))
coded_by false v = refl

side_coded : (version v : ℕ) → coded_side (shown_side version v) ≡ 512
unfolding shown_side
side_coded version v = coded_by (version == 3) v

-- what is coded of the frame
pub frame_coded : (version number : ℕ) → (coded_width (frame version number) ≡ 512) × (coded_height (frame version number) ≡ 512)
unfolding coded_width coded_height frame
frame_coded version number = (side_coded version number, side_coded version (number / 8))

superblocks_by : (any : Bool) (v : ℕ) → (side_by any v + 63) / 64 ≡ 8
superblocks_by true v = omega arith
superblocks_by false v = refl

-- eight superblocks hold a side
pub side_superblocks : (version v : ℕ) → (shown_side version v + 63) / 64 ≡ 8
unfolding shown_side
side_superblocks version v = superblocks_by (version == 3) v
