-- Which marks cut a node into four leaves one of whose sides is a quarter of its own, and where.
use Rattle.std.proofs.Common.{◌≡◌, ℕ, zero, suc, ◌+◌, ◌*◌, ◌^◌, ◌≤◌, Bool, true, false, subst, ◌&&◌, arith}
use Rattle.std.specs.Prelude.{nat_le}
use Rattle.std.proofs.lemmas.Bool.{and_parts, leb-true}
use Rattle.std.proofs.Math.Nat.{pow-succ'}
use Rattle.av1_blocks.specs.declared.partition.PartitionType.{PartitionType}
use Rattle.av1_blocks.specs.declared.partition.PartitionType.TheVariants.{PARTITION_HORZ_4, PARTITION_VERT_4}
use Rattle.av1_plan.specs.declared.header.Header.{Header}
use Rattle.av1_plan.specs.Grammar.{half_side, quarter_side, cut_by, admits_stripes, is_mark, mark}
use Rattle.av1_plan.specs.Spelling.{IsSpelled}
use Rattle.av1_plan.proofs.Pieces.{spelled_asks, spelled_done}
use Rattle.av1_plan.specs.Geometry.{coded_width, coded_height}

-- whether a node that is cut so has four leaves above one another or side by side
abbrev pub is_striped : PartitionType → Bool
is_striped PARTITION_HORZ_4 = true
is_striped PARTITION_VERT_4 = true
is_striped _ = false

-- a node of this level at this place may be cut so
abbrev pub IsCut : Header → (level x y : ℕ) → PartitionType → Type 0
IsCut h level x y cut = is_striped cut ≡ true → admits_stripes h level x y ≡ true

pub cut_is : (h : Header) (level x y number : ℕ) → is_mark h level x y number ≡ true → IsCut h level x y (cut_by number)
unfolding is_mark cut_by
cut_is h level x y zero e = λ f. absurd cc
cut_is h level x y (suc zero) e = λ f. absurd cc
cut_is h level x y (suc (suc zero)) e = λ f. absurd cc
cut_is h level x y (suc (suc (suc zero))) e = λ f. absurd cc
cut_is h level x y (suc (suc (suc (suc zero)))) e = λ f. absurd cc
cut_is h level x y (suc (suc (suc (suc (suc zero))))) e = λ f. absurd cc
cut_is h level x y (suc (suc (suc (suc (suc (suc zero)))))) e = λ f. absurd cc
cut_is h level x y (suc (suc (suc (suc (suc (suc (suc zero))))))) e = λ f. absurd cc
cut_is h level x y (suc (suc (suc (suc (suc (suc (suc (suc zero)))))))) e = λ f. e
cut_is h level x y (suc (suc (suc (suc (suc (suc (suc (suc (suc zero))))))))) e = λ f. e
cut_is h level x y (suc (suc (suc (suc (suc (suc (suc (suc (suc (suc number)))))))))) e = λ f. absurd cc

pub spelled_mark : (h : Header) (level x y : ℕ) (cut : PartitionType) → IsSpelled (mark h level x y) cut → IsCut h level x y cut
unfolding mark
spelled_mark h level x y cut s =
    let (number, is, t) = spelled_asks _ _ cut s in
    subst (IsCut h level x y) (spelled_done _ cut t) (cut_is h level x y number is.admitted)

-- where a node is cut so: from the second version on, from level 2 on, and in what is coded whole
pub record IsStriped (h : Header) (level x y : ℕ) : Type 0 where
  pub version : 2 ≤ h.version
  pub level_2 : 2 ≤ level
  pub right : x + 2 * half_side level ≤ coded_width h
  pub below : y + 2 * half_side level ≤ coded_height h

pub striped_is : (h : Header) (level x y : ℕ) → admits_stripes h level x y ≡ true → IsStriped h level x y
unfolding admits_stripes
striped_is h level x y e =
    let (front, below) =
    and_parts (nat_le 2 h.version && nat_le 2 level && nat_le (x + 2 * half_side level) (coded_width h)) (nat_le (y + 2 * half_side level) (coded_height h)) e
    in
    let (first, right) = and_parts (nat_le 2 h.version && nat_le 2 level) (nat_le (x + 2 * half_side level) (coded_width h)) front in
    let (version, two) = and_parts (nat_le 2 h.version) (nat_le 2 level) first in
    record { version = leb-true 2 h.version version; level_2 = leb-true 2 level two; right = leb-true _ _ right; below = leb-true _ _ below }

-- the places behind one quarter of a node, two and three
pub behind_quarter : (k c : ℕ) → 4 * c + quarter_side (suc (suc k)) ≡ 4 * (c + 2 ^ k)
behind_quarter k c = omega (arith, pow-succ' 2 k, pow-succ' 2 (suc k))

pub behind_quarters : (m k c : ℕ) → 4 * c + m * quarter_side (suc (suc k)) ≡ 4 * (c + m * 2 ^ k)
behind_quarters m k c = behind m (2 ^ k) (quarter_side (suc (suc k))) c (omega (arith, pow-succ' 2 k, pow-succ' 2 (suc k)))
  where
    behind : (m n q c : ℕ) → q ≡ 4 * n → 4 * c + m * q ≡ 4 * (c + m * n)
    behind m n q c e = rw e (omega arith)
