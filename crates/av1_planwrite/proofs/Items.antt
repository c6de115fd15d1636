-- Lists told item by item.
use Rattle.std.proofs.Common.{◌≡◌, ℕ, ◌+◌, ◌<◌, ◌^◌, max, Bool, true, false, ◌&&◌, List, [], ◌∷◌, ◌++◌, length, take, get_or, refl, sym, ap, ◌∙◌, arith}
use Rattle.std.specs.Prelude.{nat_lt}
use Rattle.std.specs.List.{list_all}
use Rattle.std.proofs.lemmas.Bool.{lt-ltb, eq-eqb}
use Rattle.std.proofs.lemmas.List.{take_more}
use Rattle.std.proofs.lemmas.Nat.{pow_pos}
use Rattle.av1_plan.specs.declared.header.Header.{Header}
use Rattle.av1_plan.specs.Geometry.{plane_len}
use Rattle.av1_planwrite.specs.Building.{admits_plane}
use Rattle.av1_planwrite.specs.Samples.{greatest}

all_behind : (t : ℕ → Bool) (xs : List ℕ) (x : ℕ) → list_all t (xs ++ x ∷ []) ≡ (list_all t xs && t x)
all_behind t [] x = one (t x)
  where
    one : (b : Bool) → (b && true) ≡ (true && b)
    one true = refl
    one false = refl
all_behind t (y ∷ xs) x = rw (all_behind t xs x) (assoc (t y) (list_all t xs) (t x))
  where
    assoc : (a b c : Bool) → (a && (b && c)) ≡ (a && b && c)
    assoc true b c = refl
    assoc false b c = refl

pub all_more : (t : ℕ → Bool) (xs : List ℕ) (i d : ℕ) → i < length xs → list_all t (take (i + 1) xs) ≡ (list_all t (take i xs) && t (get_or xs i d))
all_more t xs i d lt = ap (list_all t) (take_more xs i d lt) ∙ all_behind t (take i xs) (get_or xs i d)

greatest_behind : (xs : List ℕ) (x : ℕ) → greatest (xs ++ x ∷ []) ≡ max (greatest xs) x
greatest_behind [] x = omega arith
greatest_behind (y ∷ xs) x = let e = greatest_behind xs x in omega (arith, e)

pub greatest_more : (xs : List ℕ) (i d : ℕ) → i < length xs → greatest (take (i + 1) xs) ≡ max (greatest (take i xs)) (get_or xs i d)
greatest_more xs i d lt = ap greatest (take_more xs i d lt) ∙ greatest_behind (take i xs) (get_or xs i d)

pub some_bound : (d : ℕ) → 0 < 2 ^ d
some_bound d = pow_pos d

-- all lie below a bound where the greatest does
pub all_below_bound : (n : ℕ) → 0 < n → (xs : List ℕ) → list_all (λ x. nat_lt x n) xs ≡ nat_lt (greatest xs) n
all_below_bound n some [] = sym (lt-ltb 0 n some)
all_below_bound n some (x ∷ xs) = rw (all_below_bound n some xs) (both x (greatest xs))
  where
    both : (a b : ℕ) → (nat_lt a n && nat_lt b n) ≡ nat_lt (max a b) n
    both a b = grind arith

-- the samples of a plane, as many as it has
pub plane_is : (h : Header) (plane : ℕ) (samples : List ℕ) → length samples ≡ plane_len h plane →
    admits_plane h plane samples ≡ nat_lt (greatest samples) (2 ^ h.depth)
unfolding admits_plane
plane_is h plane samples e = rw (eq-eqb (length samples) (plane_len h plane) e) (all_below_bound (2 ^ h.depth) (some_bound h.depth) samples)

pub ruleset items = (all_more, greatest_more)
