-- The samples of a plane that is told row by row, by their places.
use Rattle.std.proofs.Common.{ℕ, zero, suc, ◌+◌, ◌*◌, ◌<◌, ◌≡◌, ◌∙◌, List, [], ◌∷◌, ◌++◌, length, get_or, All, refl, ap, sym, subst, arith, slice_index}
use Rattle.std.specs.List.{flat_map}
use Rattle.std.proofs.lemmas.List.Elements.{All-append}
use Rattle.std.proofs.lemmas.List.{get_or_append_left, get_or-append-add, length-append}
use Rattle.av1_lists.specs.Lists.{by_index}
use Rattle.av1_lists.proofs.Lists.{get_or-by_index, length-by_index, by_index-all, by_index-same}
use Rattle.av1_tile.specs.declared.extent.PlaneExtent.{PlaneExtent}
use Rattle.av1_tile.specs.Output.{by_rows}

module _ {A : Type 0} (w : ℕ) (row : ℕ → List A) (wide : (y : ℕ) → length (row y) ≡ w) where
  rows_length : (ys : List ℕ) → length (flat_map row ys) ≡ length ys * w
  rows_length [] = omega arith
  rows_length (y ∷ ys) = length-append (row y) (flat_map row ys) ∙ omega (arith, wide y, rows_length ys)

  rows_at : (ys : List ℕ) (y x e : ℕ) (d : A) → y < length ys → x < w → get_or (flat_map row ys) (y * w + x) d ≡ get_or (row (get_or ys y e)) x d
  rows_at [] y x e d below inside = absurd (omega (arith, below))
  rows_at (z ∷ ys) zero x e d below inside = ap (λ (k : ℕ). get_or (row z ++ flat_map row ys) k d) (let k : 0 * w + x ≡ x = omega arith in k)
      ∙ get_or_append_left (row z) (flat_map row ys) d x (omega (arith, inside, wide z))
  rows_at (z ∷ ys) (suc y) x e d below inside =
      ap (λ (k : ℕ). get_or (row z ++ flat_map row ys) k d) (let k : suc y * w + x ≡ length (row z) + (y * w + x) = omega (arith, wide z) in k)
      ∙ get_or-append-add (row z) (flat_map row ys) (y * w + x) d ∙ rows_at ys y x e d (omega (arith, below)) inside

counted : (n y d : ℕ) → y < n → get_or (by_index n (λ y. y)) y d ≡ y
counted n y d lt = get_or-by_index n (λ y. y) y d lt

-- the sample at column x of row y
pub sample_in : (extent : PlaneExtent) (f : ℕ → ℕ → ℕ) (x y : ℕ) → x < extent.width → y < extent.height →
    slice_index (by_rows extent f) (y * extent.width + x) ≡ f x y
sample_in extent f x y hx hy =
    let row : ℕ → List ℕ = λ y. by_index extent.width (λ x. f x y) in
    rows_at extent.width row (λ y. length-by_index extent.width (λ x. f x y))
    (by_index extent.height (λ y. y)) y x 0 0 (omega (arith, length-by_index extent.height (λ (y : ℕ). y), hy)) hx
    ∙ ap (λ (k : ℕ). get_or (row k) x 0) (counted extent.height y 0 hy) ∙ get_or-by_index extent.width (λ x. f x y) x 0 hx

-- how many samples there are
pub samples_count : (extent : PlaneExtent) (f : ℕ → ℕ → ℕ) → length (by_rows extent f) ≡ extent.height * extent.width
samples_count extent f =
    rows_length extent.width (λ y. by_index extent.width (λ x. f x y)) (λ y. length-by_index extent.width (λ x. f x y)) (by_index extent.height (λ y. y))
    ∙ ap (λ (n : ℕ). n * extent.width) (length-by_index extent.height (λ (y : ℕ). y))

rows_all : {A : Type 0} (P : A → Type 0) (row : ℕ → List A) (ys : List ℕ) → ((k d : ℕ) → k < length ys → All P (row (get_or ys k d))) → All P (flat_map row ys)
rows_all P row [] all = λ k d lt. absurd (omega (arith, lt))
rows_all P row (y ∷ ys) all = All-append P (row y) (flat_map row ys) (all 0 y (omega arith)) (rows_all P row ys (λ k d lt. all (suc k) d (omega (arith, lt))))

-- what holds of each visible sample holds of all
pub samples_all : (P : ℕ → Type 0) (extent : PlaneExtent) (f : ℕ → ℕ → ℕ) → ((x y : ℕ) → x < extent.width → y < extent.height → P (f x y)) →
    All P (by_rows extent f)
samples_all P extent f all =
    rows_all P (λ y. by_index extent.width (λ x. f x y)) (by_index extent.height (λ y. y))
    (λ k d lt.
    let below : k < extent.height = omega (arith, lt, length-by_index extent.height (λ (y : ℕ). y)) in
    subst (λ (y : ℕ). All P (by_index extent.width (λ x. f x y))) (sym (counted extent.height k d below))
    (by_index-all P extent.width (λ x. f x k) (λ x hx. all x k hx below)))

rows_same : {A : Type 0} (f g : ℕ → List A) (ys : List ℕ) → ((k d : ℕ) → k < length ys → f (get_or ys k d) ≡ g (get_or ys k d)) → flat_map f ys ≡ flat_map g ys
rows_same f g [] same = refl
rows_same f g (y ∷ ys) same = ap (λ (xs : List _). xs ++ flat_map f ys) (same 0 y (omega arith))
    ∙ ap (λ (xs : List _). g y ++ xs) (rows_same f g ys (λ k d lt. same (suc k) d (omega (arith, lt))))

-- planes that agree at each visible sample show the same
pub samples_same : (extent : PlaneExtent) (f g : ℕ → ℕ → ℕ) → ((x y : ℕ) → x < extent.width → y < extent.height → f x y ≡ g x y) →
    by_rows extent f ≡ by_rows extent g
samples_same extent f g same =
    rows_same (λ y. by_index extent.width (λ x. f x y)) (λ y. by_index extent.width (λ x. g x y)) (by_index extent.height (λ y. y))
    (λ k d lt.
    let below : k < extent.height = omega (arith, lt, length-by_index extent.height (λ (y : ℕ). y)) in
    ap (λ (y : ℕ). by_index extent.width (λ x. f x y)) (counted extent.height k d below)
    ∙ by_index-same extent.width (λ x. f x k) (λ x. g x k) (λ x hx. same x k hx below)
    ∙ ap (λ (y : ℕ). by_index extent.width (λ x. g x y)) (sym (counted extent.height k d below)))
