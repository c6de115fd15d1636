-- The bytes of planes determine the sums of their samples.
use Rattle.std.proofs.Common.{◌≡◌, ℕ, ◌/◌, ◌%◌, Bool, true, false, ◌==◌, List, [], ◌∷◌, ◌++◌, length, refl, sym, ◌∙◌, append_assoc, append-nil, arith}
use Rattle.std.specs.Prelude.{if◌then◌else◌}
use Rattle.std.specs.List.{flat_map}
use Rattle.std.proofs.lemmas.List.{length-append}
use Rattle.std.proofs.lemmas.List.FromFn.{length-map-range_with_len}
use Rattle.av1_plan.specs.declared.header.Header.{Header}
use Rattle.av1_tile.specs.declared.extent.PlaneExtent.{PlaneExtent}
use Rattle.av1_tile.specs.Canvas.{Component, Y, U, V}
use Rattle.av1_lists.specs.Lists.{by_index}
use Rattle.av1_tile.specs.PlaneBlocks.{number, shown_of}
use Rattle.av1_tile.specs.Output.{by_rows, plane_bytes, visible}

-- the bytes of a sample: one, or the lower of two first
abbrev pub bytes_by : Bool → ℕ → List ℕ
bytes_by narrow v = if narrow then v ∷ [] else v % 256 ∷ v / 256 ∷ []

two_bytes : (x y : ℕ) → x % 256 ≡ y % 256 → x / 256 ≡ y / 256 → x ≡ y
two_bytes x y low high = omega (arith, low, high)

once : (narrow : Bool) (xs ys p q : List ℕ) → length xs ≡ length ys → flat_map (bytes_by narrow) xs ++ p ≡ flat_map (bytes_by narrow) ys ++ q →
    (xs ≡ ys) × (p ≡ q)
once narrow [] [] p q n e = (refl, e)
once narrow [] (y ∷ ys) p q n e = absurd (omega (arith, n))
once narrow (x ∷ xs) [] p q n e = absurd (omega (arith, n))
once true (x ∷ xs) (y ∷ ys) p q n e =
    let head : x ≡ y = cc in
    let tail : flat_map (bytes_by true) xs ++ p ≡ flat_map (bytes_by true) ys ++ q = cc in
    let (same, rest) = once true xs ys p q (omega (arith, n)) tail in
    (cc (head, same), rest)
once false (x ∷ xs) (y ∷ ys) p q n e =
    let low : x % 256 ≡ y % 256 = cc in
    let high : x / 256 ≡ y / 256 = cc in
    let tail : flat_map (bytes_by false) xs ++ p ≡ flat_map (bytes_by false) ys ++ q = cc in
    let (same, rest) = once false xs ys p q (omega (arith, n)) tail in
    let head : x ≡ y = two_bytes x y low high in
    (cc (head, same), rest)

same_length : (w : ℕ) (f g : ℕ → ℕ → ℕ) (rows : List ℕ) →
    length (flat_map (λ y. by_index w (λ x. f x y)) rows) ≡ length (flat_map (λ y. by_index w (λ x. g x y)) rows)
same_length w f g [] = refl
same_length w f g (y ∷ rows) =
    length-append (by_index w (λ x. f x y)) (flat_map (λ r. by_index w (λ x. f x r)) rows)
    ∙ cc (length-map-range_with_len (λ x. f x y) 0 w, length-map-range_with_len (λ x. g x y) 0 w, same_length w f g rows)
    ∙ sym (length-append (by_index w (λ x. g x y)) (flat_map (λ r. by_index w (λ x. g x r)) rows))

plane_once : (extent : PlaneExtent) (f g : ℕ → ℕ → ℕ) (p q : List ℕ) → plane_bytes extent f ++ p ≡ plane_bytes extent g ++ q →
    (by_rows extent f ≡ by_rows extent g) × (p ≡ q)
plane_once extent f g p q e =
    once (extent.depth == 8) (by_rows extent f) (by_rows extent g) p q (same_length extent.width f g (by_index extent.height (λ y. y))) e

planes_once : (h : Header) (f g : Component → ℕ → ℕ → ℕ) → visible h f ≡ visible h g
    → (by_rows (shown_of h 0) (f Y) ≡ by_rows (shown_of h 0) (g Y)) × (by_rows (shown_of h 1) (f U) ≡ by_rows (shown_of h 1) (g U)) ×
    (by_rows (shown_of h 2) (f V) ≡ by_rows (shown_of h 2) (g V))
unfolding visible
planes_once h f g e =
    let bytes : (Component → ℕ → ℕ → ℕ) → ℕ → Component → List ℕ = λ s n k. plane_bytes (shown_of h n) (s k) in
    let (y, rest) = plane_once (shown_of h 0) (f Y) (g Y) (bytes f 1 U ++ bytes f 2 V) (bytes g 1 U ++ bytes g 2 V)
    (sym (append_assoc (bytes f 0 Y) (bytes f 1 U) (bytes f 2 V)) ∙ e ∙ append_assoc (bytes g 0 Y) (bytes g 1 U) (bytes g 2 V)) in
    let (u, last) = plane_once (shown_of h 1) (f U) (g U) (bytes f 2 V) (bytes g 2 V) rest in
    let (v, none) = plane_once (shown_of h 2) (f V) (g V) [] [] (append-nil (bytes f 2 V) ∙ last ∙ sym (append-nil (bytes g 2 V))) in
    (y, u, v)

-- samples that are the same by their bytes are the same by their rows
pub same_rows : (h : Header) (f g : Component → ℕ → ℕ → ℕ) → visible h f ≡ visible h g → (k : Component) →
    by_rows (shown_of h (number k)) (f k) ≡ by_rows (shown_of h (number k)) (g k)
same_rows h f g e Y = (planes_once h f g e).0
same_rows h f g e U = (planes_once h f g e).1
same_rows h f g e V = (planes_once h f g e).2
