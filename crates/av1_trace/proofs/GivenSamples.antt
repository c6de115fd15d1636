-- Bytes are those of the samples that they give.
use Rattle.std.proofs.Common.{◌≡◌, ℕ, zero, suc, ◌+◌, ◌*◌, ◌/◌, ◌%◌, ◌^◌, ◌<◌, Bool, true, false, ◌==◌, All, List, [], ◌∷◌, ◌++◌, length, map, get_or, refl}
use Rattle.std.proofs.Common.{sym, ap, ◌∙◌, arith}
use Rattle.std.specs.Prelude.{if◌then◌else◌}
use mathlib.Core.Path.{fun_ext}
use Rattle.std.specs.List.{flat_map, range_with_len}
use Rattle.std.proofs.lemmas.Grind.{flat_map-append}
use Rattle.std.proofs.lemmas.List.{map-append}
use Rattle.std.proofs.lemmas.List.Folds.{flat_map-map}
use Rattle.std.proofs.Math.Nat.{mul_comm}
use Rattle.av1_lists.specs.Lists.{by_index}
use Rattle.av1_lists.proofs.Ranges.{range-append}
use Rattle.av1_plan.specs.declared.header.Header.{Header}
use Rattle.av1_plan.specs.Geometry.{shown_rows, plane_len, shown_columns}
use Rattle.av1_recon.proofs.SamplesByBytes.{bytes_by}
use Rattle.av1_streams.specs.Streams.{AreBytes}
use Rattle.av1_tile.specs.Output.{by_rows, plane_bytes, sample_bytes, visible}
use Rattle.av1_tile.specs.PlaneBlocks.{shown_of, number}
use Rattle.av1_trace.specs.Samples.{given, planes_len, sample_from, sample_len, samples_before}

-- ---- samples one after the other

abbrev from_by : Bool → List ℕ → ℕ → ℕ
from_by narrow bytes i = if narrow then get_or bytes i 0 else get_or bytes (2 * i) 0 + 256 * get_or bytes (2 * i + 1) 0

abbrev len_by : Bool → ℕ
len_by narrow = if narrow then 1 else 2

-- numbers from one place on are those from another, moved
pub moved : {A : Type 0} (f : ℕ → A) (b k n : ℕ) → map (λ i. f (b + i)) (range_with_len k n) ≡ map f (range_with_len (b + k) n)
moved f b k zero = refl
moved f b k (suc n) =
    let next : b + (k + 1) ≡ b + k + 1 = omega arith in
    ap (λ l. f (b + k) ∷ l) (moved f b (k + 1) n ∙ ap (λ (z : ℕ). map f (range_with_len z n)) next)

later_narrow : (b : ℕ) (rest : List ℕ) (i : ℕ) → from_by true (b ∷ rest) (1 + i) ≡ from_by true rest i
later_narrow b rest i =
    let next : 1 + i ≡ suc i = omega arith in
    ap (λ (z : ℕ). get_or (b ∷ rest) z 0) next

two_on : (low high : ℕ) (rest : List ℕ) (j k : ℕ) → j ≡ suc (suc k) → get_or (low ∷ high ∷ rest) j 0 ≡ get_or rest k 0
two_on low high rest j k e = ap (λ (z : ℕ). get_or (low ∷ high ∷ rest) z 0) e

later_wide : (low high : ℕ) (rest : List ℕ) (i : ℕ) → from_by false (low ∷ high ∷ rest) (1 + i) ≡ from_by false rest i
later_wide low high rest i =
    ap (λ (v : ℕ). v + 256 * get_or (low ∷ high ∷ rest) (2 * (1 + i) + 1) 0) (two_on low high rest (2 * (1 + i)) (2 * i) (omega arith))
    ∙ ap (λ (v : ℕ). get_or rest (2 * i) 0 + 256 * v) (two_on low high rest (2 * (1 + i) + 1) (2 * i + 1) (omega arith))

-- what stands behind the first sample
behind : (f g : ℕ → ℕ) (n : ℕ) → ((i : ℕ) → f (1 + i) ≡ g i) → map f (range_with_len 1 n) ≡ by_index n g
behind f g n e = sym (moved f 1 0 n) ∙ ap (λ (k : ℕ → ℕ). by_index n k) (fun_ext e)

first_byte : (b : ℕ) (bytes : List ℕ) → All (λ byte. byte < 2 ^ 8) (b ∷ bytes) → b < 256
first_byte b bytes all = all 0 0 (omega arith)

rest_bytes : (b : ℕ) (bytes : List ℕ) → All (λ byte. byte < 2 ^ 8) (b ∷ bytes) → All (λ byte. byte < 2 ^ 8) bytes
rest_bytes b bytes all i d l = all (suc i) d (omega arith)

low_of : (low high : ℕ) → low < 256 → (low + 256 * high) % 256 ≡ low
low_of low high l = omega arith

high_of : (low high : ℕ) → low < 256 → (low + 256 * high) / 256 ≡ high
high_of low high l = omega arith

spelled_by : (narrow : Bool) (n : ℕ) (bytes : List ℕ) → length bytes ≡ len_by narrow * n → All (λ byte. byte < 2 ^ 8) bytes →
    flat_map (bytes_by narrow) (by_index n (from_by narrow bytes)) ≡ bytes
spelled_by true zero [] e all = refl
spelled_by true zero (b ∷ bytes) e all = absurd (omega (arith, e))
spelled_by true (suc n) [] e all = absurd (omega (arith, e))
spelled_by true (suc n) (b ∷ bytes) e all =
    ap (λ l. b ∷ flat_map (bytes_by true) l) (behind (from_by true (b ∷ bytes)) (from_by true bytes) n (later_narrow b bytes))
    ∙ ap (λ l. b ∷ l) (spelled_by true n bytes (omega (arith, e)) (rest_bytes b bytes all))
spelled_by false zero [] e all = refl
spelled_by false zero (b ∷ bytes) e all = absurd (omega (arith, e))
spelled_by false (suc n) [] e all = absurd (omega (arith, e))
spelled_by false (suc n) (low ∷ []) e all = absurd (omega (arith, e))
spelled_by false (suc n) (low ∷ high ∷ bytes) e all =
    let narrow = first_byte low (high ∷ bytes) all in
    ap (λ l. (low + 256 * high) % 256 ∷ (low + 256 * high) / 256 ∷ flat_map (bytes_by false) l)
    (behind (from_by false (low ∷ high ∷ bytes)) (from_by false bytes) n (later_wide low high bytes))
    ∙ ap (λ (v : ℕ). v ∷ (low + 256 * high) / 256 ∷ flat_map (bytes_by false) (by_index n (from_by false bytes))) (low_of low high narrow)
    ∙ ap (λ (v : ℕ). low ∷ v ∷ flat_map (bytes_by false) (by_index n (from_by false bytes))) (high_of low high narrow)
    ∙ ap (λ l. low ∷ high ∷ l) (spelled_by false n bytes (omega (arith, e)) (rest_bytes high bytes (rest_bytes low (high ∷ bytes) all)))

-- bytes are those of their samples
spelled : (depth n : ℕ) (bytes : List ℕ) → length bytes ≡ sample_len depth * n → AreBytes bytes →
    flat_map (sample_bytes depth) (by_index n (sample_from depth bytes)) ≡ bytes
unfolding sample_len sample_from
spelled depth n bytes e all = spelled_by (depth == 8) n bytes e all

-- ---- rows of a plane

added_on : (b c x : ℕ) → b + (c + x) ≡ b + c + x
added_on b c x = omega arith

rows_from : (f : ℕ → ℕ) (b w a h : ℕ) → flat_map (λ y. by_index w (λ x. f (b + (y * w + x)))) (range_with_len a h) ≡ map f (range_with_len (b + a * w) (h * w))
rows_from f b w a zero =
    let none : 0 * w ≡ 0 = omega arith in
    sym (ap (λ (z : ℕ). map f (range_with_len (b + a * w) z)) none)
rows_from f b w a (suc h) =
    let next : b + a * w + w ≡ b + (a + 1) * w = omega arith in
    let whole : w + h * w ≡ suc h * w = omega arith in
    let start : b + a * w + 0 ≡ b + a * w = omega arith in
    let first : by_index w (λ x. f (b + (a * w + x))) ≡ map f (range_with_len (b + a * w) w) =
    ap (λ (g : ℕ → ℕ). by_index w g) (fun_ext (λ x. ap f (added_on b (a * w) x))) ∙ moved f (b + a * w) 0 w ∙ ap (λ (z : ℕ). map f (range_with_len z w)) start
    in
    ap (λ l. l ++ flat_map (λ y. by_index w (λ x. f (b + (y * w + x)))) (range_with_len (a + 1) h)) first
    ∙ ap (λ l. map f (range_with_len (b + a * w) w) ++ l) (rows_from f b w (a + 1) h ∙ ap (λ (z : ℕ). map f (range_with_len z (h * w))) (sym next))
    ∙ sym (map-append f (range_with_len (b + a * w) w) (range_with_len (b + a * w + w) (h * w)))
    ∙ ap (map f) (sym (range-append (b + a * w) w (h * w)) ∙ ap (range_with_len (b + a * w)) whole)

-- ---- planes

-- the samples that bytes give in a plane stand there one after the other
plane_given : (h : Header) (bytes : List ℕ) (p : ℕ) →
    by_rows (shown_of h p) (given h bytes p) ≡ map (sample_from h.depth bytes) (range_with_len (samples_before h p) (plane_len h p))
plane_given h bytes p =
    let f = sample_from h.depth bytes in
    let b = samples_before h p in
    let w = shown_columns h p in
    let line : ℕ → List ℕ = λ y. by_index w (λ x. f (b + (y * w + x))) in
    let start : b + 0 * w ≡ b = omega arith in
    flat_map-map line (λ y. y) (range_with_len 0 (shown_rows h p)) ∙ rows_from f b w 0 (shown_rows h p)
    ∙ ap (λ (z : ℕ). map f (range_with_len z (shown_rows h p * w))) start
    ∙ ap (λ (z : ℕ). map f (range_with_len b z)) (mul_comm (shown_rows h p) w)

-- one plane more
plane_more : (h : Header) (f : ℕ → ℕ) (p : ℕ) → map f (range_with_len 0 (samples_before h p)) ++ map f (range_with_len (samples_before h p) (plane_len h p)) ≡
    map f (range_with_len 0 (samples_before h (suc p)))
unfolding samples_before
plane_more h f p =
    let none : 0 + samples_before h p ≡ samples_before h p = omega arith in
    sym (map-append f (range_with_len 0 (samples_before h p)) (range_with_len (samples_before h p) (plane_len h p)))
    ∙ ap (map f) (ap (λ (z : ℕ). range_with_len 0 (samples_before h p) ++ range_with_len z (plane_len h p)) (sym none)
    ∙ sym (range-append 0 (samples_before h p) (plane_len h p)))

no_samples : (h : Header) (f : ℕ → ℕ) → map f (range_with_len 0 (samples_before h 0)) ≡ []
unfolding samples_before
no_samples h f = refl

-- bytes of the right length are those of the samples that they give
pub given_bytes : (h : Header) (bytes : List ℕ) → length bytes ≡ planes_len h → AreBytes bytes → visible h (λ k x y. given h bytes (number k) x y) ≡ bytes
unfolding visible planes_len
given_bytes h bytes e all =
    let f = sample_from h.depth bytes in
    let s = sample_bytes h.depth in
    let r : ℕ → List ℕ = λ p. map f (range_with_len (samples_before h p) (plane_len h p)) in
    let front : ℕ → List ℕ = λ p. map f (range_with_len 0 (samples_before h p)) in
    let y : plane_bytes (shown_of h 0) (given h bytes 0) ≡ flat_map s (r 0) = ap (flat_map s) (plane_given h bytes 0) in
    let u : plane_bytes (shown_of h 1) (given h bytes 1) ≡ flat_map s (r 1) = ap (flat_map s) (plane_given h bytes 1) in
    let v : plane_bytes (shown_of h 2) (given h bytes 2) ≡ flat_map s (r 2) = ap (flat_map s) (plane_given h bytes 2) in
    let one : r 0 ≡ front 1 = ap (λ l. l ++ r 0) (sym (no_samples h f)) ∙ plane_more h f 0 in
    let two : front 1 ++ r 1 ≡ front 2 = plane_more h f 1 in
    let three : front 2 ++ r 2 ≡ front 3 = plane_more h f 2 in
    ap (λ l. l ++ plane_bytes (shown_of h 1) (given h bytes 1) ++ plane_bytes (shown_of h 2) (given h bytes 2)) y
    ∙ ap (λ l. flat_map s (r 0) ++ l ++ plane_bytes (shown_of h 2) (given h bytes 2)) u
    ∙ ap (λ l. flat_map s (r 0) ++ flat_map s (r 1) ++ l) v
    ∙ sym (ap (λ l. l ++ flat_map s (r 2)) (flat_map-append s (r 0) (r 1)))
    ∙ sym (flat_map-append s (r 0 ++ r 1) (r 2))
    ∙ ap (flat_map s) (ap (λ l. l ++ r 1 ++ r 2) one ∙ ap (λ l. l ++ r 2) two ∙ three)
    ∙ spelled h.depth (samples_before h 3) bytes e all
