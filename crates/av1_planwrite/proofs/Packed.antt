-- Samples as bytes, at each depth and piece by piece.
use Rattle.std.proofs.Common.{◌≡◌, ◌≢◌, ℕ, ◌+◌, ◌*◌, ◌≤◌, Bool, true, false, List, [], ◌∷◌, ◌++◌, length, take, drop, refl, sym, ap, ◌∙◌, append_assoc, arith}
use Rattle.std.specs.Prelude.{◌==◌}
use Rattle.std.specs.List.{flat_map}
use Rattle.std.proofs.lemmas.Bool.{eqb-true, eqb-false}
use Rattle.std.proofs.lemmas.Grind.{common_steps, flat_map-append}
use Rattle.std.proofs.lemmas.List.{append-nil}
use lib.Seq.{take-add}
use Rattle.av1_planwrite.specs.Text.{sample_text, plane_text}

-- one byte a sample
pub at_eight : (depth : ℕ) (samples : List ℕ) → depth ≡ 8 → flat_map (sample_text 8) samples ≡ plane_text depth samples
unfolding plane_text
at_eight depth samples e = ap (λ (d : ℕ). flat_map (sample_text d) samples) (sym e)

two_bytes : (depth v : ℕ) → depth ≢ 8 → sample_text 16 v ≡ sample_text depth v
two_bytes depth v n = grind (arith, common_steps)

-- two bytes a sample
pub above_eight : (depth : ℕ) (samples : List ℕ) → depth ≢ 8 → flat_map (sample_text 16) samples ≡ plane_text depth samples
unfolding plane_text
above_eight depth [] n = refl
above_eight depth (s ∷ samples) n =
    ap (λ (l : List ℕ). sample_text 16 s ++ l) (above_eight depth samples n)
    ∙ ap (λ (l : List ℕ). l ++ flat_map (sample_text depth) samples) (two_bytes depth s n)

-- ---- how many bytes samples have

one_each : (samples : List ℕ) → length (flat_map (sample_text 8) samples) ≡ length samples
one_each [] = refl
one_each (s ∷ samples) = omega (arith, one_each samples)

two_each : (samples : List ℕ) → length (flat_map (sample_text 16) samples) ≡ 2 * length samples
two_each [] = refl
two_each (s ∷ samples) = omega (arith, two_each samples)

pub length_at_eight : (depth : ℕ) (samples : List ℕ) → depth ≡ 8 → length (plane_text depth samples) ≡ length samples
length_at_eight depth samples e = ap length (sym (at_eight depth samples e)) ∙ one_each samples

pub length_above_eight : (depth : ℕ) (samples : List ℕ) → depth ≢ 8 → length (plane_text depth samples) ≡ 2 * length samples
length_above_eight depth samples n = ap length (sym (above_eight depth samples n)) ∙ two_each samples

pub at_most_two : (depth : ℕ) (samples : List ℕ) → length (plane_text depth samples) ≤ 2 * length samples
at_most_two depth samples = by (depth == 8) refl
  where
    by : (b : Bool) → (depth == 8) ≡ b → length (plane_text depth samples) ≤ 2 * length samples
    by true e = omega (arith, length_at_eight depth samples (eqb-true depth 8 e))
    by false e = omega (arith, length_above_eight depth samples (eqb-false depth 8 e))

pub ruleset lengths = (length_at_eight, length_above_eight, at_most_two)

-- ---- pieces

-- no samples yet
pub none_written : (depth : ℕ) (samples bytes : List ℕ) → bytes ≡ bytes ++ plane_text depth (take 0 samples)
unfolding plane_text
none_written depth samples bytes = sym (append-nil bytes)

-- after the samples before a place, those of the next piece
pub piece_written : (depth : ℕ) (samples start now new : List ℕ) (at n count : ℕ) (bytes : List ℕ) → n ≡ count →
    now ≡ start ++ plane_text depth (take at samples)
    → bytes ≡ plane_text depth (take n (drop at samples)) → new ≡ now ++ bytes → new ≡ start ++ plane_text depth (take (at + count) samples)
unfolding plane_text
piece_written depth samples start now new at n count bytes same before piece next =
    let text = flat_map (sample_text depth) in
    let front : now ++ bytes ≡ start ++ text (take at samples) ++ text (take n (drop at samples)) = rw (before, piece) refl in
    next ∙ front ∙ append_assoc start (text (take at samples)) (text (take n (drop at samples)))
    ∙ ap (λ (l : List ℕ). start ++ l) (sym (flat_map-append (sample_text depth) (take at samples) (take n (drop at samples)))
    ∙ ap text (sym (take-add at n samples) ∙ ap (λ (k : ℕ). take (at + k) samples) same))
