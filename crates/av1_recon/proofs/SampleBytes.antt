-- The bytes of samples, at each depth.
use Rattle.std.proofs.Common.{◌≡◌, ◌≢◌, ℕ, List, [], ◌∷◌, ◌++◌, map, refl, sym, ap, ◌∙◌, arith}
use Rattle.std.specs.List.{flat_map}
use Rattle.std.proofs.lemmas.Grind.{common_steps}
use Rattle.std.proofs.lemmas.List.Folds.{flat_map-map}
use Rattle.av1_tile.specs.Output.{sample_bytes}

-- one byte a sample
pub bytes_at_eight : {T : Type 0} (num : T → ℕ) (depth : ℕ) (samples : List T) → depth ≡ 8 →
    flat_map (λ s. sample_bytes 8 (num s)) samples ≡ flat_map (sample_bytes depth) (map num samples)
bytes_at_eight num depth samples e =
    sym (flat_map-map (sample_bytes 8) num samples) ∙ ap (λ (d : ℕ). flat_map (sample_bytes d) (map num samples)) (sym e)

two_bytes : (depth v : ℕ) → depth ≢ 8 → sample_bytes 16 v ≡ sample_bytes depth v
two_bytes depth v n = grind (arith, common_steps)

-- two bytes a sample
pub bytes_above_eight : {T : Type 0} (num : T → ℕ) (depth : ℕ) (samples : List T) → depth ≢ 8 →
    flat_map (λ s. sample_bytes 16 (num s)) samples ≡ flat_map (sample_bytes depth) (map num samples)
bytes_above_eight num depth [] n = refl
bytes_above_eight num depth (s ∷ samples) n =
    ap (λ l. sample_bytes 16 (num s) ++ l) (bytes_above_eight num depth samples n)
    ∙ ap (λ l. l ++ flat_map (sample_bytes depth) (map num samples)) (two_bytes depth (num s) n)
