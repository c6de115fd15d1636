-- Two places of a list of words that become a clamped sum and difference, lane by lane.
use Rattle.std.proofs.Common.{refl, zero, suc, [], ◌∷◌, ◌⊎◌, inl, inr, ℕ, ◌≡◌, ◌≤◌, Bool, true, false, ℤ, ◌+ℤ◌, ◌-ℤ◌, List, set, arith, ap}
use Rattle.std.proofs.Common.{sym, subst, ◌∙◌}
use Rattle.std.proofs.lemmas.Int.{ints}
use Rattle.std.proofs.lemmas.List.{map-set}
use Rattle.av1_dct.specs.Arithmetic.{AllFit, FitsBits, at, clamp_value}
use Rattle.av1_dct.specs.Word.{column}
use Rattle.av1_dct.specs.InPlace.{paired}
use Rattle.av1_dct.proofs.Fits.{clamp_value-fits}

column_sets : {W : Type 0} (lane : W → ℕ → ℤ) (i p e : ℕ) (v : List W) (a b : W) (x y : ℤ) → lane a i ≡ x → lane b i ≡ y →
    column lane i (set (set v p a) e b) ≡ set (set (column lane i v) p x) e y
column_sets {W} lane i p e v a b x y ea eb =
    let f = λ (w : W). lane w i in
    map-set f (set v p a) e b
    ∙ ap (λ zs. set zs e (f b)) (map-set f v p a)
    ∙ ap (λ z. set (set (column lane i v) p z) e (f b)) ea
    ∙ ap (λ z. set (set (column lane i v) p x) e z) eb

pub put_odd : {W : Type 0} (lane : W → ℕ → ℤ) (i range p e : ℕ) (x y : ℤ) (v : List W) (a b : W) (odd : Bool) → odd ≡ true →
    lane a i ≡ clamp_value (y -ℤ x) range → lane b i ≡ clamp_value (x +ℤ y) range
    → column lane i (set (set v p a) e b) ≡ paired odd range p e x y (column lane i v)
put_odd lane i range p e x y v a b true is ea eb = let swap : x +ℤ y ≡ y +ℤ x = omega (arith, ints)
    in column_sets lane i p e v a b _ _ ea (eb ∙ ap (λ z. clamp_value z range) swap)
put_odd lane i range p e x y v a b false is ea eb = absurd (let t : false ≡ true = is in cc)

pub put_even : {W : Type 0} (lane : W → ℕ → ℤ) (i range p e : ℕ) (x y : ℤ) (v : List W) (a b : W) (odd : Bool) → odd ≡ false →
    lane a i ≡ clamp_value (x +ℤ y) range → lane b i ≡ clamp_value (x -ℤ y) range
    → column lane i (set (set v p a) e b) ≡ paired odd range p e x y (column lane i v)
put_even lane i range p e x y v a b false is ea eb = column_sets lane i p e v a b _ _ ea eb
put_even lane i range p e x y v a b true is ea eb = absurd (let t : true ≡ false = is in cc)

set_cases : (zs : List ℤ) (p i : ℕ) (x : ℤ) → (at (set zs p x) i ≡ x) ⊎ (at (set zs p x) i ≡ at zs i)
set_cases [] p i x = inr refl
set_cases (z ∷ zs) zero zero x = inl refl
set_cases (z ∷ zs) zero (suc i) x = inr refl
set_cases (z ∷ zs) (suc p) zero x = inr refl
set_cases (z ∷ zs) (suc p) (suc i) x = set_cases zs p i x

set-fits : (zs : List ℤ) (p : ℕ) (x : ℤ) → AllFit 20 zs → FitsBits 20 x → AllFit 20 (set zs p x)
set-fits zs p x fit here = λ i.
    let P : ℤ → Type 0 = λ z. FitsBits 20 z in
    elim (set_cases zs p i x) [
      | inl e ↦ subst P (sym e) here
      | inr e ↦ subst P (sym e) (fit i)
    ]

pub paired-fits : (odd : Bool) (range p e : ℕ) (x y : ℤ) (zs : List ℤ) → range ≤ 20 → AllFit 20 zs → AllFit 20 (paired odd range p e x y zs)
paired-fits true range p e x y zs few fit = set-fits _ e _ (set-fits zs p _ fit (clamp_value-fits _ range few)) (clamp_value-fits _ range few)
paired-fits false range p e x y zs few fit = set-fits _ e _ (set-fits zs p _ fit (clamp_value-fits _ range few)) (clamp_value-fits _ range few)
