-- What is asked for after some fields.
use Rattle.std.proofs.Common.{◌≡◌, ℕ, List, [], ◌∷◌, ◌++◌, refl, sym, ap, subst, ◌∙◌, append_assoc}
use Rattle.std.specs.Int.{to_le_bytes}
use Rattle.av1_plan.specs.Format.{width, Format, done, asks, ◌>>=◌}
use Rattle.av1_plan.specs.Spelling.{Spells, IsProper, text}
use Rattle.av1_planwrite.specs.Asked.{After}

pub after_both : {A : Type 0} (f g k : Format A) (vs ws : List ℕ) → After f vs g → After g ws k →
    After f (vs ++ ws) k × (text f (vs ++ ws) ≡ text f vs ++ text g ws)
after_both f g k [] ws a b = (subst (λ (e : Format _). After e ws k) (sym a) b, ap (λ (e : Format _). text e ws) a)
after_both (done x) g k (v ∷ vs) ws a b = absurd a
after_both (asks kind next) g k (v ∷ vs) ws a b =
    let (c, d) = after_both (next v) g k vs ws a.1 b in (
      (a.0, c),
      ap (λ (us : List ℕ). to_le_bytes (width kind.size) v ++ us) d
          ∙ sym (append_assoc (to_le_bytes (width kind.size) v) (text (next v) vs) (text g ws)),
    )

-- after a format that is spelled comes what its value decides
pub after_spelled : {A B : Type 0} (f : Format A) (g : A → Format B) (x : A) (vs : List ℕ) → Spells f vs x →
    After (f >>= g) vs (g x) × (text (f >>= g) vs ≡ text f vs)
after_spelled (done y) g x [] s = (ap g s, refl)
after_spelled (done y) g x (v ∷ vs) s = absurd s
after_spelled (asks kind next) g x [] s = absurd s
after_spelled (asks kind next) g x (v ∷ vs) s =
    let (a, b) = after_spelled (next v) g x vs s.1 in
    ((s.0, a), ap (λ (us : List ℕ). to_le_bytes (width kind.size) v ++ us) b)

-- the values are a proper list
pub after_proper : {A : Type 0} (f g : Format A) (vs : List ℕ) → After f vs g → IsProper f vs
after_proper f g [] a = tt
after_proper (done x) g (v ∷ vs) a = absurd a
after_proper (asks kind next) g (v ∷ vs) a = (a.0, after_proper (next v) g vs a.1)

-- where nothing is asked for after them, they spell a value
pub after_complete : {A : Type 0} (f : Format A) (x : A) (vs : List ℕ) → After f vs (done x) → Spells f vs x
after_complete f x [] a = subst (λ (e : Format _). Spells e [] x) (sym a) refl
after_complete (done y) x (v ∷ vs) a = absurd a
after_complete (asks kind next) x (v ∷ vs) a = (a.0, after_complete (next v) x vs a.1)
