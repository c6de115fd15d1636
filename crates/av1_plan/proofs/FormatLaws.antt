-- Laws of formats: what a format goes on with, and formats of lists, one behind the other.
use Rattle.std.proofs.Common.{◌≡◌, List, ◌++◌, refl, sym, ap, ◌∙◌, append_assoc}
use mathlib.Core.Path.{fun_ext}
use Rattle.av1_plan.specs.Format.{Format, done, asks, ◌>>=◌, nothing, ◌++>◌}

-- ---- formats one behind the other

pub bind_assoc : {A B C : Type 0} (f : Format A) (g : A → Format B) (k : B → Format C) → (f >>= g) >>= k ≡ f >>= (λ x. g x >>= k)
bind_assoc (done x) g k = refl
bind_assoc (asks kind next) g k = ap (asks kind) (fun_ext (λ v. bind_assoc (next v) g k))

pub bind_same : {A B : Type 0} (f : Format A) (g k : A → Format B) → ((x : A) → g x ≡ k x) → f >>= g ≡ f >>= k
bind_same f g k same = ap (λ (m : _). f >>= m) (fun_ext same)

pub bind_done : {A : Type 0} (f : Format A) → f >>= (λ x. done x) ≡ f
bind_done (done x) = refl
bind_done (asks kind next) = ap (asks kind) (fun_ext (λ v. bind_done (next v)))

-- ---- formats of lists

pub nothing_before : {A : Type 0} (f : Format (List A)) → nothing ++> f ≡ f
nothing_before f = bind_done f

pub both_assoc : {A : Type 0} (f g k : Format (List A)) → f ++> g ++> k ≡ f ++> (g ++> k)
both_assoc {A} f g k =
    bind_assoc f (λ xs. g >>= λ ys. done (xs ++ ys)) (λ us. k >>= λ zs. done (us ++ zs))
    ∙ bind_same f (λ xs. (g >>= λ ys. done (xs ++ ys)) >>= λ us. k >>= λ zs. done (us ++ zs)) (λ xs. (g ++> k) >>= λ ws. done (xs ++ ws)) (λ xs.
    bind_assoc g (λ ys. done (xs ++ ys)) (λ us. k >>= λ zs. done (us ++ zs))
    ∙ bind_same g (λ ys. k >>= λ zs. done (xs ++ ys ++ zs)) (λ ys. (k >>= λ zs. done (ys ++ zs)) >>= λ ws. done (xs ++ ws)) (λ ys.
    bind_same k (λ zs. done (xs ++ ys ++ zs)) (λ zs. done (xs ++ (ys ++ zs))) (λ zs. ap (λ (ws : List A). done ws) (append_assoc xs ys zs))
    ∙ sym (bind_assoc k (λ zs. done (ys ++ zs)) (λ ws. done (xs ++ ws))))
    ∙ sym (bind_assoc g (λ ys. k >>= λ zs. done (ys ++ zs)) (λ ws. done (xs ++ ws))))
