-- Lists of numbers that are drawn one after another.
use Rattle.std.proofs.Common.{◌≡◌, ℕ, ◌+◌, suc, zero, List, [], ◌∷◌, ◌++◌, All, length, map, arith, sym, ap, subst, ◌∙◌}
use Rattle.std.proofs.lemmas.List.{length-append, map-append}
use Rattle.std.proofs.lemmas.List.Elements.{All-append}
use Rattle.av1_replay.specs.Drawn.{repeated}

-- so many things stand for numbers that are drawn from a state on, and P holds of each
pub record AreDrawn {A X : Type 0} (f : A → X) (P : A → Type 0) (step : ℕ → X × ℕ) (count first : ℕ) (items : List A) (state : ℕ) : Type 0 where
  pub value : (map f items, state) ≡ repeated step count first
  pub long : length items ≡ count
  pub each : All P items

-- none so far
pub none_drawn :
    {A X : Type 0} (f : A → X) (P : A → Type 0) (step : ℕ → X × ℕ) (first : ℕ) (items : List A) →
    items ≡ [] → AreDrawn f P step 0 first items first
unfolding repeated
none_drawn f P step first items none =
    let short : length items ≡ 0 = ap length none in
    record {
      value = ap (λ xs. (map f xs, first)) none;
      long = short;
      each = λ k d lt. absurd (omega (arith, lt, short));
    }

turn :
    {X : Type 0} (step : ℕ → X × ℕ) (n state s t : ℕ) (xs : List X) (x : X) →
    (xs, s) ≡ repeated step n state → (x, t) ≡ step s → (xs ++ x ∷ [], t) ≡ repeated step (n + 1) state
unfolding repeated
turn step n state s t xs x h e =
    let one : suc n ≡ n + 1 = omega arith in
    subst (λ k. (xs ++ x ∷ [], t) ≡ repeated step k state) one
    (ap (λ q. (xs ++ q.0 ∷ [], q.1)) e ∙ ap (λ p. (p.0 ++ (step p.1).0 ∷ [], (step p.1).1)) h)

-- what holds of one thing holds of all of a list of it alone
all_one : {A : Type 0} (P : A → Type 0) (a : A) → P a → All P (a ∷ [])
all_one P a p zero d lt = p
all_one P a p (suc k) d lt = absurd (omega (arith, lt))

-- one more, which stands for the number x
pub more_drawn :
    {A X : Type 0} (f : A → X) (P : A → Type 0) (step : ℕ → X × ℕ) (count first : ℕ) (items : List A) (state : ℕ)
    (pushed : List A) (a : A) (x : X) (after : ℕ) →
    AreDrawn f P step count first items state → pushed ≡ items ++ a ∷ [] → f a ≡ x → (x, after) ≡ step state → P a →
    AreDrawn f P step (count + 1) first pushed after
more_drawn f P step count first items state pushed a x after drawn more same e p = record {
  value =
      ap (λ xs. (map f xs, after)) more
      ∙ ap (λ xs. (xs, after)) (map-append f items (a ∷ []))
      ∙ turn step count first state after (map f items) (f a) drawn.value (ap (λ n. (n, after)) same ∙ e);
  long = ap length more ∙ length-append items (a ∷ []) ∙ ap (λ n. n + 1) drawn.long;
  each = subst (All P) (sym more) (All-append P items (a ∷ []) drawn.each (all_one P a p));
}
