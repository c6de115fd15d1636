-- Reads of a row of which some samples are painted.
use Rattle.std.proofs.Common.{ℕ, ◌+◌, ◌<◌, ◌≤◌, ◌≡◌, List, length, get_or, set, refl, ap, arith, ◌∙◌, sym, cond, ltb, ◌&&◌, inl, inr}
use Rattle.std.proofs.lemmas.List.{get_or-set_same, get_or-set_other, length-set, get_or_default, get_or-map}
use Rattle.std.proofs.lemmas.Bool.Decides.{nat_tests}
use Rattle.std.proofs.lemmas.Bool.{cases_eq, cases_lt}
use Rattle.av1_frame.specs.Samples.{update, paint_row}
use Rattle.av1_frame.proofs.Update.{update_is, length-update, get_or-update}
use Rattle.av1_intra.specs.Sides.{numbers}

-- painting changes nothing where each sample would stay
pub unpainted : {X : Type 0} (w : ℕ) (g : ℕ → X → X) (s : List X) → ((k : ℕ) (d : X) → k < w → k < length s → g k (get_or s k d) ≡ get_or s k d) →
    s ≡ paint_row w g s
unfolding paint_row
unpainted w g s h =
    update_is _ s s refl (λ k d l. elim (cases_lt k w) [
      | inl b ↦ (let e = h k d b l in grind (arith, nat_tests))
      | inr b ↦ grind (arith, nat_tests)
    ])

-- the number at a place that is not painted yet
pub read_ahead : {X : Type 0} (num : X → ℕ) (i k : ℕ) (g : ℕ → X → X) (s t : List X) (x : X) (y : ℕ) → t ≡ paint_row i g s → i ≤ k → k < length s →
    x ≡ get_or t k x → y ≡ num x → y ≡ numbers num s k
unfolding paint_row
read_ahead num i k g s t x y e h l r n =
    let a : get_or t k x ≡ get_or s k x = ap (λ u. get_or u k x) e ∙ (get_or-update _ s k x l ∙ grind (arith, nat_tests)) in
    n ∙ ap num (r ∙ a) ∙ sym (get_or-map num s k x 0 l)

-- an entry that is painted
pub entry_painted : {X : Type 0} (w k : ℕ) (g : ℕ → X → X) (s t : List X) (d : X) → t ≡ paint_row w g s → k < w → k < length s →
    get_or t k d ≡ g k (get_or s k d)
unfolding paint_row
entry_painted w k g s t d e h l = ap (λ u. get_or u k d) e ∙ (get_or-update _ s k d l ∙ grind (arith, nat_tests))

-- s with its samples past a and below b turned to g; a loop that goes down paints so
unfoldable pub painted_past : {X : Type 0} → ℕ → ℕ → (ℕ → X → X) → List X → List X
painted_past a b g s = update (λ k v. cond (ltb a k && ltb k b) (g k v) v) s

pub none_past : {X : Type 0} (a b : ℕ) (g : ℕ → X → X) (s : List X) → b ≤ a + 1 → s ≡ painted_past a b g s
unfolding painted_past
none_past a b g s h = update_is _ s s refl (λ k d l. grind (arith, nat_tests))

-- all but the first
pub all_past : {X : Type 0} (b : ℕ) (g : ℕ → X → X) (s : List X) → ((d : X) → 0 < length s → g 0 (get_or s 0 d) ≡ get_or s 0 d) →
    painted_past 0 b g s ≡ paint_row b g s
unfolding painted_past paint_row
all_past b g s h =
    update_is _ s _ (length-update _ s) (λ k d l. get_or-update _ s k d l ∙ elim (cases_eq k 0) [
      | inl e ↦ (let f = h d (omega arith) in let r : g k (get_or s k d) ≡ get_or s k d = ap (λ n. g n (get_or s n d)) e ∙ f ∙ sym (ap (λ n. get_or s n d) e)
          in grind (arith, nat_tests))
      | inr n ↦ grind (arith, nat_tests)
    ])

-- two more, from the top down
pub two_past : {X : Type 0} (a b : ℕ) (g : ℕ → X → X) (s t : List X) (u v : X) → t ≡ painted_past (a + 2) b g s → b ≤ length s → a + 2 < b →
    u ≡ g (a + 1) (get_or s (a + 1) u) → v ≡ g (a + 2) (get_or s (a + 2) v) → set (set t (a + 2) v) (a + 1) u ≡ painted_past a b g s
unfolding painted_past
two_past a b g s t u v e h l p q =
    ap (λ w. set (set w (a + 2) v) (a + 1) u) e
    ∙ update_is _ s _ (grind (arith, length-set, length-update))
    (λ k d m. grind (
      arith,
      nat_tests,
      get_or-set_same,
      get_or-set_other,
      length-set,
      get_or-update,
      length-update,
      get_or_default,
      cases_eq k (a + 1),
      cases_eq k (a + 2),
    ))

-- the number at a place that is not painted yet, in a loop that goes down
pub read_before : {X : Type 0} (num : X → ℕ) (a b k : ℕ) (g : ℕ → X → X) (s t : List X) (x : X) (y : ℕ) → t ≡ painted_past a b g s → k ≤ a → k < length s →
    x ≡ get_or t k x → y ≡ num x → y ≡ numbers num s k
unfolding painted_past
read_before num a b k g s t x y e h l r n =
    let f : get_or t k x ≡ get_or s k x = ap (λ u. get_or u k x) e ∙ (get_or-update _ s k x l ∙ grind (arith, nat_tests)) in
    n ∙ ap num (r ∙ f) ∙ sym (get_or-map num s k x 0 l)
