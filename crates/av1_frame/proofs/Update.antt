-- What `update` does, element by element.
use Rattle.std.proofs.Common.{ℕ, ◌+◌, ◌<◌, ◌≤◌, ◌≡◌, List, [], ◌∷◌, ◌++◌, length, get_or, take, drop, refl, ap, arith, ◌∙◌, suc, zero, sym, inl, inr}
use Rattle.std.proofs.lemmas.List.{same_lists, places}
use Rattle.std.proofs.lemmas.Bool.Decides.{nat_tests}
use Rattle.std.proofs.lemmas.Bool.{cases_lt}
use Rattle.av1_frame.specs.Samples.{update, map_from, with_part}

length-map_from : {X : Type 0} (i : ℕ) (f : ℕ → X → X) (s : List X) → length (map_from i f s) ≡ length s
length-map_from i f [] = refl
length-map_from i f (x ∷ xs) = ap suc (length-map_from (i + 1) f xs)

get_or-map_from : {X : Type 0} (i : ℕ) (f : ℕ → X → X) (s : List X) (k : ℕ) (d : X) → k < length s → get_or (map_from i f s) k d ≡ f (i + k) (get_or s k d)
get_or-map_from i f [] k d h = absurd (omega arith)
get_or-map_from i f (x ∷ xs) zero d h = ap (λ n. f n x) (omega arith)
get_or-map_from i f (x ∷ xs) (suc k) d h =
    get_or-map_from (i + 1) f xs k d (omega arith) ∙ ap (λ n. f n (get_or xs k d)) (omega arith)

pub length-update : {X : Type 0} (f : ℕ → X → X) (s : List X) → length (update f s) ≡ length s
unfolding update
length-update f s = length-map_from 0 f s

pub get_or-update : {X : Type 0} (f : ℕ → X → X) (s : List X) (k : ℕ) (d : X) → k < length s → get_or (update f s) k d ≡ f k (get_or s k d)
unfolding update
get_or-update f s k d h = get_or-map_from 0 f s k d h ∙ ap (λ n. f n (get_or s k d)) (omega arith)

-- a list that has f of each element is the update
pub update_is : {X : Type 0} (f : ℕ → X → X) (s t : List X) → length t ≡ length s → ((k : ℕ) (d : X) → k < length s → get_or t k d ≡ f k (get_or s k d)) →
    t ≡ update f s
update_is f s t e h =
    same_lists t (update f s) (e ∙ sym (length-update f s)) (λ k d l. h k d (omega arith) ∙ sym (get_or-update f s k d (omega arith)))

-- what a Vec of n elements s, seen as t, ends as after a write to its part from i on
pub vec_part_is : {X : Type 0} (n i : ℕ) (s t ws : List X) → s ≡ t → n ≡ length s → i ≤ length t →
    take n (take i s ++ (ws ++ drop (length ws) (drop i s)) ++ drop (length (take i s ++ (ws ++ drop (length ws) (drop i s)))) s) ≡ with_part i t ws
vec_part_is n i s t ws v e h =
    let l : length s ≡ length t = ap length v in
    update_is _ s _ (grind (arith, places)) (λ k d l. grind (arith, places, nat_tests)) ∙ ap (λ u. with_part i u ws) v

-- the same after a write to all of it
pub vec_whole_is : {X : Type 0} (n : ℕ) (s t ws : List X) → s ≡ t → n ≡ length s → take n (ws ++ drop (length ws) s) ≡ with_part 0 t ws
vec_whole_is n s t ws v e =
    update_is _ s _ (grind (arith, places)) (λ k d l. grind (arith, places, nat_tests)) ∙ ap (λ u. with_part 0 u ws) v

-- w elements from place `from` on, written from place `to` on: behind them, to what stands from there on,
pub part_behind : {X : Type 0} (from to w : ℕ) (s front back ws : List X) → from + w ≤ to → from + w ≤ length s → to + w ≤ length s → front ≡ take to s
    → back ≡ drop to s → ws ≡ take w (drop from front) → front ++ (ws ++ drop w back) ≡ with_part to s (take w (drop from s))
part_behind from to w s front back ws apart f t front_is back_is ws_is =
    rw (ws_is, front_is, back_is) (update_is _ s _ (grind (arith, places)) (λ k d l. elim (cases_lt k to) [
      | inl q ↦ grind (arith, places, nat_tests)
      | inr q ↦ elim (cases_lt k (to + w)) [
        | inl h ↦ grind (arith, places, nat_tests)
        | inr h ↦ grind (arith, places, nat_tests)
      ]
    ]))

-- or before them, to what stands before place `from`
pub part_before : {X : Type 0} (from to w : ℕ) (s front before target back ws : List X) → to + w ≤ from → from + w ≤ length s → to + w ≤ length s
    → front ≡ take from s → before ≡ take to front → target ≡ drop to front → back ≡ drop from s → ws ≡ take w back
    → (before ++ (ws ++ drop w target)) ++ back ≡ with_part to s (take w (drop from s))
part_before from to w s front before target back ws apart f t front_is before_is target_is back_is ws_is =
    rw (ws_is, before_is, target_is, front_is, back_is) (update_is _ s _ (grind (arith, places)) (λ k d l. elim (cases_lt k to) [
      | inl q ↦ grind (arith, places, nat_tests)
      | inr q ↦ elim (cases_lt k (to + w)) [
        | inl h ↦ grind (arith, places, nat_tests)
        | inr h ↦ elim (cases_lt k from) [
          | inl b ↦ grind (arith, places, nat_tests)
          | inr b ↦ grind (arith, places, nat_tests)
        ]
      ]
    ]))
