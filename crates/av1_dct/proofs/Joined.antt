-- The fused steps on both halves: the transform of all from that of the first half and what the odd inputs have become.
use Rattle.std.proofs.Common.{refl, ℕ, ◌≡◌, ◌+◌, ◌-◌, ◌*◌, ◌^◌, ◌≤◌, false, ℤ, pos, List, ◌++◌, take, drop, length, arith, ap, sym, ◌∙◌}
use Rattle.std.proofs.lemmas.List.{take_all, length-drop, length-take-le, map-append, take-map, drop-map, length-map, get_or_append_left, get_or-append_right}
use Rattle.std.proofs.lemmas.List.FromFn.{fill_by_all}
use Rattle.av1_lists.specs.Lists.{by_index}
use Rattle.av1_dct.specs.Arithmetic.{at}
use Rattle.av1_dct.specs.Word.{column}
use Rattle.av1_dct.specs.Cosine.{inner_turn, mirror_sum, outer_turn, rounds, rounds_with}
use Rattle.av1_dct.specs.InPlace.{end_all, joined, sums}
use Rattle.av1_dct.proofs.Fused.{last_round}
use Rattle.av1_dct.proofs.Halves.{second_set, second_set_is}

pub no_rounds : (range k : ℕ) (v : List ℤ) → v ≡ rounds range k 0 v
unfolding rounds_with
no_rounds range k v = refl

end_joined : (range k : ℕ) (zs s v : List ℤ) → 2 ≤ k → k ≤ 5 → length zs ≡ 2 * 2 ^ k → length s ≡ 2 ^ k → s ≡ sums range k (k - 2) v
    → end_all range k (take (2 ^ k) zs ++ s) ≡ by_index (2 * 2 ^ k) (mirror_sum range false (2 ^ k) (take (2 ^ k) zs ++ rounds range k (k - 1) v))
end_joined range k zs s v low high len_zs len_s is =
    let m = 2 ^ k in
    let ws = take m zs ++ s in
    let len : length (take m zs) ≡ m = length-take-le m zs (omega arith) in
    let first : take m zs ≡ by_index m (at ws) =
    fill_by_all (at ws) (take m zs) m (pos 0) len (λ i lt. sym (get_or_append_left (take m zs) s (pos 0) i (omega (arith, len)))) in
    let place : (i : ℕ) → at ws (m + i) ≡ at s i = λ i. get_or-append_right (take m zs) s m (m + i) (pos 0) len (omega arith)
    ∙ ap (at s) (let e : m + i - m ≡ i = omega arith in e) in
    let second : s ≡ by_index m (λ i. at ws (m + i)) = fill_by_all (λ i. at ws (m + i)) s m (pos 0) len_s (λ i lt. sym (place i)) in
    ap (λ (x : List ℤ). by_index (2 * m) (mirror_sum range false m (x ++ by_index m (inner_turn k (k - 2) (by_index m (λ i. at ws (m + i))))))) (sym first)
    ∙ ap (λ (y : List ℤ). by_index (2 * m) (mirror_sum range false m (take m zs ++ by_index m (inner_turn k (k - 2) y)))) (sym second ∙ is)
    ∙ ap (λ (y : List ℤ). by_index (2 * m) (mirror_sum range false m (take m zs ++ y))) (last_round range k v low high)

-- the same of words, where o is what the second half has become and f what both halves come to
pub fused_words : {W : Type 0} (lane : W → ℕ → ℤ) (i range k m : ℕ) (w o f : List W) → 2 ≤ k → k ≤ 5 → m ≡ 2 ^ k → length w ≡ 2 * 2 ^ k → length o ≡ m
    → column lane i o ≡ sums range k (k - 2) (by_index (2 ^ k) (outer_turn k (column lane i (take (length w - m) (drop m w)))))
    → column lane i f ≡ end_all range k (column lane i (second_set m o w))
    → column lane i f ≡ joined range k (column lane i w)
fused_words {W} lane i range k m w o f low high hm hw ho is_o is_f =
    let g = λ (x : W). lane x i in
    let zs = column lane i w in
    let v = by_index (2 ^ k) (outer_turn k (drop (2 ^ k) zs)) in
    let rest : column lane i (take (length w - m) (drop m w)) ≡ drop (2 ^ k) zs =
    ap (column lane i) (take_all (length w - m) (drop m w) (omega (arith, length-drop m w))) ∙ sym (drop-map g m w) ∙ ap (λ (n : ℕ). drop n zs) hm in
    let odd : column lane i o ≡ sums range k (k - 2) v = is_o ∙ ap (λ (ys : List ℤ). sums range k (k - 2) (by_index (2 ^ k) (outer_turn k ys))) rest in
    let even : column lane i (take m w) ≡ take (2 ^ k) zs = sym (take-map g m w) ∙ ap (λ (n : ℕ). take n zs) hm in
    let whole : column lane i (second_set m o w) ≡ take (2 ^ k) zs ++ column lane i o =
    ap (column lane i) (second_set_is m o w) ∙ map-append g (take m w) o ∙ ap (λ (ys : List ℤ). ys ++ column lane i o) even in
    is_f ∙ ap (end_all range k) whole ∙ end_joined range k zs (column lane i o) v low high (length-map w g ∙ hw) (length-map o g ∙ ho ∙ hm) odd
