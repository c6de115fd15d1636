-- Lists of samples and of their numbers.
use Rattle.std.proofs.Common.{ℕ, ◌+◌, ◌-◌, ◌<◌, ◌≤◌, ◌≡◌, List, [], ◌∷◌, ◌++◌, length, get_or, set, take, drop, map, reverse, min, ap, arith, ◌∙◌, sym, inl}
use Rattle.std.proofs.Common.{inr}
use Rattle.std.proofs.lemmas.Bool.{cases_lt}
use Rattle.std.proofs.lemmas.List.{get_or-map, get_or_append_left, get_or-append-add, length-reverse, length-append}
use Rattle.std.proofs.Math.Seq.{drop-append_seam, take-append_seam}
use Rattle.av1_frame.specs.Samples.{part}
use Rattle.av1_lists.specs.Lists.{by_index}
use Rattle.av1_lists.proofs.Lists.{length-by_index, get_or-by_index, reverse-by_index, length_shown, numbers_are_reversed}

-- a sample behind a front
pub behind_sample : {T : Type 0} (num : T → ℕ) (xs ys : List T) (k : ℕ) (d : T) → length xs ≤ k →
    num (get_or (xs ++ ys) k d) ≡ num (get_or ys (k - length xs) d)
behind_sample num xs ys k d h =
    let e : length xs + (k - length xs) ≡ k = omega arith in
    ap (λ m. num (get_or (xs ++ ys) m d)) (sym e) ∙ ap num (get_or-append-add xs ys (k - length xs) d)

-- a side that is stored from the last place to the first: what is available stands at the end, and before it the last one of these
pub reversed_side : {T : Type 0} (num : T → ℕ) (f : ℕ → ℕ) (below inside : List T) (n num_avail : ℕ) → length below + length inside ≡ n
    → length inside ≡ num_avail → 0 < num_avail → ((k : ℕ) (d : T) → k < length inside → num (get_or inside k d) ≡ f (num_avail - 1 - k))
    → ((k : ℕ) (d : T) → k < length below → num (get_or below k d) ≡ f (num_avail - 1)) → (g : ℕ → ℕ) → ((i : ℕ) → g i ≡ f (min i (num_avail - 1)))
    → map num (below ++ inside) ≡ reverse (by_index n g)
reversed_side num f below inside n num_avail len size some inner outer g e =
    numbers_are_reversed num g (below ++ inside) n (length-append below inside ∙ len) (λ k d h. elim (cases_lt k (length below)) [
      | inl b ↦ ap num (get_or_append_left below inside d k b) ∙ outer k d b ∙ sym (e (n - 1 - k) ∙ ap f (omega arith))
      | inr b ↦ behind_sample num below inside k d b ∙ inner (k - length below) d (omega arith) ∙ sym (e (n - 1 - k) ∙ ap f (omega arith))
    ])

-- a part between a front and a rest
pub part_between : {T : Type 0} (xs ys zs : List T) (i n : ℕ) → length xs ≡ i → length ys ≡ n → part i n (xs ++ (ys ++ zs)) ≡ ys
part_between xs ys zs i n e h =
    ap (λ m. take n (drop m (xs ++ (ys ++ zs)))) (sym e) ∙ ap (take n) (drop-append_seam xs (ys ++ zs)) ∙ ap (λ m. take m (ys ++ zs)) (sym h)
    ∙ take-append_seam ys zs

pub first_by_index : {T : Type 0} (num : T → ℕ) (xs : List T) (n : ℕ) (f : ℕ → ℕ) (d : T) → map num xs ≡ by_index n f → 0 < length xs →
    num (get_or xs 0 d) ≡ f 0
first_by_index num xs n f d e h =
    let l : length xs ≡ n = length_shown num xs (by_index n f) e ∙ length-by_index n f in
    sym (get_or-map num xs 0 d 0 h) ∙ ap (λ ns. get_or ns 0 0) e ∙ get_or-by_index n f 0 0 (omega arith)

pub last_reversed : {T : Type 0} (num : T → ℕ) (xs : List T) (n : ℕ) (f : ℕ → ℕ) (d : T) → map num xs ≡ reverse (by_index n f) → 0 < length xs →
    num (get_or xs (length xs - 1) d) ≡ f 0
last_reversed num xs n f d e h =
    let l : length xs ≡ n = length_shown num xs (reverse (by_index n f)) e ∙ length-reverse (by_index n f) ∙ length-by_index n f in
    sym (get_or-map num xs (length xs - 1) d 0 (omega arith)) ∙ ap (λ ns. get_or ns (length xs - 1) 0) (e ∙ reverse-by_index n f)
    ∙ get_or-by_index n (λ k. f (n - 1 - k)) (length xs - 1) 0 (omega arith) ∙ ap f (omega arith)

-- the one sample of a list that was set
pub one_set : {T : Type 0} (num : T → ℕ) (xs : List T) (v : T) (m : ℕ) → length xs ≡ 1 → num v ≡ m → map num (set xs 0 v) ≡ m ∷ []
one_set num [] v m e h = absurd (omega (arith, e))
one_set num (x ∷ []) v m e h = ap (λ n. n ∷ []) h
one_set num (x ∷ y ∷ xs) v m e h = absurd (omega (arith, e))

-- a part of a vector whose whole slice was written
pub lent_part : {T : Type 0} (num : T → ℕ) (first : ℕ → ℕ) (xs new old : List T) (l n m : ℕ) → xs ≡ part (first n) n (take l (new ++ drop (length new) old)) →
    l ≡ length new → n ≡ m → map num xs ≡ map num (part (first m) m new)
lent_part num first xs new old l n m e k h =
    let all : take l (new ++ drop (length new) old) ≡ new = ap (λ j. take j (new ++ drop (length new) old)) k ∙ take-append_seam new (drop (length new) old) in
    ap (map num) (e ∙ ap (part (first n) n) all ∙ ap (λ j. part (first j) j new) h)
