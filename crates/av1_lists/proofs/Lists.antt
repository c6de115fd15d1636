-- Lists that are told by what stands at each place: their lengths, their items, and lists that are shown to be such.
use Rattle.std.proofs.Common.{ℕ, zero, suc, refl, ◌+◌, ◌-◌, ◌<◌, ◌≡◌, List, [], ◌∷◌, All, length, get_or, set, map, reverse, ap, arith, ◌∙◌, subst, sym, inl}
use Rattle.std.proofs.Common.{inr}
use Rattle.std.proofs.lemmas.Bool.{cases_lt}
use Rattle.std.proofs.lemmas.Grind.{get_or-set_at}
use Rattle.std.proofs.lemmas.List.{get_or-map, get_or-set_other, get_or-reverse, length-map, length-reverse}
use Rattle.std.proofs.lemmas.List.FromFn.{fill_by_all, length-map-range_with_len, get_or-map-range_with_len}
use Rattle.av1_lists.specs.Lists.{by_index}

pub length-by_index : {A : Type 0} (n : ℕ) (f : ℕ → A) → length (by_index n f) ≡ n
length-by_index n f = length-map-range_with_len f 0 n

pub get_or-by_index : {A : Type 0} (n : ℕ) (f : ℕ → A) (k : ℕ) (d : A) → k < n → get_or (by_index n f) k d ≡ f k
get_or-by_index n f k d h = get_or-map-range_with_len f 0 n k k d h (omega arith)

-- what holds of f 0, f 1, .. holds of their list
pub by_index-all : {A : Type 0} (P : A → Type 0) (n : ℕ) (f : ℕ → A) → ((k : ℕ) → k < n → P (f k)) → All P (by_index n f)
by_index-all P n f h k d l =
    let m : k < n = omega (arith, l, length-by_index n f) in
    subst P (sym (get_or-by_index n f k d m)) (h k m)

-- a list with f k at each place k
pub by_index_is : {A : Type 0} (n : ℕ) (f : ℕ → A) (xs : List A) (d : A) → length xs ≡ n → ((k : ℕ) → k < n → get_or xs k d ≡ f k) → xs ≡ by_index n f
by_index_is n f xs d e h = fill_by_all f xs n d e h

-- lists by functions that agree at each place
pub by_index-same : {A : Type 0} (n : ℕ) (f g : ℕ → A) → ((k : ℕ) → k < n → f k ≡ g k) → by_index n f ≡ by_index n g
by_index-same zero f g e = refl
by_index-same (suc n) f g e =
    by_index_is (suc n) g (by_index (suc n) f) (f 0) (length-by_index (suc n) f) (λ k h. get_or-by_index (suc n) f k (f 0) h ∙ e k h)

reversed : {A : Type 0} (n : ℕ) (f : ℕ → A) (d : A) → reverse (by_index n f) ≡ by_index n (λ k. f (n - 1 - k))
reversed n f d =
    let l : length (reverse (by_index n f)) ≡ n = length-reverse (by_index n f) ∙ length-by_index n f in
    by_index_is n (λ k. f (n - 1 - k)) (reverse (by_index n f)) d l (λ k h.
    get_or-reverse (by_index n f) k d (omega (arith, length-by_index n f)) ∙ ap (λ m. get_or (by_index n f) (m - 1 - k) d) (length-by_index n f)
    ∙ get_or-by_index n f (n - 1 - k) d (omega arith))

-- the same from the last to the first
pub reverse-by_index : {A : Type 0} (n : ℕ) (f : ℕ → A) → reverse (by_index n f) ≡ by_index n (λ k. f (n - 1 - k))
reverse-by_index zero f = refl
reverse-by_index (suc n) f = reversed (suc n) f (f 0)

-- ---- lists of things that are known by their numbers

-- things whose numbers are f 0, .., f (n - 1)
pub numbers_are : {T : Type 0} (num : T → ℕ) (f : ℕ → ℕ) (xs : List T) (n : ℕ) → length xs ≡ n → ((k : ℕ) (d : T) → k < n → num (get_or xs k d) ≡ f k) →
    map num xs ≡ by_index n f
numbers_are num f [] n e h = by_index_is n f [] 0 e (λ k l. absurd (omega arith))
numbers_are num f (x ∷ xs) n e h =
    by_index_is n f (map num (x ∷ xs)) 0 (length-map (x ∷ xs) num ∙ e) (λ k l. get_or-map num (x ∷ xs) k x 0 (omega arith) ∙ h k x l)

-- the same where they stand from the last to the first
pub numbers_are_reversed : {T : Type 0} (num : T → ℕ) (f : ℕ → ℕ) (xs : List T) (n : ℕ) → length xs ≡ n →
    ((k : ℕ) (d : T) → k < n → num (get_or xs k d) ≡ f (n - 1 - k)) → map num xs ≡ reverse (by_index n f)
numbers_are_reversed num f xs n e h = numbers_are num (λ k. f (n - 1 - k)) xs n e h ∙ sym (reverse-by_index n f)

-- one more thing whose number is known
pub set_shown : {T : Type 0} (num : T → ℕ) (xs : List T) (i : ℕ) (v : T) (f : ℕ → ℕ) → num v ≡ f i → i < length xs →
    ((k : ℕ) (d : T) → k < i → num (get_or xs k d) ≡ f k) → (k : ℕ) (d : T) → k < i + 1 → num (get_or (set xs i v) k d) ≡ f k
set_shown num xs i v f here l before k d h = elim (cases_lt k i) [
  | inl e ↦ ap num (get_or-set_other xs i k v d (λ s. absurd (omega (arith, s)))) ∙ before k d e
  | inr e ↦ let same : k ≡ i = omega arith in ap num (get_or-set_at xs i k v d same l) ∙ here ∙ ap f (sym same)
]

pub length_shown : {T : Type 0} (num : T → ℕ) (xs : List T) (ns : List ℕ) → map num xs ≡ ns → length xs ≡ length ns
length_shown num xs ns e = sym (length-map xs num) ∙ ap length e
