-- Step 2 of the cosine transform, group by group, each group a part of the list.
use Rattle.std.proofs.Common.{ℕ, ◌≡◌, ◌+◌, ◌-◌, ◌<◌, ◌≤◌, ℤ, pos, List, ◌++◌, take, drop, length, arith, ap, ◌∙◌, sym, subst, refl, inl, inr}
use Rattle.std.proofs.lemmas.List.{map-append, take-map, drop-map, length-take-le, length-take, length-drop, length-append, get_or_append_left}
use Rattle.std.proofs.lemmas.List.{get_or-append_right, get_or-take, get_or-drop, get_or_past}
use Rattle.std.proofs.lemmas.Bool.{cases_lt}
use Rattle.av1_dct.specs.Arithmetic.{AllFit, FitsBits, at}
use Rattle.av1_dct.specs.Word.{column}
use Rattle.av1_dct.proofs.Fits.{zero_fits}
use Rattle.av1_dct.proofs.Begun.{IsBegun}

-- xs with ys in place of its k places from a on, as a slice is after a write to such a part
abbrev pub put : {X : Type 0} → ℕ → ℕ → List X → List X → List X
put a k xs ys = take a xs ++ (ys ++ drop k (drop a xs))

pub column-put : {W : Type 0} (lane : W → ℕ → ℤ) (i a k : ℕ) (v w : List W) → column lane i (put a k v w) ≡ put a k (column lane i v) (column lane i w)
column-put {W} lane i a k v w = let f = λ (w : W). lane w i in simp (map-append f, take-map f, drop-map f)

pub put-low : (a k : ℕ) (xs ys : List ℤ) (i : ℕ) → i < a → a ≤ length xs → at (put a k xs ys) i ≡ at xs i
put-low a k xs ys i h le = get_or_append_left (take a xs) _ (pos 0) i (omega (arith, length-take-le a xs le)) ∙ get_or-take a xs i (pos 0) h

pub put-mid : (a k : ℕ) (xs ys : List ℤ) (i : ℕ) → a ≤ i → i - a < length ys → a ≤ length xs → at (put a k xs ys) i ≡ at ys (i - a)
put-mid a k xs ys i h lt le = get_or-append_right (take a xs) _ a i (pos 0) (length-take-le a xs le) h ∙ get_or_append_left ys _ (pos 0) (i - a) lt

pub put-high : (a k : ℕ) (xs ys : List ℤ) (i : ℕ) → a + k ≤ i → length ys ≡ k → a ≤ length xs → at (put a k xs ys) i ≡ at xs i
put-high a k xs ys i h len le =
    get_or-append_right (take a xs) _ a i (pos 0) (length-take-le a xs le) (omega arith)
    ∙ get_or-append_right ys _ k (i - a) (pos 0) len (omega arith)
    ∙ get_or-drop k (drop a xs) (i - a - k) (pos 0)
    ∙ get_or-drop a xs (k + (i - a - k)) (pos 0)
    ∙ ap (λ n. at xs n) (let e : a + (k + (i - a - k)) ≡ i = omega arith in e)

pub length-put : (a k : ℕ) (xs ys : List ℤ) → length ys ≡ k → a + k ≤ length xs → length (put a k xs ys) ≡ length xs
length-put a k xs ys h le =
    omega (
      arith,
      length-append (take a xs) (ys ++ drop k (drop a xs)),
      length-append ys (drop k (drop a xs)),
      length-take-le a xs (omega arith),
      length-drop k (drop a xs),
      length-drop a xs,
    )

-- what a part of a list reads
pub at-part : (a k : ℕ) (xs : List ℤ) (i : ℕ) → i < k → at (take k (drop a xs)) i ≡ at xs (a + i)
at-part a k xs i h = get_or-take k (drop a xs) i (pos 0) h ∙ get_or-drop a xs i (pos 0)

pub part_fits : (a n : ℕ) (zs old : List ℤ) → AllFit 20 old → ((i : ℕ) → a ≤ i → at zs i ≡ at old i) → AllFit 20 (take n (drop a zs))
part_fits a n zs old fit same = λ j.
    let P : ℤ → Type 0 = λ z. FitsBits 20 z in
    elim (cases_lt j n) [
      | inl h ↦ subst P (sym (at-part a n zs j h ∙ same (a + j) (omega arith))) (fit (a + j))
      | inr h ↦ subst P (sym (get_or_past (take n (drop a zs)) j (pos 0) (omega (arith, length-take n (drop a zs))))) (zero_fits 20)
    ]

pub column-part : {W : Type 0} (lane : W → ℕ → ℤ) (i a n : ℕ) (v : List W) → column lane i (take n (drop a v)) ≡ take n (drop a (column lane i v))
column-part {W} lane i a n v = let f = λ (w : W). lane w i in simp (take-map f, drop-map f)

pub words_fit : {W : Type 0} (lane : W → ℕ → ℤ) (i a n : ℕ) (v : List W) (m : ℕ) (f : ℕ → ℤ) (old : List ℤ) → IsBegun m f old a (column lane i v) →
    AllFit 20 old → AllFit 20 (column lane i (take n (drop a v)))
words_fit lane i a n v m f old s fit = let P : List ℤ → Type 0 = λ zs. AllFit 20 zs
    in subst P (sym (column-part lane i a n v)) (part_fits a n (column lane i v) old fit s.rest)

pub take-fits : {W : Type 0} (lane : W → ℕ → ℤ) (i n : ℕ) (w : List W) → AllFit 20 (column lane i w) → AllFit 20 (column lane i (take n w))
take-fits {W} lane i n w fit =
    let P : List ℤ → Type 0 = λ zs. AllFit 20 zs in
    subst P (take-map (λ (x : W). lane x i) n w) (part_fits 0 n (column lane i w) (column lane i w) fit (λ j h. refl))

pub drop-fits : {W : Type 0} (lane : W → ℕ → ℤ) (i n : ℕ) (w : List W) → AllFit 20 (column lane i w) → AllFit 20 (column lane i (drop n w))
drop-fits {W} lane i n w fit = λ j.
    let P : ℤ → Type 0 = λ z. FitsBits 20 z in
    subst P (sym (ap (λ zs. at zs j) (sym (drop-map (λ (x : W). lane x i) n w)) ∙ get_or-drop n (column lane i w) j (pos 0))) (fit (n + j))
