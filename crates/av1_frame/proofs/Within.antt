-- What holds of each stored sample of a plane, and what painting leaves of it.
use Rattle.std.proofs.Common.{ℕ, ◌+◌, ◌-◌, ◌/◌, ◌%◌, ◌^◌, ◌<◌, ◌≡◌, ℤ, pos, negsuc, List, [], ◌∷◌, length, get_or, map, replicate, slice_index, Bool, true}
use Rattle.std.proofs.Common.{false, cond, refl, ap, subst, sym, arith, inl, inr}
use Rattle.std.specs.List.{All}
use Rattle.std.proofs.lemmas.Bool.Decides.{nat_tests}
use Rattle.std.proofs.lemmas.Bool.{cases_lt}
use Rattle.std.proofs.lemmas.List.{get_or_past}
use Rattle.std.proofs.lemmas.List.Elements.{All-get_or, All-from_get_or, All-nil, All-map, All-replicate}
use Rattle.av1_frame.specs.declared.plane.Plane.{Plane}
use Rattle.av1_frame.specs.declared.plane_region.StoredArea.{StoredArea}
use Rattle.av1_frame.specs.Arithmetic.{clip}
use Rattle.av1_frame.specs.Samples.{paint, painted_at, in_area, update}
use Rattle.av1_frame.specs.Areas.{VisibleArea, stored_area}
use Rattle.av1_frame.specs.Planes.{sample_at, painted_plane}
use Rattle.av1_frame.proofs.Depths.{pow_le}
use Rattle.av1_frame.proofs.Paint.{length_paint}
use Rattle.av1_frame.proofs.Update.{update_is, get_or-update}

-- ---- painting

-- a sample of a painted rectangle is what f gives inside, or as it was
at_place : {X : Type 0} (Q : X → Type 0) (a : StoredArea) (p q : ℕ) (f : ℕ → ℕ → X → X) (v : X)
    → ((r c : ℕ) → r < a.height → c < a.width → Q (f r c v)) → Q v → Q (painted_at a f p q v)
at_place {X} Q a p q f v inside same =
    let chosen = λ (t : Bool). Q (cond t (f (q - a.y) (p - a.x) v) v) in
    let stays : in_area a p q ≡ false → chosen (in_area a p q) = λ e. subst chosen (sym e) same in
    elim (cases_lt p a.x) [
      | inl b ↦ stays (grind (arith, nat_tests))
      | inr b ↦ elim (cases_lt p (a.x + a.width)) [
        | inr c ↦ stays (grind (arith, nat_tests))
        | inl c ↦ elim (cases_lt q a.y) [
          | inl d ↦ stays (grind (arith, nat_tests))
          | inr d ↦ elim (cases_lt q (a.y + a.height)) [
            | inr h ↦ stays (grind (arith, nat_tests))
            | inl h ↦ (let e : in_area a p q ≡ true = grind (arith, nat_tests) in subst chosen (sym e) (inside (q - a.y) (p - a.x) (omega arith) (omega arith)))
          ]
        ]
      ]
    ]

module _ {X : Type 0} (P : X → Type 0) (stride : ℕ) (a : StoredArea) (f : ℕ → ℕ → X → X) where
  -- a rectangle of which each sample is given back
  pub paint_kept : (s : List X) → All P s → ((r c : ℕ) (v : X) → r < a.height → c < a.width → P v → f r c v ≡ v) → paint stride a f s ≡ s
  unfolding paint
  paint_kept s all h =
      sym (update_is _ s s refl (λ k d l. let v = get_or s k d in
      sym (at_place (λ w. w ≡ v) a (k % stride) (k / stride) f v (λ r c m n. h r c v m n (All-get_or P s k d l all)) refl)))

  -- what holds of each sample holds after painting, where it holds of what is painted
  pub paint_all : (s : List X) → All P s → ((r c : ℕ) (v : X) → r < a.height → c < a.width → P v → P (f r c v)) → All P (paint stride a f s)
  unfolding paint update
  paint_all [] all h = All-nil P
  paint_all (x ∷ xs) all h =
      All-from_get_or P (paint stride a f (x ∷ xs)) x (λ k l. let m : k < length (x ∷ xs) = omega (arith, l, length_paint stride a f (x ∷ xs)) in
      let v = get_or (x ∷ xs) k x in
      let ok = All-get_or P (x ∷ xs) k x m all in
      subst P (sym (get_or-update (λ i w. painted_at a f (i % stride) (i / stride) w) (x ∷ xs) k x m))
      (at_place P a (k % stride) (k / stride) f v (λ r c i j. h r c v i j ok) ok))

module _ {T : Type 0} (P : T → Type 0) (p : Plane T) (a : VisibleArea) (f : ℕ → ℕ → T → T) where
  -- a plane of which a rectangle's samples are given back is the same
  pub painted_plane_kept : All P p.samples → ((r c : ℕ) (v : T) → r < a.height → c < a.width → P v → f r c v ≡ v) → painted_plane p a f ≡ p
  painted_plane_kept all h =
      ap (λ (s : List T). record p { samples = s }) (paint_kept P p.plane_cfg.stride (stored_area p.plane_cfg a) f p.samples all h)

  -- what holds of each stored sample holds after a rectangle is painted, where it holds of what is painted
  pub painted_plane_all : All P p.samples → ((r c : ℕ) (v : T) → r < a.height → c < a.width → P v → P (f r c v)) → All P (painted_plane p a f).samples
  painted_plane_all all h = paint_all P p.plane_cfg.stride (stored_area p.plane_cfg a) f p.samples all h

-- the same of samples whose numbers are painted
pub painted_numbers_below : {T : Type 0} (num : T → ℕ) (pixel : ℕ → T) → ((n : ℕ) → num (pixel n) ≡ n)
    → (bound : ℕ) (p : Plane T) (a : VisibleArea) (f : ℕ → ℕ → T → ℕ) → All (λ v. num v < bound) p.samples
    → ((r c : ℕ) (v : T) → r < a.height → c < a.width → num v < bound → f r c v < bound)
    → All (λ v. num v < bound) (painted_plane p a (λ r c v. pixel (f r c v))).samples
painted_numbers_below num pixel law bound p a f all h =
    painted_plane_all (λ v. num v < bound) p a (λ r c v. pixel (f r c v)) all (λ r c v i j l. subst (λ n. n < bound) (sym (law (f r c v))) (h r c v i j l))

-- ---- other planes

-- a plane that holds one sample everywhere, as a new one does
pub filled_all : {T : Type 0} (P : T → Type 0) (p : Plane T) (n : ℕ) (v : T) → p.samples ≡ replicate n v → P v → All P p.samples
filled_all P p n v e h = subst (All P) (sym e) (All-replicate P n v h)

-- ---- numbers of samples

-- an entry of a list of numbers below a bound, also past its end
pub entry_below : (bound : ℕ) (ns : List ℕ) (k : ℕ) → 0 < bound → All (λ n. n < bound) ns → slice_index ns k < bound
entry_below bound ns k some all = elim (cases_lt k (length ns)) [
  | inl l ↦ All-get_or (λ n. n < bound) ns k 0 l all
  | inr l ↦ subst (λ n. n < bound) (sym (get_or_past ns k 0 l)) some
]

-- the number at a place of samples whose numbers are below a bound
pub number_below : {T : Type 0} (num : T → ℕ) (bound : ℕ) (s : List T) (k : ℕ) → 0 < bound → All (λ v. num v < bound) s
    → slice_index (map num s) k < bound
number_below num bound s k some all = entry_below bound (map num s) k some (All-map (λ n. n < bound) num s all)

-- the sample at any column and row, also past the end
pub sample_below : {T : Type 0} (num : T → ℕ) (bound : ℕ) (p : Plane T) (x y : ℕ) → 0 < bound → All (λ v. num v < bound) p.samples
    → sample_at num p x y < bound
sample_below num bound p x y some all = number_below num bound p.samples _ some all

-- a depth has some numbers
pub some_numbers : (depth : ℕ) → 0 < 2 ^ depth
some_numbers depth = omega (arith, pow_le 0 depth (omega arith))

-- a clipped number, whatever it was
pub clip_within : (depth : ℕ) (z : ℤ) → clip depth z < 2 ^ depth
clip_within depth (pos n) = omega (arith, some_numbers depth)
clip_within depth (negsuc n) = some_numbers depth

-- a choice between two numbers
pub chosen_below : (b : Bool) (m n bound : ℕ) → m < bound → n < bound → cond b m n < bound
chosen_below true m n bound h l = h
chosen_below false m n bound h l = l
