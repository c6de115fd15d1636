-- Coefficients as they are loaded: they fit their bits, and those up to the last place are all.
use Rattle.std.proofs.Common.{ℕ, zero, suc, ◌<◌, ◌≤◌, ◌≡◌, ◌==◌, Bool, true, false, cond, ℤ, pos, List, [], ◌∷◌, ◌++◌, length, get_or, take, drop, map}
use Rattle.std.proofs.Common.{replicate, ap, arith, ◌∙◌, sym, refl, get_or-set_other}
use Rattle.std.proofs.lemmas.Grind.{get_or-set_at}
use Rattle.std.proofs.lemmas.List.{length-replicate, length-set, length-append, length-take, length-take-le, take-append-le}
use Rattle.av1_blocks.specs.declared.transform.TxSize.{TxSize}
use Rattle.av1_blocks.specs.declared.transform.TxSize.TheVariants.{TX_4X4}
use Rattle.av1_blocks.specs.Transforms.{coded_area}
use Rattle.std.proofs.Math.ListN.{set}
use Rattle.std.proofs.Math.Seq.{take-length}
use Rattle.std.specs.List.{All, fold}
use Rattle.av1_dct.specs.Arithmetic.{FitsBits, AllFit}
use Rattle.av1_dct.proofs.Fits.{zero_fits}
use Rattle.av1_plan.specs.declared.leaf.Triple.{Triple}
use Rattle.av1_tile.specs.declared.plane_block.PlaneBlock.{PlaneBlock}
use Rattle.av1_tile.specs.Reference.{with_triple}
use Rattle.av1_tile.specs.Walk.{TripleFits}

pub zeros_fit : (b n : ℕ) → AllFit b (replicate n (pos 0))
zeros_fit b zero i = zero_fits b
zeros_fit b (suc n) zero = zero_fits b
zeros_fit b (suc n) (suc i) = zeros_fit b n i

set_fits : (b : ℕ) (l : List ℤ) (p i : ℕ) (v : ℤ) → AllFit b l → FitsBits b v → FitsBits b (get_or (set l p v) i (pos 0))
set_fits b [] p i v h q = h i
set_fits b (x ∷ xs) zero zero v h q = q
set_fits b (x ∷ xs) zero (suc i) v h q = h (suc i)
set_fits b (x ∷ xs) (suc p) zero v h q = h 0
set_fits b (x ∷ xs) (suc p) (suc i) v h q = set_fits b xs p i v (λ k. h (suc k)) q

either_fits : (b : ℕ) (c : Bool) (l m : List ℤ) → AllFit b l → AllFit b m → AllFit b (cond c l m)
either_fits b true l m h k = h
either_fits b false l m h k = k

-- a block's coefficients fit where its triples do
pub loaded_fit : (b block : ℕ) (l : List ℤ) (ts : List Triple) → AllFit b l → ((k : ℕ) (d : Triple) → k < length ts → FitsBits b (get_or ts k d).value) →
    AllFit b (fold (with_triple block) l ts)
loaded_fit b block l [] h f = h
loaded_fit b block l (t ∷ ts) h f =
    let v : FitsBits b t.value = f 0 t (omega arith) in
    loaded_fit b block (with_triple block l t) ts (either_fits b (t.block == block) (set l t.place t.value) l (λ i. set_fits b l t.place i t.value h v) h)
    (λ k d n. f (suc k) d (omega arith))

-- the loaded coefficients, in front of what lies behind them
pub front_is : {C : Type 0} (val : C → ℤ) (n coded block : ℕ) (ts : List Triple) (new old : List C) → n ≡ coded → n ≤ length old →
    length new ≡ length (take n old)
    → map val new ≡ fold (with_triple block) (replicate (length (take n old)) (pos 0)) ts
    → map val (take n (new ++ drop n old)) ≡ fold (with_triple block) (replicate coded (pos 0)) ts
front_is val n coded block ts new old e l h k =
    let m : length (take n old) ≡ n = omega (arith, length-take n old) in
    let len : length new ≡ n = h ∙ m in
    ap (map val) (take-append-le n new (drop n old) (omega (arith, len)) ∙ ap (λ j. take j new) (sym len) ∙ take-length new) ∙ k
    ∙ ap (λ j. fold (with_triple block) (replicate j (pos 0)) ts) (m ∙ e)

-- a triple put at its place leaves a list as long as it is
kept_length : (block : ℕ) (xs : List ℤ) (t : Triple) → length (with_triple block xs t) ≡ length xs
kept_length block xs t =
    elim (t.block == block) as (λ b. length (cond b (set xs t.place t.value) xs) ≡ length xs) [ true ↦ length-set xs t.place t.value | false ↦ refl ]

set_same : (xs ys : List ℤ) (p i : ℕ) (v : ℤ) → p < length xs → p < length ys → get_or xs i (pos 0) ≡ get_or ys i (pos 0) →
    get_or (set xs p v) i (pos 0) ≡ get_or (set ys p v) i (pos 0)
set_same xs ys p i v hx hy same = grind (arith, get_or-set_at, get_or-set_other, length-set)

with_triple_same : (block : ℕ) (xs ys : List ℤ) (t : Triple) → t.place < length xs → t.place < length ys
    → ((i : ℕ) → get_or xs i (pos 0) ≡ get_or ys i (pos 0)) → (i : ℕ)
    → get_or (with_triple block xs t) i (pos 0) ≡ get_or (with_triple block ys t) i (pos 0)
with_triple_same block xs ys t hx hy same i =
    elim (t.block == block) as (λ b. get_or (cond b (set xs t.place t.value) xs) i (pos 0) ≡ get_or (cond b (set ys t.place t.value) ys) i (pos 0))
    [ true ↦ set_same xs ys t.place i t.value hx hy (same i) | false ↦ same i ]

loaded_same : (block n : ℕ) (xs ys : List ℤ) (ts : List Triple) → n ≤ length xs → n ≤ length ys
    → ((k : ℕ) (d : Triple) → k < length ts → (get_or ts k d).place < n)
    → ((i : ℕ) → get_or xs i (pos 0) ≡ get_or ys i (pos 0)) → (i : ℕ)
    → get_or (fold (with_triple block) xs ts) i (pos 0) ≡ get_or (fold (with_triple block) ys ts) i (pos 0)
loaded_same block n xs ys [] lx ly reach same = same
loaded_same block n xs ys (t ∷ ts) lx ly reach same =
    let here : t.place < n = reach 0 t (omega arith) in
    loaded_same block n (with_triple block xs t) (with_triple block ys t) ts (omega (arith, lx, kept_length block xs t))
    (omega (arith, ly, kept_length block ys t))
    (λ k d l. reach (suc k) d (omega arith)) (with_triple_same block xs ys t (omega arith) (omega arith) same)

zero_at : (n i : ℕ) → get_or (replicate n (pos 0)) i (pos 0) ≡ pos 0
zero_at zero i = refl
zero_at (suc n) zero = refl
zero_at (suc n) (suc i) = zero_at n i

-- coefficients up to the last place of the triples are all of a block's
pub loaded_front : (block n m : ℕ) (ts : List Triple) → n ≤ m → ((k : ℕ) (d : Triple) → k < length ts → (get_or ts k d).place < n) → (i : ℕ) →
    get_or (fold (with_triple block) (replicate n (pos 0)) ts) i (pos 0) ≡ get_or (fold (with_triple block) (replicate m (pos 0)) ts) i (pos 0)
loaded_front block n m ts le reach =
    loaded_same block n (replicate n (pos 0)) (replicate m (pos 0)) ts (omega (arith, length-replicate n (pos 0)))
    (omega (arith, le, length-replicate m (pos 0)))
    reach (λ i. zero_at n i ∙ sym (zero_at m i))

-- no block has more than 1024 coefficients
area_within : (size : TxSize) → coded_area size ≤ 1024
area_within size = elim size as (λ t. coded_area t ≤ 1024) [ TX_4X4 ↦ omega arith | _ ↦ omega arith ]

-- as many coefficients as were loaded are there
pub loaded_long : {C : Type 0} (n : ℕ) (old new : List C) → n ≤ length old → length new ≡ length (take n old) → n ≤ length (new ++ drop n old)
loaded_long n old new le len = omega (arith, length-take-le n old le, length-append new (drop n old))

-- a bound of all places is no greater than the block's coefficients are many, and these are at most 1024
pub count_within : (depth count : ℕ) (block : PlaneBlock) (ts : List Triple) → ((n : ℕ) → All (λ (t : Triple). t.place < n) ts → count ≤ n)
    → All (TripleFits depth block) ts → (count ≤ coded_area block.area.tx_size) × (count ≤ 1024)
count_within depth count block ts least fit =
    let few = least (coded_area block.area.tx_size) (λ k d h. (fit k d h).place) in
    (few, omega (arith, few, area_within block.area.tx_size))
