-- The triples of one transform block among those of its leaf's block.
use Rattle.std.proofs.Common.{ℕ, ◌+◌, ◌-◌, ◌<◌, ◌≤◌, ◌≡◌, ◌≢◌, List, [], ◌∷◌, ◌++◌, length, get_or, take, drop, Option, Some, None, refl, ap, arith, ◌∙◌, sym}
use Rattle.std.proofs.Common.{subst, cond, ℤ, pos, replicate, slice_set, inl, inr, min, Bool, true, false, if◌then◌else◌, zero, suc, ◌^◌, ◌+ℤ◌, ◌%◌, ◌/◌, All}
use Rattle.std.specs.List.{fold, AllByRecursion}
use Rattle.std.proofs.lemmas.Bool.{ne_eqb, cases_lt}
use Rattle.std.proofs.lemmas.Grind.{fold-append}
use Rattle.std.proofs.lemmas.List.{take-append-drop, get_or-take, get_or-drop, length-take, length-drop}
use Rattle.std.proofs.lemmas.List.Elements.{recursion_from_All}
use Rattle.av1_blocks.specs.Blocks.{block_width, block_height}
use Rattle.av1_blocks.specs.Transforms.{coded_area}
use Rattle.av1_blocks.specs.declared.transform.TxSize.{TxSize}
use Rattle.av1_frame.specs.declared.plane.Plane.{Plane}
use Rattle.av1_frame.specs.declared.plane.PlaneConfig.{PlaneConfig}
use Rattle.av1_frame.specs.Planes.{painted_plane}
use Rattle.av1_frame.specs.Areas.{VisibleArea, stored_area}
use Rattle.av1_frame.specs.Arithmetic.{clip}
use Rattle.av1_frame.specs.Samples.{in_area, paint}
use Rattle.av1_frame.proofs.Update.{update_is}
use Rattle.av1_itx.proofs.Passes.{residue-zero}
use Rattle.av1_itx.specs.Residue.{residue_by}
use Rattle.std.proofs.lemmas.Int.{ints}
use Rattle.av1_plan.specs.declared.geometry.TransformBlock.{TransformBlock}
use Rattle.av1_plan.specs.declared.header.Header.{Header}
use Rattle.av1_plan.specs.declared.leaf.Triple.{Triple}
use Rattle.av1_plan.specs.Geometry.{block_count, follows_av1, transform_block}
use Rattle.av1_tile.specs.declared.plane_block.PlaneBlock.{PlaneBlock}
use Rattle.av1_tile.specs.PlaneBlocks.{is_whole}
use Rattle.av1_tile.specs.Reference.{Scene, added, block_residue, coefficients, with_triple}
use Rattle.av1_tile.specs.Predicted.{Gathered, Keeping, keeping_in, kept_in}
use Rattle.av1_tile.specs.Steps.{Step, predict, add, block_area, block_steps, joined, steps_at}
use Rattle.av1_tile.specs.Walk.{AreRising, BlockFits, TripleFits, fast_in}
use Rattle.av1_tile.proofs.Loops.{fold_joined_same}

-- triples of other blocks change no coefficient of this one
others : (n : ℕ) (cs : List ℤ) (ts : List Triple) → AllByRecursion (λ t. t.block ≢ n) ts → fold (with_triple n) cs ts ≡ cs
others n cs [] other = refl
others n cs (t ∷ ts) other = ap (λ b. fold (with_triple n) (cond b (slice_set cs t.place t.value) cs) ts) (ne_eqb t.block n other.0) ∙ others n cs ts other.1

-- a block without triples has no residue: its samples are clipped alone
all_zero : (n k : ℕ) (d : ℤ) → k < length (replicate n (pos 0)) → get_or (replicate n (pos 0)) k d ≡ pos 0
all_zero zero k d l = absurd (omega arith)
all_zero (suc n) zero d l = refl
all_zero (suc n) (suc k) d l = all_zero n k d (omega arith)

pub none_added : (by_av1 : Bool) (depth : ℕ) (block : PlaneBlock) (ts : List Triple) (n v r c : ℕ) → length ts ≡ 0 →
    added depth v (block_residue by_av1 depth block ts n r c) ≡ min v (2 ^ depth - 1)
unfolding block_residue coefficients
none_added by_av1 depth block [] n v r c e =
    let zero_residue =
    residue-zero by_av1 block.area.tx_size block.tx_type depth (replicate (coded_area block.area.tx_size) (pos 0)) r c
    (all_zero (coded_area block.area.tx_size))
    in
    let same : pos v +ℤ pos 0 ≡ pos v = omega (arith, ints) in
    ap (clip depth) (ap (λ z. pos v +ℤ z) zero_residue ∙ same)
none_added by_av1 depth block (t ∷ ts) n v r c e = absurd (omega arith)

-- and stay, where they lie within the depth
if_stays : {X : Type 0} (b : Bool) (x y : X) → x ≡ y → (if b then x else y) ≡ y
if_stays true x y e = e
if_stays false x y e = refl

pub none_painted : {T : Type 0} (num : T → ℕ) (pixel : ℕ → T) → ((x : T) → pixel (num x) ≡ x) →
    (by_av1 : Bool) (depth : ℕ) (block : PlaneBlock) (ts : List Triple) (n : ℕ) (p : Plane T) (a : VisibleArea) → length ts ≡ 0 →
    All (λ v. num v < 2 ^ depth) p.samples
    → p ≡ painted_plane p a (λ r c v. pixel (added depth (num v) (block_residue by_av1 depth block ts n r c)))
unfolding paint
none_painted num pixel back by_av1 depth block ts n p a none within =
    let area = stored_area p.plane_cfg a in
    let stride = p.plane_cfg.stride in
    ap (λ (s : List _). record p { samples = s })
    (update_is _ p.samples p.samples refl (λ k d l.
    let few : num (get_or p.samples k d) < 2 ^ depth = within k d l in
    let same : min (num (get_or p.samples k d)) (2 ^ depth - 1) ≡ num (get_or p.samples k d) = omega (arith, few) in
    sym (if_stays (in_area area (k % stride) (k / stride)) _ (get_or p.samples k d)
    (ap pixel (none_added by_av1 depth block ts n (num (get_or p.samples k d)) (k / stride - area.y) (k % stride - area.x) none ∙ same)
    ∙ back (get_or p.samples k d)))))

-- the transform blocks of an area that is predicted as a whole, without triples
module _ (block : PlaneBlock) (ts : List Triple) (whole : is_whole block.prediction ≡ true) where
  -- the one step of transform block n, where it begins in the frame
  alone : (n : ℕ) (b : TransformBlock) → block_steps block ts n (Some b) ≡ add block ts n (block_area block b) ∷ []
  alone n b =
      let area = block_area block b in
      ap (λ (t : Bool). if t then add block ts n area ∷ [] else predict block n area ∷ add block ts n area ∷ []) whole

  -- change nothing that additions leave as it is
  pub none_taken : {A : Type 0} (step : A → Step → A) (h : Header) (start : A) → ((n : ℕ) (a : VisibleArea) → start ≡ step start (add block ts n a))
      → start ≡ fold step start (joined (block_count block.area) (steps_at h block ts))
  unfolding steps_at
  none_taken step h start same =
      fold_joined_same step start (block_count block.area) (steps_at h block ts) (λ n. go n (transform_block h block.plane block.area n))
    where
      go : (n : ℕ) (o : Option TransformBlock) → start ≡ fold step start (block_steps block ts n o)
      go n None = refl
      go n (Some b) = same n (block_area block b) ∙ ap (fold step start) (sym (alone n b))

  -- so they add nothing, prepare no edge, and no more is kept
  module _ {T : Type 0} (num : T → ℕ) (pixel : ℕ → T) (back : (x : T) → pixel (num x) ≡ x) (plan : Scene) (luma : PlaneBlock → ℕ → ℕ → ℤ)
      (plane : Plane T) (none : length ts ≡ 0) (within : All (λ v. num v < 2 ^ plan.header.depth) plane.samples) where
    none_adds : (n : ℕ) (a : VisibleArea) → plane ≡ fast_in num pixel plan block.plane luma plane (add block ts n a)
    unfolding fast_in
    none_adds n a = none_painted num pixel back (follows_av1 plan.header) plan.header.depth block ts n plane a none within

    pub none_kept : (kept : Gathered T) → (plane, kept) ≡
        fold (keeping_in num pixel plan block.plane luma) (plane, kept) (joined (block_count block.area) (steps_at plan.header block ts))
    unfolding keeping_in kept_in
    none_kept kept =
        none_taken (keeping_in num pixel plan block.plane luma) plan.header (plane, kept) (λ n a. ap (λ (z : Plane T). (z, kept)) (none_adds n a))

-- from place at on, up to place end, stand all triples of block n
pub record AreOwn (n : ℕ) (all : List Triple) (at end : ℕ) : Type 0 where
  pub rises : at ≤ end
  pub within : end ≤ length all
  pub before : (k : ℕ) (d : Triple) → k < at → (get_or all k d).block ≢ n
  pub behind : (k : ℕ) (d : Triple) → end ≤ k → k < length all → (get_or all k d).block ≢ n

before_others : (n : ℕ) (all : List Triple) (at end : ℕ) → AreOwn n all at end → AllByRecursion (λ t. t.block ≢ n) (take at all)
before_others n all at end is =
    recursion_from_All (λ t. t.block ≢ n) (take at all) (λ k d lt e.
    let l : k < at = omega (arith, lt, length-take at all) in
    is.before k d l (sym (ap (λ (t : Triple). t.block) (get_or-take at all k d l)) ∙ e))

behind_others : (n : ℕ) (all : List Triple) (at end : ℕ) → AreOwn n all at end → AllByRecursion (λ t. t.block ≢ n) (drop (end - at) (drop at all))
behind_others n all at end is =
    recursion_from_All (λ t. t.block ≢ n) (drop (end - at) (drop at all)) (λ k d lt e.
    let l : at + (end - at + k) < length all = omega (arith, lt, length-drop (end - at) (drop at all), length-drop at all) in
    is.behind (at + (end - at + k)) d (omega (arith, is.rises)) l
    (sym (ap (λ (t : Triple). t.block) (get_or-drop (end - at) (drop at all) k d ∙ get_or-drop at all (end - at + k) d)) ∙ e))

-- a triple from place at on
own_at : (all : List Triple) (at n k : ℕ) (d : Triple) → k < length (take n (drop at all)) → (get_or (take n (drop at all)) k d ≡ get_or all (at + k) d) ×
    (at + k < length all)
own_at all at n k d l =
    let m : k < n = omega (arith, l, length-take n (drop at all)) in
    (get_or-take n (drop at all) k d m ∙ get_or-drop at all k d, omega (arith, l, length-take n (drop at all), length-drop at all))

-- a block's own triples fit as all do
pub own_fits : (cfg other : PlaneConfig) (h : Header) (block : PlaneBlock) (all : List Triple) (at n : ℕ) → other ≡ cfg → BlockFits cfg h block all →
    BlockFits other h block (take n (drop at all))
own_fits cfg other h block all at n same fits = record {
  columns = subst (λ (c : PlaneConfig). c.xorigin + (block.area.x + block_width block.area.size) ≤ c.stride) (sym same) fits.columns;
  rows = subst (λ (c : PlaneConfig). c.yorigin + (block.area.y + block_height block.area.size) ≤ c.alloc_height) (sym same) fits.rows;
  prediction = fits.prediction;
  transform = fits.transform;
  lossless = fits.lossless;
  coefficients = λ k d l. let here = own_at all at n k d l in subst (TripleFits h.depth block) (sym here.0) (fits.coefficients (at + k) d here.1);
  rising = λ i j d le l.
      let first = own_at all at n i d (omega (arith, le, l)) in
      let second = own_at all at n j d l in
      let rise = fits.rising (at + i) (at + j) d (omega (arith, le)) second.1 in
      omega (arith, rise, ap (λ (t : Triple). t.block) first.0, ap (λ (t : Triple). t.block) second.0);
}

pub own_coefficients : (size : TxSize) (n : ℕ) (all : List Triple) (at end : ℕ) → AreOwn n all at end →
    coefficients size n (take (end - at) (drop at all)) ≡ coefficients size n all
unfolding coefficients
own_coefficients size n all at end is =
    let f = with_triple n in
    let z = replicate (coded_area size) (pos 0) in
    let front = take at all in
    let own = take (end - at) (drop at all) in
    let rest = drop (end - at) (drop at all) in
    let parts : front ++ (own ++ rest) ≡ all = ap (λ l. front ++ l) (take-append-drop (end - at) (drop at all)) ∙ take-append-drop at all in
    sym (others n (fold f z own) rest (behind_others n all at end is)) ∙ sym (fold-append f z own rest)
    ∙ ap (λ cs. fold f cs (own ++ rest)) (sym (others n z front (before_others n all at end is))) ∙ sym (fold-append f z front (own ++ rest))
    ∙ ap (fold f z) parts

-- the steps of a block are the same where its additions are
alike_at : {A : Type 0} (step : A → Step → A) (block : PlaneBlock) (own all : List Triple) (n : ℕ) (start : A) (o : Option TransformBlock) →
    ((q : A) (a : VisibleArea) → step q (add block own n a) ≡ step q (add block all n a))
    → fold step start (block_steps block own n o) ≡ fold step start (block_steps block all n o)
alike_at step block own all n start None e = refl
alike_at step block own all n start (Some b) e = go (is_whole block.prediction)
  where
    a : VisibleArea
    a = block_area block b

    go : (t : Bool) → fold step start (if t then add block own n a ∷ [] else predict block n a ∷ add block own n a ∷ []) ≡
        fold step start (if t then add block all n a ∷ [] else predict block n a ∷ add block all n a ∷ [])
    go true = e start a
    go false = e (step start (predict block n a)) a

module _ {T : Type 0} (num : T → ℕ) (pixel : ℕ → T) (plan : Scene) (p : ℕ) (luma : PlaneBlock → ℕ → ℕ → ℤ) (h : Header) (block : PlaneBlock)
    (all : List Triple) (n at end : ℕ) (is : AreOwn n all at end) where
  own_adds : (q : Plane T) (a : VisibleArea) → fast_in num pixel plan p luma q (add block (take (end - at) (drop at all)) n a) ≡
      fast_in num pixel plan p luma q (add block all n a)
  unfolding fast_in block_residue
  own_adds q a =
      ap (λ cs. painted_plane q a
      (λ r c v. pixel (added plan.header.depth (num v) (residue_by (follows_av1 plan.header) block.area.tx_size block.tx_type plan.header.depth cs r c))))
      (own_coefficients block.area.tx_size n all at end is)

  -- so its own triples do as well as all
  pub own_kept : (s : Keeping (Plane T) T) → fold (keeping_in num pixel plan p luma) s (steps_at h block (take (end - at) (drop at all)) n) ≡
      fold (keeping_in num pixel plan p luma) s (steps_at h block all n)
  unfolding steps_at keeping_in kept_in
  own_kept s =
      alike_at (keeping_in num pixel plan p luma) block _ all n s (transform_block h block.plane block.area n)
      (λ q a. ap (λ (z : Plane T). (z, q.1)) (own_adds q.0 a))

-- ---- the run of a block's triples

-- Triples that rise, of which those up to place at are of blocks before block n and the others of block n and later ones; and the count
-- of those from there on that are of block n.
pub record IsRun (n : ℕ) (all : List Triple) (at count : ℕ) : Type 0 where
  pub within : at ≤ length all
  pub before : (k : ℕ) (d : Triple) → k < at → (get_or all k d).block < n
  pub behind : (k : ℕ) (d : Triple) → at ≤ k → k < length all → n ≤ (get_or all k d).block
  pub rising : AreRising all
  pub counted : count ≤ length (take (length all - at) (drop at all))
  pub own : (k : ℕ) (d : Triple) → k < count → (get_or (take (length all - at) (drop at all)) k d).block ≡ n
  pub end : (d : Triple) → count < length (take (length all - at) (drop at all)) → (get_or (take (length all - at) (drop at all)) count d).block ≢ n

module _ (n : ℕ) (all : List Triple) (at count : ℕ) (is : IsRun n all at count) where
  rest_length : length (take (length all - at) (drop at all)) ≡ length all - at
  rest_length = omega (arith, length-take (length all - at) (drop at all), length-drop at all)

  rest_at : (k : ℕ) (d : Triple) → k < length all - at → (get_or (take (length all - at) (drop at all)) k d).block ≡ (get_or all (at + k) d).block
  rest_at k d l = ap (λ (t : Triple). t.block) (get_or-take (length all - at) (drop at all) k d l ∙ get_or-drop at all k d)

  pub run_within : at + count ≤ length all
  run_within = omega (arith, is.within, is.counted, rest_length)

  -- those up to the run's end are of this block or earlier ones
  pub run_before : (k : ℕ) (d : Triple) → k < at + count → (get_or all k d).block < n + 1
  run_before k d l = elim (cases_lt k at) [
    | inl e ↦ omega (arith, is.before k d e)
    | inr e ↦
        let i : at + (k - at) ≡ k = omega arith in
        let same = sym (rest_at (k - at) d (omega (arith, run_within))) ∙ is.own (k - at) d (omega arith) in
        omega (arith, ap (λ j. (get_or all j d).block) i, same)
  ]

  -- and the others of later ones
  pub run_behind : (k : ℕ) (d : Triple) → at + count ≤ k → k < length all → n + 1 ≤ (get_or all k d).block
  run_behind k d le l =
      let inside : count < length all - at = omega (arith, le, l) in
      let first : (get_or all (at + count) d).block ≢ n = λ e. is.end d (omega (arith, rest_length)) (rest_at count d inside ∙ e) in
      let least = is.behind (at + count) d (omega arith) (omega arith) in
      let rises = is.rising (at + count) k d le l in
      omega (arith, first, least, rises)

  pub run_is_own : AreOwn n all at (at + count)
  run_is_own = record {
    rises = omega arith;
    within = run_within;
    before = λ k d l e. absurd (omega (arith, is.before k d l, e));
    behind = λ k d le l e. absurd (omega (arith, run_behind k d le l, e));
  }
