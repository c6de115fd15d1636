-- Bounds that are spelled rise from 0 to the side of the frame, and the rectangles between them are frames.
use Rattle.std.proofs.Common.{◌≡◌, ℕ, zero, suc, ◌+◌, ◌-◌, ◌%◌, ◌<◌, ◌≤◌, List, [], ◌∷◌, ◌++◌, length, Ok, refl, sym, ap, subst, ◌∙◌, arith, inl, inr}
use Rattle.std.specs.Prelude.{slice_index, ◌&&◌, ◌==◌, nat_lt}
use Rattle.std.proofs.lemmas.Bool.{and_parts, cases_lt, eqb-true, ltb-true}
use Rattle.av1_plan.specs.declared.header.Header.{Header}
use Rattle.av1_plan.specs.Format.{IsAdmitted, done, ◌>>=◌, Input, on_ok, read_field, read, add}
use Rattle.av1_plan.specs.Geometry.{coded_width, coded_height, coded_side}
use Rattle.av1_plan.specs.Grammar.{byte_from}
use Rattle.av1_plan.specs.ReadPlans.{IsReadFrame, IsShown, IsSide}
use Rattle.av1_plan.specs.Spelling.{IsSpelled}
use Rattle.av1_plan.proofs.Formats.{add_asks, add_done, add_behind, on_ok_same}
use Rattle.av1_plan.proofs.Lists.{read_empty}
use Rattle.av1_plan.proofs.Pieces.{spelled_done, spelled_asks, spelled_bind}
use Rattle.av1_plan.proofs.ReadFrames.{range_is}
use Rattle.av1_tiles.specs.Bounds.{AreBounds}
use Rattle.av1_tiles.specs.Grammar.{start_after, starts, bounds}
use Rattle.av1_tiles.specs.Tiles.{IsTileArea, area_between}

-- a start lies behind the one before, in the frame
record IsStart (side previous v : ℕ) : Type 0 where
  whole : v % 64 ≡ 0
  behind : previous < v
  inside : v < side

start_is : (side previous v : ℕ) → IsAdmitted (start_after side previous) v → IsStart side previous v
start_is side previous v is =
    let (front, inside) = and_parts (v % 64 == 0 && nat_lt previous v) (nat_lt v side) is.admitted in
    let (whole, behind) = and_parts (v % 64 == 0) (nat_lt previous v) front in
    record { whole = eqb-true (v % 64) 0 whole; behind = ltb-true previous v behind; inside = ltb-true v side inside }

-- bounds from one on, of n starts behind it
record AreBehind (side n : ℕ) (xs : List ℕ) : Type 0 where
  count : length xs ≡ n + 2
  last : slice_index xs (n + 1) ≡ side
  within : (k : ℕ) → k < length xs → slice_index xs k ≤ side
  whole : (k : ℕ) → k + 1 < length xs → slice_index xs k % 64 ≡ 0
  rising : (k : ℕ) → k + 1 < length xs → slice_index xs k < slice_index xs (k + 1)

last_two : (side previous : ℕ) → previous % 64 ≡ 0 → previous < side → AreBehind side 0 (previous ∷ side ∷ [])
last_two side previous multiple lt = record { count = refl; last = refl; within = within; whole = whole; rising = rising }
  where
    within : (k : ℕ) → k < 2 → slice_index (previous ∷ side ∷ []) k ≤ side
    within zero h = omega (arith, lt)
    within (suc zero) h = omega arith
    within (suc (suc k)) h = absurd (omega (arith, h))

    whole : (k : ℕ) → k + 1 < 2 → slice_index (previous ∷ side ∷ []) k % 64 ≡ 0
    whole zero h = multiple
    whole (suc k) h = absurd (omega (arith, h))

    rising : (k : ℕ) → k + 1 < 2 → slice_index (previous ∷ side ∷ []) k < slice_index (previous ∷ side ∷ []) (k + 1)
    rising zero h = lt
    rising (suc k) h = absurd (omega (arith, h))

one_before : (side n previous v : ℕ) (xs : List ℕ) → previous % 64 ≡ 0 → previous < v → AreBehind side n (v ∷ xs) → AreBehind side (suc n) (previous ∷ v ∷ xs)
one_before side n previous v xs multiple lt are = record {
  count = ap suc are.count ∙ plus 2;
  last = ap (slice_index (previous ∷ v ∷ xs)) (sym (plus 1)) ∙ are.last;
  within = within;
  whole = whole;
  rising = rising;
}
  where
    plus : (m : ℕ) → suc (n + m) ≡ suc n + m
    plus m = omega arith

    within : (k : ℕ) → k < length (previous ∷ v ∷ xs) → slice_index (previous ∷ v ∷ xs) k ≤ side
    within zero h = omega (arith, lt, are.within 0 (omega arith))
    within (suc k) h = are.within k (omega (arith, h))

    whole : (k : ℕ) → k + 1 < length (previous ∷ v ∷ xs) → slice_index (previous ∷ v ∷ xs) k % 64 ≡ 0
    whole zero h = multiple
    whole (suc k) h = are.whole k (omega (arith, h))

    rising : (k : ℕ) → k + 1 < length (previous ∷ v ∷ xs) → slice_index (previous ∷ v ∷ xs) k < slice_index (previous ∷ v ∷ xs) (k + 1)
    rising zero h = lt
    rising (suc k) h = let e : suc k + 1 ≡ suc (k + 1) = omega arith in rw e (are.rising k (omega (arith, h)))

starts_are : (side n previous : ℕ) (xs : List ℕ) → previous % 64 ≡ 0 → previous < side → IsSpelled (starts side previous n) xs →
    AreBehind side n (previous ∷ xs)
unfolding starts
starts_are side zero previous xs multiple lt s =
    subst (λ (ys : List ℕ). AreBehind side 0 (previous ∷ ys)) (spelled_done (side ∷ []) xs s) (last_two side previous multiple lt)
starts_are side (suc n) previous xs multiple lt s =
    let (v, v_in, s1) = spelled_asks (start_after side previous) _ xs s in
    let (more, more_spelled, s2) = spelled_bind (starts side v n) _ xs s1 in
    let is = start_is side previous v v_in in
    let later = starts_are side n v more is.whole is.inside more_spelled in
    subst (λ (ys : List ℕ). AreBehind side (suc n) (previous ∷ ys)) (spelled_done (v ∷ more) xs s2) (one_before side n previous v more multiple is.behind later)

behind_are : (side n : ℕ) (xs : List ℕ) → n ≤ 31 → AreBehind side n (0 ∷ xs) → AreBounds side (0 ∷ xs)
behind_are side n xs few are =
    let last : length (0 ∷ xs) - 1 ≡ n + 1 = omega (arith, are.count) in
    record {
      some = omega (arith, are.count);
      few = omega (arith, are.count, few);
      first = refl;
      last = ap (slice_index (0 ∷ xs)) last ∙ are.last;
      within = are.within;
      whole = are.whole;
      rising = are.rising;
    }

pub bounds_are : (side : ℕ) (xs : List ℕ) → 0 < side → IsSpelled (bounds side) xs → AreBounds side xs
unfolding bounds
bounds_are side xs some s =
    let (count, count_in, s1) = spelled_asks (byte_from 1 32) _ xs s in
    let (more, more_spelled, s2) = spelled_bind (starts side 0 (count - 1)) _ xs s1 in
    let (least, most) = range_is 1 32 count count_in in
    subst (AreBounds side) (spelled_done (0 ∷ more) xs s2)
    (behind_are side (count - 1) more (omega (arith, most)) (starts_are side (count - 1) 0 more refl some more_spelled))

-- ---- between two bounds

-- each bound is a multiple of 8
eighths : (side : ℕ) (xs : List ℕ) → side % 8 ≡ 0 → AreBounds side xs → (k : ℕ) → k < length xs → slice_index xs k % 8 ≡ 0
eighths side xs multiple are k lt = elim (cases_lt (k + 1) (length xs)) [
  | inl before ↦ omega (arith, are.whole k before)
  | inr end ↦ (
      let place : length xs - 1 ≡ k = omega (arith, lt, end) in
      let value : slice_index xs k ≡ side = sym (ap (slice_index xs) place) ∙ are.last in
      subst (λ (n : ℕ). n % 8 ≡ 0) (sym value) multiple)
]

-- what is shown between two, of what is coded there
shown_between : (version side : ℕ) (xs : List ℕ) → (version ≤ 2 → side % 8 ≡ 0) → AreBounds side xs → (k : ℕ) → k + 1 < length xs →
    IsShown version (slice_index xs (k + 1) - slice_index xs k) (coded_side (slice_index xs (k + 1) - slice_index xs k))
shown_between version side xs whole are k lt =
    let rise = are.rising k lt in
    record {
      some = omega (arith, rise);
      within = omega arith;
      near = omega arith;
      whole = λ early.
          let first = eighths side xs (whole early) are k (omega (arith, lt)) in
          let second = eighths side xs (whole early) are (k + 1) lt in
          omega (arith, first, second, rise);
    }

coded_between : (side : ℕ) (xs : List ℕ) → side ≤ 2048 → AreBounds side xs → (k : ℕ) → k + 1 < length xs →
    IsSide (coded_side (slice_index xs (k + 1) - slice_index xs k))
coded_between side xs few are k lt =
    let rise = are.rising k lt in
    let most = are.within (k + 1) lt in
    record { whole = omega arith; least = omega (arith, rise); most = omega (arith, most, few) }

-- the rectangle between two columns and two rows
pub area_of : (h : Header) (columns rows : List ℕ) (k r : ℕ) → IsReadFrame h → AreBounds h.width columns → AreBounds h.height rows →
    k + 1 < length columns → r + 1 < length rows → IsTileArea h (area_between columns rows k r)
unfolding coded_width coded_height
area_of h columns rows k r read wide high column row = record {
  columns = omega (arith, wide.rising k column, wide.within (k + 1) column);
  rows = omega (arith, high.rising r row, high.within (r + 1) row);
  frame = record {
    least_version = read.least_version;
    most_version = read.most_version;
    width = coded_between h.width columns (omega (arith, read.shown_width.within, read.width.most)) wide k column;
    height = coded_between h.height rows (omega (arith, read.shown_height.within, read.height.most)) high r row;
    shown_width = shown_between h.version h.width columns (λ early. omega (arith, read.shown_width.whole early, read.width.whole)) wide k column;
    shown_height = shown_between h.version h.height rows (λ early. omega (arith, read.shown_height.whole early, read.height.whole)) high r row;
    depth = read.depth;
    sampling = read.sampling;
    filter = read.filter;
    slots = read.slots;
    mask = read.mask;
  };
}

-- ---- reading

-- one start, and then the others behind it
pub starts_more : (side previous count : ℕ) (xs : List ℕ) (i : Input) → 0 < count
    → add (starts side previous count) (xs, i) ≡ on_ok (read_field (start_after side previous) i) (λ p. add (starts side p.0 (count - 1)) (xs ++ p.0 ∷ [], p.1))
unfolding starts
starts_more side previous count xs i lt =
    let k : count ≡ suc (count - 1) = omega (arith, lt) in
    ap (λ (n : ℕ). add (starts side previous n) (xs, i)) k
    ∙ add_asks (start_after side previous) (λ v. starts side v (count - 1) >>= λ more. done (v ∷ [] ++ more)) xs i
    ∙ on_ok_same (read_field (start_after side previous) i) (λ p. add (starts side p.0 (count - 1) >>= λ more. done (p.0 ∷ [] ++ more)) (xs, p.1))
    (λ p. add (starts side p.0 (count - 1)) (xs ++ p.0 ∷ [], p.1))
    (λ p. add_behind (starts side p.0 (count - 1)) xs (p.0 ∷ []) p.1)

-- no start, and the end
pub starts_end : (side previous : ℕ) (xs : List ℕ) (i : Input) → add (starts side previous 0) (xs, i) ≡ Ok (xs ++ side ∷ [], i)
unfolding starts
starts_end side previous xs i = add_done (side ∷ []) xs i

-- a count, and so many starts behind 0
pub bounds_read : (side : ℕ) (i : Input) → read (bounds side) i ≡ on_ok (read_field (byte_from 1 32) i) (λ p. add (starts side 0 (p.0 - 1)) (0 ∷ [], p.1))
unfolding bounds
bounds_read side i =
    on_ok_same (read_field (byte_from 1 32) i) (λ p. read (starts side 0 (p.0 - 1) >>= λ more. done (0 ∷ [] ++ more)) p.1)
    (λ p. add (starts side 0 (p.0 - 1)) (0 ∷ [], p.1))
    (λ p. read_empty (starts side 0 (p.0 - 1) >>= λ more. done (0 ∷ [] ++ more)) p.1 ∙ add_behind (starts side 0 (p.0 - 1)) [] (0 ∷ []) p.1)

pub ruleset reading = (starts_more, starts_end, bounds_read)
