-- Eight lanes that samples are taken in to, each the greater of what it was and of one of them.
use Rattle.std.proofs.Common.{◌≡◌, ℕ, suc, ◌+◌, ◌-◌, ◌*◌, ◌^◌, ◌<◌, ◌≤◌, Bool, true, false, cond, ltb, leb, List, [], ◌∷◌, map, length, get_or, replicate, refl}
use Rattle.std.proofs.Common.{sym, ap, subst, ◌∙◌, inl, inr, arith, w16}
use Rattle.std.proofs.lemmas.Bool.{cases_lt, ltb-true, ltb-false}
use Rattle.std.proofs.lemmas.Simd.{length-zip2, get_or-zip2, get_or-sel_l, get_or-replicate, tops_compared, length-chunk, get_or-chunk}
use lib.Lanes.{zip2, sel_l, mask_l, top, chunk}
use Rattle.av1_frame.specs.Areas.{AreRows}
use Rattle.av1_frame.specs.Samples.{row_start}
use Rattle.av1_frame.proofs.Fits.{rows_le}
use Rattle.av1_frame.proofs.Paint.{row_within}
use Rattle.av1_frame.specs.declared.plane_region.StoredArea.{StoredArea}
use Rattle.av1_calls.specs.Samples.{AreHeld, TakesIn, TakesInRows, area_sample}

-- what the comparison of two lanes gives
abbrev pub less : ℕ → ℕ → ℕ
less a b = cond (ltb a b) 65535 0

abbrev pub at_most : ℕ → ℕ → ℕ
at_most a b = cond (leb a b) 65535 0

-- a lane of the greater of two vectors
abbrev pub chosen : List ℕ → List ℕ → List ℕ
chosen old new = sel_l (map (top 15) (zip2 less old new)) new old

greater_lane : (old new : List ℕ) → length old ≡ 8 → length new ≡ 8 → (i : ℕ) → i < 8 →
    get_or (chosen old new) i 0 ≡ cond (ltb (get_or old i 0) (get_or new i 0)) (get_or new i 0) (get_or old i 0)
greater_lane old new p q i h =
    let long : length (zip2 ltb old new) ≡ 8 = length-zip2 ltb old new (p ∙ sym q) ∙ p in
    ap (λ ms. get_or (sel_l ms new old) i 0) (tops_compared w16 ltb old new)
    ∙ get_or-sel_l (zip2 ltb old new) new old i 0 (omega arith) (omega arith) (omega arith)
    ∙ ap (λ b. cond b (get_or new i 0) (get_or old i 0)) (get_or-zip2 ltb old new i 0 0 false (omega arith) (omega arith))

old_below : (a b n : ℕ) → cond (ltb a b) b a < n → a < n
old_below a b n = go (ltb a b) refl
  where
    go : (t : Bool) → ltb a b ≡ t → cond t b a < n → a < n
    go true e h = let l = ltb-true a b e in omega (arith, l, h)
    go false e h = h

new_below : (a b n : ℕ) → cond (ltb a b) b a < n → b < n
new_below a b n = go (ltb a b) refl
  where
    go : (t : Bool) → ltb a b ≡ t → cond t b a < n → b < n
    go true e h = h
    go false e h = let l = ltb-false a b e in omega (arith, l, h)

both_below : (a b n : ℕ) → a < n → b < n → cond (ltb a b) b a < n
both_below a b n h k = go (ltb a b)
  where
    go : (t : Bool) → cond t b a < n
    go true = k
    go false = h

-- the greater of lanes and of eight samples
pub takes_in : (samples : List ℕ) (start : ℕ) (old : List ℕ) → length old ≡ 8 → start + 8 ≤ length samples →
    TakesIn samples start 8 old (chosen old (chunk start 8 samples))
takes_in samples start old long room =
    let new : List ℕ = chunk start 8 samples in
    let q : length new ≡ 8 = length-chunk start 8 samples room in
    let is : (i : ℕ) → i < 8 → get_or (chosen old new) i 0 ≡ cond (ltb (get_or old i 0) (get_or new i 0)) (get_or new i 0) (get_or old i 0) =
    greater_lane old new long q in
    let sample : (i : ℕ) → i < 8 → get_or new i 0 ≡ get_or samples (start + i) 0 = λ i h. get_or-chunk start 8 samples i 0 h in
    record {
      lanes = λ n all i h. old_below _ _ n (subst (λ (x : ℕ). x < n) (is i h) (all i h));
      each = λ n all i h. subst (λ (x : ℕ). x < n) (sample i h) (new_below _ _ n (subst (λ (x : ℕ). x < n) (is i h) (all i h)));
      reached = λ n all each i h. subst (λ (x : ℕ). x < n) (sym (is i h)) (both_below _ _ n (all i h) (subst (λ (x : ℕ). x < n) (sym (sample i h)) (each i h)));
    }

-- samples from t on are taken in behind those from s on, and may be among these
pub taken_on : (samples : List ℕ) (s m t k n : ℕ) {old mid new : List ℕ} → TakesIn samples s m old mid → TakesIn samples t k mid new → s ≤ t → t ≤ s + m →
    s + n ≡ t + k → m ≤ n → TakesIn samples s n old new
taken_on samples s m t k n first second low near ends more = record {
  lanes = λ b all. first.lanes b (second.lanes b all);
  each = λ b all i h. elim (cases_lt i m) [
    | inl lt ↦ first.each b (second.lanes b all) i lt
    | inr from ↦ (let e : t + (s + i - t) ≡ s + i = omega arith in subst (λ (p : ℕ). get_or samples p 0 < b) e (second.each b all (s + i - t) (omega arith)))
  ];
  reached = λ b all each. second.reached b (first.reached b all (λ i h. each i (omega arith)))
      (λ i h. let e : s + (t - s + i) ≡ t + i = omega arith in subst (λ (p : ℕ). get_or samples p 0 < b) e (each (t - s + i) (omega arith)));
}

-- no row is taken in yet
pub no_rows : (stride : ℕ) (area : StoredArea) (samples : List ℕ) → TakesInRows stride area samples 0 (replicate 8 0)
no_rows stride area samples = record {
  each = λ b all r c h. absurd (omega arith);
  reached = λ b some all i h. subst (λ (x : ℕ). x < b) (sym (get_or-replicate 8 i 0 0 h)) some;
}

-- one row more
pub row_on : (stride : ℕ) (area : StoredArea) (samples : List ℕ) (rows : ℕ) {old new : List ℕ} → TakesInRows stride area samples rows old →
    TakesIn samples (row_start stride area rows) area.width old new → TakesInRows stride area samples (rows + 1) new
row_on stride area samples rows first row = record {
  each = λ b all r c h k. elim (cases_lt r rows) [
    | inl lt ↦ first.each b (row.lanes b all) r c lt k
    | inr from ↦ (let e : r ≡ rows = omega arith in subst (λ (m : ℕ). area_sample stride area samples m c < b) (sym e) (row.each b all c k))
  ];
  reached = λ b some all. row.reached b (first.reached b some (λ r c h k. all r c (omega arith) k)) (λ c k. all rows c (omega arith) k);
}

-- each row of a rectangle of whole rows ends in the samples
pub rows_held : (stride n : ℕ) (area : StoredArea) → AreRows stride area n → AreHeld stride area n
rows_held stride n area rows = record {
  some = rows.some;
  columns = rows.columns;
  rows = λ r h. row_within stride area n r rows h;
  few = rows.few;
}

-- so the number of a row is small
several : (a b : ℕ) → 0 < b → a ≤ a * b
several a b h = grind arith

pub row_small : (stride n r : ℕ) (area : StoredArea) → AreHeld stride area n → r < area.height → area.y + r < 2 ^ 64
row_small stride n r area held h =
    let ends = held.rows r h in let m = several (area.y + r) stride held.some in omega (arith, ends, m, held.few)

-- they do where the last one does
pub last_holds : (stride n last : ℕ) (area : StoredArea) → 0 < stride → area.x + area.width ≤ stride → n < 2 ^ 63 → last + 1 ≡ area.y + area.height →
    last * stride + (area.x + area.width) ≤ n → AreHeld stride area n
last_holds stride n last area some columns few is ends = record {
  some = some;
  columns = columns;
  rows = λ r h. (let m = rows_le (area.y + r) last stride _ refl (omega (arith, is, h)) in omega (arith, ends, m));
  few = few;
}

-- the mask of lanes that reach a bound, where none does
pub none_reaches : (bound : ℕ) (lanes : List ℕ) → ((i : ℕ) → i < length lanes → get_or lanes i 0 < bound) →
    mask_l (map (top 15) (zip2 at_most (replicate (length lanes) bound) lanes)) ≡ 0
none_reaches bound [] below = refl
none_reaches bound (x ∷ xs) below =
    let first : leb bound x ≡ false = grind (arith, below 0 (omega arith)) in
    let others = none_reaches bound xs (λ i h. below (suc i) (omega arith)) in
    rw first (omega (arith, others))
