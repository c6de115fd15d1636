-- How many samples the planes of a frame have.
use Rattle.std.proofs.Common.{◌≡◌, ◌≢◌, ℕ, zero, suc, ◌+◌, ◌-◌, ◌*◌, ◌==◌, ◌<◌, ◌≤◌, Bool, false, inl, inr, List, get_or, take, drop, ap, sym, subst, ◌∙◌}
use Rattle.std.proofs.Common.{arith}
use Rattle.std.specs.Prelude.{if◌then◌else◌}
use Rattle.std.proofs.lemmas.Bool.{cases_Bool, eqb-true}
use Rattle.std.proofs.lemmas.List.{get_or-take, get_or-drop}
use Rattle.std.proofs.Math.Nat.{mul-le-mul, mul-le-mul_left}
use Rattle.av1_trace.specs.Samples.{planes_len, sample_from, sample_len, samples_before}
use Rattle.av1_plan.specs.ReadPlans.{IsReadFrame}
use Rattle.av1_plan.specs.declared.header.Header.{Header}
use Rattle.av1_plan.specs.Geometry.{plane_len, shown_rows, shown_columns}
use Rattle.av1_plan.proofs.Shown.{columns_few, rows_few}

-- a plane has no more samples than the largest frame
pub plane_is_small : (h : Header) (p : ℕ) → IsReadFrame h → plane_len h p ≤ 4194304
plane_is_small h p read =
    let columns : shown_columns h p ≤ 2048 = omega (arith, columns_few h p, read.shown_width.within, read.width.most) in
    let rows : shown_rows h p ≤ 2048 = omega (arith, rows_few h p, read.shown_height.within, read.height.most) in
    mul-le-mul columns rows

-- the samples of a row are among those of its plane
pub in_plane : (h : Header) (p y : ℕ) → y < shown_rows h p → y * shown_columns h p + shown_columns h p ≤ plane_len h p
in_plane h p y below =
    let next : suc y ≤ shown_rows h p = omega arith in
    omega (arith, mul-le-mul_left (shown_columns h p) next)

-- the samples of a row are among those of the three planes
behind : (h : Header) (p n : ℕ) → p < 3 → n ≤ plane_len h p → samples_before h p + n ≤ samples_before h 3
unfolding samples_before
behind h zero n l m = omega arith
behind h (suc zero) n l m = omega arith
behind h (suc (suc zero)) n l m = omega arith
behind h (suc (suc (suc p))) n l m = absurd (omega arith)

pub row_fits : (h : Header) (p y : ℕ) → p < 3 → y < shown_rows h p → samples_before h p + (y * shown_columns h p + shown_columns h p) ≤ samples_before h 3
row_fits h p y few below = behind h p (y * shown_columns h p + shown_columns h p) few (in_plane h p y below)

-- so many samples lie in a row and above it
pub row_is_small : (h : Header) (p y w : ℕ) → IsReadFrame h → y < shown_rows h p → w ≡ shown_columns h p → y * w + w ≤ 4194304
row_is_small h p y w read below e =
    let here : y * shown_columns h p + shown_columns h p ≤ 4194304 = omega (arith, in_plane h p y below, plane_is_small h p read) in
    subst (λ (v : ℕ). y * v + v ≤ 4194304) (sym e) here

-- the bytes of a row lie among those of the planes
pub bytes_fit : (h : Header) (p y before w n : ℕ) → n ≡ planes_len h → before ≡ samples_before h p → w ≡ shown_columns h p → p < 3 → y < shown_rows h p →
    sample_len h.depth * (before + y * w + w) ≤ n
unfolding planes_len
bytes_fit h p y before w n whole b e few below =
    let fits : before + y * shown_columns h p + shown_columns h p ≤ samples_before h 3 = omega (arith, row_fits h p y few below, b) in
    let moved : before + y * w + w ≤ samples_before h 3 = subst (λ (v : ℕ). before + y * v + v ≤ samples_before h 3) (sym e) fits in
    subst (λ (m : ℕ). sample_len h.depth * (before + y * w + w) ≤ m) (sym whole) (mul-le-mul_left (sample_len h.depth) moved)

-- ---- bytes of samples

-- a sample of a part of the bytes, at depth 8
pub narrow_part : (depth start count : ℕ) (bytes : List ℕ) → depth ≡ 8 → (i : ℕ) → i < count →
    sample_from depth (take (start + count - start) (drop start bytes)) i ≡ sample_from depth bytes (start + i)
unfolding sample_from
narrow_part depth start count bytes e i h =
    let within : i < start + count - start = omega arith in
    let part : get_or (take (start + count - start) (drop start bytes)) i 0 ≡ get_or bytes (start + i) 0 =
    get_or-take (start + count - start) (drop start bytes) i 0 within ∙ get_or-drop start bytes i 0 in
    subst (λ (d : ℕ). sample_from d (take (start + count - start) (drop start bytes)) i ≡ sample_from d bytes (start + i)) (sym e) part

wide_sample : (depth : ℕ) (bytes : List ℕ) (i : ℕ) → depth ≢ 8 → sample_from depth bytes i ≡ get_or bytes (2 * i) 0 + 256 * get_or bytes (2 * i + 1) 0
unfolding sample_from
wide_sample depth bytes i n =
    let wide : (depth == 8) ≡ false = elim (cases_Bool (depth == 8)) [
      | inl t ↦ absurd (n (eqb-true depth 8 t))
      | inr f ↦ f
    ] in
    ap (λ (b : Bool). if b then get_or bytes i 0 else get_or bytes (2 * i) 0 + 256 * get_or bytes (2 * i + 1) 0) wide

part_of : (bytes : List ℕ) (start n i j : ℕ) → i < n → j ≡ start + i → get_or (take n (drop start bytes)) i 0 ≡ get_or bytes j 0
part_of bytes start n i j h e = get_or-take n (drop start bytes) i 0 h ∙ get_or-drop start bytes i 0 ∙ ap (λ (z : ℕ). get_or bytes z 0) (sym e)

-- the same at the other depths
pub wide_part : (depth start count : ℕ) (bytes : List ℕ) → depth ≢ 8 → (i : ℕ) → i < count →
    sample_from depth (take (2 * (start + count) - 2 * start) (drop (2 * start) bytes)) i ≡ sample_from depth bytes (start + i)
wide_part depth start count bytes n i h =
    let part = take (2 * (start + count) - 2 * start) (drop (2 * start) bytes) in
    let low : get_or part (2 * i) 0 ≡ get_or bytes (2 * (start + i)) 0 =
    part_of bytes (2 * start) (2 * (start + count) - 2 * start) (2 * i) (2 * (start + i)) (omega arith) (omega arith) in
    let high : get_or part (2 * i + 1) 0 ≡ get_or bytes (2 * (start + i) + 1) 0 =
    part_of bytes (2 * start) (2 * (start + count) - 2 * start) (2 * i + 1) (2 * (start + i) + 1) (omega arith) (omega arith) in
    wide_sample depth part i n ∙ ap (λ (v : ℕ). v + 256 * get_or part (2 * i + 1) 0) low ∙ ap (λ (v : ℕ). get_or bytes (2 * (start + i)) 0 + 256 * v) high
    ∙ sym (wide_sample depth bytes (start + i) n)
