-- The edge that is prepared by place is the one of the canvas, for every mode, where the canvas knows just the places that may be taken.
use Rattle.std.proofs.Common.{ℕ, zero, suc, ◌+◌, ◌-◌, ◌<◌, ◌≤◌, ◌≡◌, Bool, true, false, ◌&&◌, ◌||◌, nat_lt, if◌then◌else◌, List, min, refl, ap, arith, ◌∙◌, sym}
use Rattle.std.proofs.Common.{subst, Option, Some, None, inl, inr, ℤ}
use Rattle.std.specs.Option.{unwrap_or, is_some}
use Rattle.std.specs.Prelude.{slice_index}
use Rattle.std.proofs.lemmas.Bool.{and_parts, cases_lt, le-ltb, lt-ltb, ltb-true, true≢false}
use Rattle.std.proofs.lemmas.Bool.Decides.{nat_tests}
use Rattle.std.proofs.lemmas.List.FromFn.{get_or-map-range_with_len}
use Rattle.av1_blocks.specs.Modes.{is_directional}
use Rattle.av1_blocks.specs.declared.predict.PredictionMode.{PredictionMode}
use Rattle.av1_blocks.specs.declared.predict.PredictionMode.TheVariants.{DC_PRED, UV_CFL_PRED}
use Rattle.av1_frame.specs.Areas.{VisibleArea}
use Rattle.av1_edges.specs.Edges.{Edge}
use Rattle.av1_edges.specs.Parts.{needs_left, needs_above_right, needs_below_left, needs_corner, smooths_corner}
use Rattle.av1_edges.specs.Sides.{above_at, base, corner_at, left_at, smoothed, num_avail, where_needed}
use Rattle.av1_lists.specs.Lists.{by_index}
use Rattle.av1_edges.proofs.Available.{available_place}
use Rattle.av1_tile.specs.declared.extent.PlaneExtent.{PlaneExtent}
use Rattle.av1_tile.specs.Canvas.{Written}
use Rattle.av1_tile.specs.Edge.{above_side, corner_sample, edge, first_above, first_left, known, known_above, known_left, left_side, place}
use Rattle.av1_tile.specs.Lookups.{KnowsSides}
use Rattle.av1_tile.specs.Walk.{edge_by_place}
use Rattle.av1_tile.proofs.Agreement.{listed_same}

-- ---- a side

-- known up to place n, and not from there on
place_known : (sample : ℕ → Option ℕ) (first : ℕ) (v : ℕ → ℕ) (n : ℕ) → 0 < n → ((j : ℕ) → j < n → sample j ≡ Some (v j)) → ((j : ℕ) → n ≤ j → sample j ≡ None)
    → (i : ℕ) → place sample first i ≡ v (min i (n - 1))
place_known sample first v n some below above zero = ap (λ o. unwrap_or o first) (below 0 some) ∙ ap v (omega arith)
place_known sample first v n some below above (suc i) =
    elim (cases_lt (suc i) n) [
      | inl here ↦ ap (λ o. unwrap_or o (place sample first i)) (below (suc i) here) ∙ ap v (omega arith)
      | inr past ↦ ap (λ o. unwrap_or o (place sample first i)) (above (suc i) past) ∙ place_known sample first v n some below above i ∙ ap v (omega arith)
    ]

-- not known anywhere
place_unknown : (sample : ℕ → Option ℕ) (first : ℕ) → ((j : ℕ) → sample j ≡ None) → (i : ℕ) → place sample first i ≡ first
place_unknown sample first none zero = ap (λ o. unwrap_or o first) (none 0)
place_unknown sample first none (suc i) = ap (λ o. unwrap_or o (place sample first i)) (none (suc i)) ∙ place_unknown sample first none i

none_there : (o : Option ℕ) → is_some o ≡ false → o ≡ None
none_there None e = refl
none_there (Some v) e = absurd (true≢false e)

either_none : (b : Bool) (o : Option ℕ) → o ≡ None → (if b then o else None) ≡ None
either_none true o e = e
either_none false o e = refl

-- what is known of the places that are asked for is what is taken
known_taken : (limit at w run j : ℕ) (asked right : Bool) → at < limit → j < w + where_needed asked run
    → (nat_lt (at + j) limit && (nat_lt j w || right)) ≡ nat_lt j (num_avail limit at w (asked && right) run)
known_taken limit at w run j true right begins near = sym (available_place limit at w run j right begins near)
known_taken limit at w run j false right begins near =
    let own : nat_lt j w ≡ true = lt-ltb j w (omega arith) in
    ap (λ (b : Bool). nat_lt (at + j) limit && (b || right)) own
    ∙ sym (available_place limit at w run j false begins (omega arith) ∙ ap (λ (b : Bool). nat_lt (at + j) limit && (b || false)) own)

taken_most : (limit at w run : ℕ) (asked right : Bool) → num_avail limit at w (asked && right) run ≤ w + where_needed asked run
taken_most limit at w run true true = omega arith
taken_most limit at w run true false = omega arith
taken_most limit at w run false right = omega arith

taken_some : (limit at w run : ℕ) (goes_on : Bool) → at < limit → 0 < w → 0 < num_avail limit at w goes_on run
taken_some limit at w run true begins some = omega arith
taken_some limit at w run false begins some = omega arith

module _ (K : ℕ → Option ℕ) (v : ℕ → ℕ) (first limit at w run : ℕ) (asked right : Bool) (begins : at < limit) (some : 0 < w)
    (knows : (j : ℕ) → j < w + run → is_some (K j) ≡ (nat_lt (at + j) limit && (nat_lt j w || right)))
    (value : (j : ℕ) → is_some (K j) ≡ true → K j ≡ Some (v j)) where
  abbrev n : ℕ
  n = num_avail limit at w (asked && right) run

  abbrev reached : ℕ → Option ℕ
  reached = λ j. if nat_lt j (w + where_needed asked run) then K j else None

  knows_taken : (j : ℕ) → j < w + where_needed asked run → is_some (K j) ≡ nat_lt j n
  knows_taken j near = knows j (within asked near) ∙ known_taken limit at w run j asked right begins near
    where
      within : (b : Bool) → j < w + where_needed b run → j < w + run
      within true h = h
      within false h = omega arith

  side_places : (k : ℕ) → place reached first k ≡ v (min k (n - 1))
  side_places k =
      place_known reached first v n (taken_some limit at w run (asked && right) begins some)
      (λ j here.
      let near : j < w + where_needed asked run = omega (arith, here, taken_most limit at w run asked right) in
      ap (λ (b : Bool). if b then K j else None) (lt-ltb j (w + where_needed asked run) near) ∙ value j (knows_taken j near ∙ lt-ltb j n here))
      (λ j past.
      elim (cases_lt j (w + where_needed asked run)) [
        | inl near ↦ ap (λ (b : Bool). if b then K j else None) (lt-ltb j (w + where_needed asked run) near)
            ∙ none_there (K j) (knows_taken j near ∙ le-ltb j n past)
        | inr out ↦ ap (λ (b : Bool). if b then K j else None) (le-ltb j (w + where_needed asked run) out)
      ]) k

-- ---- a rectangle

module _ (extent : PlaneExtent) (written : Written) (s : ℕ → ℕ → ℕ) (agree : (x y v : ℕ) → x < extent.width → y < extent.height → written x y ≡ Some v →
    s x y ≡ v) where
  is_value : (o : Option ℕ) (n : ℕ) → is_some o ≡ true → ((v : ℕ) → o ≡ Some v → n ≡ v) → o ≡ Some n
  is_value None n e f = absurd (true≢false (sym e))
  is_value (Some v) n e f = ap Some (sym (f v refl))

  -- a sample that is known
  known_value : (x y : ℕ) → is_some (known extent written x y) ≡ true → known extent written x y ≡ Some (s x y)
  known_value x y e = go (nat_lt x extent.width && nat_lt y extent.height) refl e
    where
      go : (t : Bool) → (nat_lt x extent.width && nat_lt y extent.height) ≡ t → is_some (if t then written x y else None) ≡ true →
          (if t then written x y else None) ≡ Some (s x y)
      go true inside e =
          let (column, row) = and_parts (nat_lt x extent.width) (nat_lt y extent.height) inside in
          is_value (written x y) (s x y) e (λ v w. agree x y v (ltb-true x extent.width column) (ltb-true y extent.height row) w)
      go false inside e = absurd (true≢false (sym e))

  -- one that was written in the extent is known
  written_value : (x y : ℕ) → x < extent.width → y < extent.height → is_some (written x y) ≡ true → written x y ≡ Some (s x y)
  written_value x y hx hy e = is_value (written x y) (s x y) e (λ v w. agree x y v hx hy w)

  known_inside : (x y : ℕ) → x < extent.width → y < extent.height → known extent written x y ≡ written x y
  known_inside x y hx hy = grind (arith, nat_tests)

  module _ (a : VisibleArea) (right low : Bool) (knows : KnowsSides extent written a right low) where
    run : ℕ
    run = min a.width a.height

    -- the first sample above, and the first to the left
    pub first_known_above : (x y : ℕ) → a.x ≡ x → a.y ≡ suc y → written x y ≡ Some (s x y)
    first_known_above x y ex ey =
        let some = knows.some_columns in
        let hx = knows.begins_x in
        let hy = knows.begins_y in
        let e : a.x + 0 ≡ x = omega (arith, ex) in
        let k : is_some (known_above extent written x (suc y)) ≡ (nat_lt 0 (suc y) && nat_lt x extent.width && (nat_lt 0 a.width || right)) =
        subst (λ (m : ℕ). is_some (known_above extent written m (suc y)) ≡ (nat_lt 0 (suc y) && nat_lt m extent.width && (nat_lt 0 a.width || right))) e
        (subst (λ (m : ℕ). is_some (known_above extent written (a.x + 0) m) ≡ (nat_lt 0 m && nat_lt (a.x + 0) extent.width && (nat_lt 0 a.width || right))) ey
        (knows.above 0 (omega arith))) in
        let inside : x < extent.width = omega (arith, ex) in
        let t = lt-ltb x extent.width inside in
        let u = lt-ltb 0 a.width some in
        let all : (nat_lt 0 (suc y) && nat_lt x extent.width && (nat_lt 0 a.width || right)) ≡ true =
        ap (λ (b : Bool). b && nat_lt x extent.width && (nat_lt 0 a.width || right)) (lt-ltb 0 (suc y) (omega arith))
        ∙ ap (λ (b : Bool). true && b && (nat_lt 0 a.width || right)) t ∙ ap (λ (b : Bool). true && true && (b || right)) u in
        sym (known_inside x y inside (omega (arith, ey))) ∙ known_value x y (k ∙ all)

    pub first_known_left : (x y : ℕ) → a.x ≡ suc x → a.y ≡ y → written x y ≡ Some (s x y)
    first_known_left x y ex ey =
        let some = knows.some_rows in
        let hx = knows.begins_x in
        let hy = knows.begins_y in
        let e : a.y + 0 ≡ y = omega (arith, ey) in
        let k : is_some (known_left extent written (suc x) y) ≡ (nat_lt 0 (suc x) && nat_lt y extent.height && (nat_lt 0 a.height || low)) =
        subst (λ (m : ℕ). is_some (known_left extent written (suc x) m) ≡ (nat_lt 0 (suc x) && nat_lt m extent.height && (nat_lt 0 a.height || low))) e
        (subst (λ (m : ℕ). is_some (known_left extent written m (a.y + 0)) ≡ (nat_lt 0 m && nat_lt (a.y + 0) extent.height && (nat_lt 0 a.height || low))) ex
        (knows.left 0 (omega arith))) in
        let inside : y < extent.height = omega (arith, ey) in
        let t = lt-ltb y extent.height inside in
        let u = lt-ltb 0 a.height some in
        let all : (nat_lt 0 (suc x) && nat_lt y extent.height && (nat_lt 0 a.height || low)) ≡ true =
        ap (λ (b : Bool). b && nat_lt y extent.height && (nat_lt 0 a.height || low)) (lt-ltb 0 (suc x) (omega arith))
        ∙ ap (λ (b : Bool). true && b && (nat_lt 0 a.height || low)) t ∙ ap (λ (b : Bool). true && true && (b || low)) u in
        sym (known_inside x y (omega (arith, ex)) inside) ∙ known_value x y (k ∙ all)

    -- a place above
    above_place : (asked : Bool) (x y : ℕ) → a.x ≡ x → a.y ≡ y → (k : ℕ)
        → place (λ j. if nat_lt j (a.width + where_needed asked (min a.width a.height)) then known_above extent written (x + j) y else None)
        (first_above extent written x) k
        ≡ above_at s (base extent.depth) x y (num_avail extent.width x a.width (asked && right) (min a.width a.height)) k
    above_place asked x (suc y) ex ey k =
        side_places (λ j. known extent written (x + j) y) (λ j. s (x + j) y)
        (first_above extent written x) extent.width x a.width (min a.width a.height) asked right
        (omega (arith, ex, knows.begins_x)) knows.some_columns
        (λ j near.
        subst (λ (m : ℕ). is_some (known_above extent written (m + j) (suc y)) ≡
        (nat_lt 0 (suc y) && nat_lt (m + j) extent.width && (nat_lt j a.width || right))) ex
        (subst (λ (m : ℕ). is_some (known_above extent written (a.x + j) m) ≡ (nat_lt 0 m && nat_lt (a.x + j) extent.width && (nat_lt j a.width || right))) ey
        (knows.above j near))
        ∙ ap (λ (b : Bool). b && nat_lt (x + j) extent.width && (nat_lt j a.width || right)) (lt-ltb 0 (suc y) (omega arith)))
        (λ j e. known_value (x + j) y e) k
        ∙ inside_row x y (min k (num_avail extent.width x a.width (asked && right) (min a.width a.height) - 1))
      where
        inside_row : (x y m : ℕ) →
            s (x + m) y ≡ (if nat_lt 0 (suc y) then s (x + m) (suc y - 1) else (if nat_lt 0 x then s (x - 1) 0 else base extent.depth - 1))
        inside_row x y m = grind (arith, nat_tests)
    above_place asked zero zero ex ey k = place_unknown _ _ (λ j. either_none (nat_lt j (a.width + where_needed asked (min a.width a.height))) None refl) k
    above_place asked (suc x) zero ex ey k =
        place_unknown _ _ (λ j. either_none (nat_lt j (a.width + where_needed asked (min a.width a.height))) None refl) k
        ∙ ap (λ (o : Option ℕ). unwrap_or o 0) (first_known_left x 0 ex ey) ∙ grind (arith, nat_tests)

    -- a place to the left
    left_place : (asked : Bool) (x y : ℕ) → a.x ≡ x → a.y ≡ y → (k : ℕ)
        → place (λ i. if nat_lt i (a.height + where_needed asked (min a.width a.height)) then known_left extent written x (y + i) else None)
        (first_left extent written y) k
        ≡ left_at s (base extent.depth) x y (num_avail extent.height y a.height (asked && low) (min a.width a.height)) k
    left_place asked (suc x) y ex ey k =
        side_places (λ i. known extent written x (y + i)) (λ i. s x (y + i))
        (first_left extent written y) extent.height y a.height (min a.width a.height) asked low
        (omega (arith, ey, knows.begins_y)) knows.some_rows
        (λ i near.
        subst (λ (m : ℕ). is_some (known_left extent written (suc x) (m + i)) ≡
        (nat_lt 0 (suc x) && nat_lt (m + i) extent.height && (nat_lt i a.height || low))) ey
        (subst (λ (m : ℕ). is_some (known_left extent written m (a.y + i)) ≡ (nat_lt 0 m && nat_lt (a.y + i) extent.height && (nat_lt i a.height || low))) ex
        (knows.left i near))
        ∙ ap (λ (b : Bool). b && nat_lt (y + i) extent.height && (nat_lt i a.height || low)) (lt-ltb 0 (suc x) (omega arith)))
        (λ i e. known_value x (y + i) e) k
        ∙ inside_column x y (min k (num_avail extent.height y a.height (asked && low) (min a.width a.height) - 1))
      where
        inside_column : (x y m : ℕ) →
            s x (y + m) ≡ (if nat_lt 0 (suc x) then s (suc x - 1) (y + m) else (if nat_lt 0 y then s 0 (y - 1) else base extent.depth + 1))
        inside_column x y m = grind (arith, nat_tests)
    left_place asked zero zero ex ey k = place_unknown _ _ (λ i. either_none (nat_lt i (a.height + where_needed asked (min a.width a.height))) None refl) k
    left_place asked zero (suc y) ex ey k =
        place_unknown _ _ (λ i. either_none (nat_lt i (a.height + where_needed asked (min a.width a.height))) None refl) k
        ∙ ap (λ (o : Option ℕ). unwrap_or o 0) (first_known_above 0 y ex ey) ∙ grind (arith, nat_tests)

    -- the corner
    corner_place : (x y : ℕ) → a.x ≡ x → a.y ≡ y → corner_sample extent written x y ≡ corner_at s (base extent.depth) x y
    corner_place zero zero ex ey = refl
    corner_place (suc x) zero ex ey = ap (λ (o : Option ℕ). unwrap_or o 0) (first_known_left x 0 ex ey)
    corner_place zero (suc y) ex ey = ap (λ (o : Option ℕ). unwrap_or o 0) (first_known_above 0 y ex ey)
    corner_place (suc x) (suc y) ex ey =
        let hx = knows.begins_x in
        let hy = knows.begins_y in
        let there : is_some (written x y) ≡ true =
        subst (λ (m : ℕ). is_some (written m y) ≡ true) (omega (arith, ex))
        (subst (λ (m : ℕ). is_some (written (a.x - 1) m) ≡ true) (omega (arith, ey)) (knows.corner (omega (arith, ex)) (omega (arith, ey)))) in
        ap (λ (o : Option ℕ). unwrap_or o 0) (known_inside x y (omega (arith, ex)) (omega (arith, ey))
        ∙ written_value x y (omega (arith, ex)) (omega (arith, ey)) there)

-- ---- the edge

directional_left : (mode : PredictionMode) (x : ℕ) → is_directional mode ≡ true → needs_left mode x ≡ true
directional_left DC_PRED x e = absurd cc
directional_left UV_CFL_PRED x e = absurd cc
directional_left mode x e = refl

first_of_side : (n : ℕ) (f : ℕ → ℕ) → 0 < n → slice_index (by_index n f) 0 ≡ f 0
first_of_side n f some = get_or-map-range_with_len f 0 n 0 0 0 some (omega arith)

smoothed_same : (t : Bool) (p q c p' q' c' : ℕ) → (t ≡ true → p ≡ p') → q ≡ q' → c ≡ c' →
    (if t then smoothed p c q else c) ≡ (if t then smoothed p' c' q' else c')
smoothed_same true p q c p' q' c' f eq ec = let e = f refl in rw (e, eq, ec) refl
smoothed_same false p q c p' q' c' f eq ec = ec

chosen_same : (t : Bool) (c c' b : ℕ) → c ≡ c' → (if t then c else b) ≡ (if t then c' else b)
chosen_same true c c' b e = e
chosen_same false c c' b e = refl

same_edge : (a b l m : List ℕ) (c d : ℕ) → a ≡ b → l ≡ m → c ≡ d →
    (let e : Edge = record { above = a; left = l; corner = c } in e) ≡ record { above = b; left = m; corner = d }
same_edge a b l m c d e f g = rw (e, f, g) refl

smooths_directional : (filter : Bool) (mode : PredictionMode) (step : ℤ) (w h : ℕ) → smooths_corner filter mode step w h ≡ true → is_directional mode ≡ true
smooths_directional filter mode step w h e =
    let (a, _) = and_parts _ _ e in
    let (b, _) = and_parts _ _ a in
    let (c, _) = and_parts _ _ b in
    (and_parts filter (is_directional mode) c).1

module _ (extent : PlaneExtent) (written : Written) (s : ℕ → ℕ → ℕ) (agree : (x y v : ℕ) → x < extent.width → y < extent.height → written x y ≡ Some v →
    s x y ≡ v)
    (a : VisibleArea) (right low : Bool) (knows : KnowsSides extent written a right low) where
  -- the edge of the canvas is the one by place
  pub edge_prepared : (filter : Bool) (mode : PredictionMode) (step : ℤ) →
      edge extent filter written mode step a ≡ edge_by_place extent s filter a right low mode step
  unfolding edge
  edge_prepared filter mode step =
      let above = above_at s (base extent.depth) a.x a.y (num_avail extent.width a.x a.width (needs_above_right mode step && right) (min a.width a.height)) in
      let left = left_at s (base extent.depth) a.x a.y (num_avail extent.height a.y a.height (needs_below_left mode step && low) (min a.width a.height)) in
      let above_places = a.width + where_needed (needs_above_right mode step) a.height in
      let left_places = where_needed (needs_left mode a.x) a.height + where_needed (needs_below_left mode step) a.width in
      let aboves : above_side extent written mode step a ≡ by_index above_places above =
      listed_same above_places _ above (λ k h. above_place extent written s agree a right low knows (needs_above_right mode step) a.x a.y refl refl k) in
      let lefts : left_side extent written mode step a ≡ by_index left_places left =
      listed_same left_places _ left (λ k h. left_place extent written s agree a right low knows (needs_below_left mode step) a.x a.y refl refl k) in
      let some_above : 0 < above_places = omega (arith, knows.some_columns) in
      same_edge _ _ _ _ _ _ aboves lefts
      (smoothed_same (smooths_corner filter mode step a.width a.height) _ _ _ (left 0) (above 0) _
      (λ smooth.
      let asked = directional_left mode a.x (smooths_directional filter mode step a.width a.height smooth) in
      let some_left : 0 < left_places = some_where (needs_left mode a.x) a.height (where_needed (needs_below_left mode step) a.width) asked knows.some_rows in
      ap (λ (l : List ℕ). slice_index l 0) lefts ∙ first_of_side left_places left some_left)
      (ap (λ (l : List ℕ). slice_index l 0) aboves ∙ first_of_side above_places above some_above)
      (chosen_same (needs_corner mode step) _ _ (base extent.depth) (corner_place extent written s agree a right low knows a.x a.y refl refl)))
    where
      some_where : (t : Bool) (n m : ℕ) → t ≡ true → 0 < n → 0 < where_needed t n + m
      some_where true n m e some = omega arith
      some_where false n m e some = absurd (true≢false (sym e))
