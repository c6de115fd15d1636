-- The frame of a plan that is spelled, and the pieces of which such a plan consists.
use Rattle.std.proofs.Common.{◌≡◌, ℕ, ◌%◌, ◌<◌, ◌≤◌, ◌⊎◌, inl, inr, Bool, true, false, ◌||◌, List, [], ◌∷◌, subst, refl, sym, arith, lit≤}
use Rattle.std.specs.Prelude.{codes, ◌==◌, nat_le, if◌then◌else◌}
use Rattle.std.specs.Int.{w32, from_le_bytes, is_in_range}
use Rattle.std.proofs.lemmas.Bool.{eqb-true, leb-true, and_parts, or_cases}
use Rattle.std.proofs.lemmas.List.Elements.{All-nil, All-cons}
use Rattle.av1_plan.specs.declared.header.Header.{Header}
use Rattle.av1_plan.specs.Format.{IsAdmitted}
use Rattle.av1_plan.specs.Geometry.{coded_side, coded_width, coded_height}
use Rattle.av1_plan.specs.Grammar.{byte_from, version_of, version, is_side, is_depth, slots, frame, header, references, superblocks, plan, plan_behind}
use Rattle.av1_plan.specs.Plan.{PlanValue}
use Rattle.av1_plan.specs.ReadPlans.{IsSide, IsShown, AreSlots, IsReadFrame}
use Rattle.av1_plan.specs.Spelling.{IsSpelled}
use Rattle.av1_plan.proofs.Numbers.{filter_number_is}
use Rattle.av1_plan.proofs.Pieces.{spelled_done, spelled_asks, spelled_bind}

-- what is coded where a side is shown
pub coded_is : (version n : ℕ) → is_side version n ≡ true → IsSide (coded_side n)
coded_is version n e =
    let (_, range) = and_parts (version == 3 || n % 8 == 0) (is_in_range 1 2048 n) e in
    let (least, most) = and_parts (nat_le 1 n) (nat_le n 2048) range in
    record { whole = omega arith; least = omega (arith, leb-true 1 n least); most = omega (arith, leb-true n 2048 most) }

pub shown_is : (version n : ℕ) → is_side version n ≡ true → IsShown version n (coded_side n)
shown_is version n e =
    let (shape, range) = and_parts (version == 3 || n % 8 == 0) (is_in_range 1 2048 n) e in
    let (least, _) = and_parts (nat_le 1 n) (nat_le n 2048) range in
    record {
      some = leb-true 1 n least;
      within = omega arith;
      near = omega arith;
      whole = λ le. elim (or_cases (version == 3) (n % 8 == 0) shape) [
        | inl third ↦ absurd (omega (arith, le, eqb-true version 3 third))
        | inr whole ↦ omega (arith, eqb-true (n % 8) 0 whole)
      ];
    }

-- a side of the first two versions is shown as it is coded
pub side_is : (version n : ℕ) → version ≤ 2 → is_side version n ≡ true → IsSide n
side_is version n early e = subst IsSide (sym ((shown_is version n e).whole early)) (coded_is version n e)

pub depth_is : (n : ℕ) → is_depth n ≡ true → (n ≡ 8) ⊎ (n ≡ 10) ⊎ (n ≡ 12)
depth_is n e = elim (or_cases (n == 8 || n == 10) (n == 12) e) [
  | inl low ↦ (elim (or_cases (n == 8) (n == 10) low) [ inl e8 ↦ inl (eqb-true n 8 e8) | inr e10 ↦ inr (inl (eqb-true n 10 e10)) ])
  | inr e12 ↦ inr (inr (eqb-true n 12 e12))
]

-- a byte from first to last lies between them
pub range_is : (first last v : ℕ) → IsAdmitted (byte_from first last) v → (first ≤ v) × (v ≤ last)
range_is first last v is =
    let (least, most) = and_parts (nat_le first v) (nat_le v last) is.admitted in
    (leb-true first v least, leb-true v last most)

seven_slots : (a b c d e f g : ℕ) → a < 8 → b < 8 → c < 8 → d < 8 → e < 8 → f < 8 → g < 8 → AreSlots (a ∷ b ∷ c ∷ d ∷ e ∷ f ∷ g ∷ [])
seven_slots a b c d e f g la lb lc ld le lf lg =
    let P : ℕ → Type 0 = λ slot. slot < 8 in
    let two = All-cons P f (g ∷ []) lf (All-cons P g [] lg (All-nil P)) in
    let four = All-cons P d (e ∷ f ∷ g ∷ []) ld (All-cons P e (f ∷ g ∷ []) le two) in
    let six = All-cons P b (c ∷ d ∷ e ∷ f ∷ g ∷ []) lb (All-cons P c (d ∷ e ∷ f ∷ g ∷ []) lc four) in
    record { count = refl; range = All-cons P a (b ∷ c ∷ d ∷ e ∷ f ∷ g ∷ []) la six }

slot_is : (v : ℕ) → IsAdmitted (byte_from 0 7) v → v < 8
slot_is v is = omega (arith, (range_is 0 7 v is).1)

slots_are : (xs : List ℕ) → IsSpelled slots xs → AreSlots xs
unfolding slots
slots_are xs s =
    let (a, a_in, s1) = spelled_asks _ _ xs s in
    let (b, b_in, s2) = spelled_asks _ _ xs s1 in
    let (c, c_in, s3) = spelled_asks _ _ xs s2 in
    let (d, d_in, s4) = spelled_asks _ _ xs s3 in
    let (e, e_in, s5) = spelled_asks _ _ xs s4 in
    let (f, f_in, s6) = spelled_asks _ _ xs s5 in
    let (g, g_in, s7) = spelled_asks _ _ xs s6 in
    subst AreSlots (spelled_done _ xs s7)
    (seven_slots a b c d e f g (slot_is a a_in) (slot_is b b_in) (slot_is c c_in) (slot_is d d_in) (slot_is e e_in) (slot_is f f_in) (slot_is g g_in))

named_version : (letters : ℕ) → (1 ≤ version_of letters) × (version_of letters ≤ 3)
named_version letters = one_of_three (letters == from_le_bytes w32 (codes "RPL3")) (letters == from_le_bytes w32 (codes "RPL2"))
  where
    one_of_three : (b c : Bool) → (1 ≤ (if b then 3 else if c then 2 else 1)) × ((if b then 3 else if c then 2 else 1) ≤ 3)
    one_of_three true c = (lit≤ tt, lit≤ tt)
    one_of_three false true = (lit≤ tt, lit≤ tt)
    one_of_three false false = (lit≤ tt, lit≤ tt)

version_is : (n : ℕ) → IsSpelled version n → (1 ≤ n) × (n ≤ 3)
unfolding version
version_is n s =
    let (letters, _, t) = spelled_asks _ _ n s in
    subst (λ (m : ℕ). (1 ≤ m) × (m ≤ 3)) (spelled_done _ n t) (named_version letters)

pub frame_is : (n : ℕ) (h : Header) → 1 ≤ n → n ≤ 3 → IsSpelled (frame n) h → IsReadFrame h
unfolding frame coded_width coded_height
frame_is n h least_version most_version s1 =
    let (width, width_in, s2) = spelled_asks _ _ h s1 in
    let (height, height_in, s3) = spelled_asks _ _ h s2 in
    let (depth, depth_in, s4) = spelled_asks _ _ h s3 in
    let (sampling, sampling_in, s5) = spelled_asks _ _ h s4 in
    let (filter, filter_in, s6) = spelled_asks _ _ h s5 in
    let (edge_filter, _, s7) = spelled_asks _ _ h s6 in
    let (slots_found, slots_spelled, s8) = spelled_bind slots _ h s7 in
    let (mask, mask_in, s9) = spelled_asks _ _ h s8 in
    let (_, low) = range_is 0 2 sampling sampling_in in
    let (_, known) = range_is 0 3 filter filter_in in
    subst IsReadFrame (spelled_done _ h s9) (record {
      least_version = least_version;
      most_version = most_version;
      width = coded_is n width width_in.admitted;
      height = coded_is n height height_in.admitted;
      shown_width = shown_is n width width_in.admitted;
      shown_height = shown_is n height height_in.admitted;
      depth = depth_is depth depth_in.admitted;
      sampling = low;
      filter = rw (filter_number_is filter (omega (arith, known))) (omega (arith, known));
      slots = slots_are slots_found slots_spelled;
      mask = mask_in.fits;
    })

pub header_is : (h : Header) → IsSpelled header h → IsReadFrame h
unfolding header
header_is h s =
    let (version_found, version_spelled, s1) = spelled_bind version frame h s in
    let (least_version, most_version) = version_is version_found version_spelled in
    frame_is version_found h least_version most_version s1

-- a plan is spelled by its header, its references and the leaves of its superblocks
pub record HasPieces (p : PlanValue) : Type 0 where
  pub header : IsSpelled header p.header
  pub references : IsSpelled (references p.header) p.references
  pub leaves : IsSpelled (superblocks p.header) p.leaves

pub plan_pieces : (p : PlanValue) → IsSpelled plan p → HasPieces p
unfolding plan plan_behind
plan_pieces p s =
    let (h, h_spelled, s1) = spelled_bind header _ p s in
    let (slots, slots_spelled, s2) = spelled_bind (references h) _ p s1 in
    let (leaves, leaves_spelled, s3) = spelled_bind (superblocks h) _ p s2 in
    let end = spelled_done _ p s3 in
    let whole : HasPieces (record { header = h; references = slots; leaves = leaves }) =
    record { header = h_spelled; references = slots_spelled; leaves = leaves_spelled } in
    subst HasPieces end whole
