-- What an admitted header says.
use Rattle.std.proofs.Common.{◌≡◌, ℕ, zero, suc, ◌-◌, ◌<◌, ◌≤◌, ◌⊎◌, inl, inr, true, ◌&&◌, List, [], ◌∷◌, length, All, sym, ap, subst, ◌∙◌, arith}
use Rattle.std.specs.Prelude.{nat_le, ◌==◌}
use Rattle.std.specs.List.{list_all}
use Rattle.std.proofs.lemmas.Bool.{and_parts, leb-true}
use Rattle.av1_blocks.specs.Filters.{filter_number}
use Rattle.av1_plan.specs.declared.header.Header.{Header}
use Rattle.av1_plan.specs.Geometry.{coded_width, coded_height}
use Rattle.av1_plan.specs.Grammar.{is_side, is_depth}
use Rattle.av1_plan.specs.ReadPlans.{IsSide, IsShown, IsReadFrame}
use Rattle.std.specs.Int.{is_in_range}
use Rattle.av1_plan.proofs.ReadFrames.{coded_is, shown_is, depth_is}
use Rattle.av1_planwrite.specs.Building.{admits_header}

slots_are : (slots : List ℕ) → list_all (λ slot. nat_le slot 7) slots ≡ true → All (λ slot. slot < 8) slots
slots_are [] e k d lt = absurd (omega (arith, lt))
slots_are (s ∷ slots) e zero d lt = let (first, _) = and_parts (nat_le s 7) (list_all (λ slot. nat_le slot 7) slots) e in omega (arith, leb-true s 7 first)
slots_are (s ∷ slots) e (suc k) d lt = let (_, later) = and_parts (nat_le s 7) (list_all (λ slot. nat_le slot 7) slots) e
    in slots_are slots later k d (omega (arith, lt))

-- the version and the sides of an admitted header
record HasSides (h : Header) : Type 0 where
  least_version : 1 ≤ h.version
  most_version : h.version ≤ 3
  width : IsSide (coded_width h)
  height : IsSide (coded_height h)
  shown_width : IsShown h.version h.width (coded_width h)
  shown_height : IsShown h.version h.height (coded_height h)

sides_read : (h : Header) → (is_in_range 1 3 h.version && is_side h.version h.width && is_side h.version h.height) ≡ true → HasSides h
unfolding coded_width coded_height
sides_read h e =
    let version = is_in_range 1 3 h.version in
    let (front, height) = and_parts (version && is_side h.version h.width) (is_side h.version h.height) e in
    let (range, width) = and_parts version (is_side h.version h.width) front in
    let (least, most) = and_parts (nat_le 1 h.version) (nat_le h.version 3) range in
    record {
      least_version = leb-true 1 h.version least;
      most_version = leb-true h.version 3 most;
      width = coded_is h.version h.width width;
      height = coded_is h.version h.height height;
      shown_width = shown_is h.version h.width width;
      shown_height = shown_is h.version h.height height;
    }

pub header_read : (h : Header) → admits_header h ≡ true → h.mask < 256 → length h.slots ≡ 7 → IsReadFrame h
unfolding admits_header
header_read h e mask count =
    let front = is_in_range 1 3 h.version && is_side h.version h.width && is_side h.version h.height in
    let (a, slots) = and_parts (front && is_depth h.depth && nat_le h.sampling 2 && nat_le (filter_number h.filter) 3)
    (list_all (λ slot. nat_le slot 7) h.slots) e in
    let (b, filter) = and_parts (front && is_depth h.depth && nat_le h.sampling 2) (nat_le (filter_number h.filter) 3) a in
    let (c, sampling) = and_parts (front && is_depth h.depth) (nat_le h.sampling 2) b in
    let (d, depth) = and_parts front (is_depth h.depth) c in
    let sides = sides_read h d in
    record {
      least_version = sides.least_version;
      most_version = sides.most_version;
      width = sides.width;
      height = sides.height;
      shown_width = sides.shown_width;
      shown_height = sides.shown_height;
      depth = depth_is h.depth depth;
      sampling = leb-true h.sampling 2 sampling;
      filter = omega (arith, leb-true (filter_number h.filter) 3 filter);
      slots = record { count = count; range = slots_are h.slots slots };
      mask = mask;
    }

-- the ranges of an admitted header
pub record HasRanges (h : Header) : Type 0 where
  pub width : (0 < h.width) × (h.width ≤ 2048)
  pub height : (0 < h.height) × (h.height ≤ 2048)
  pub depth : h.depth ≤ 12

pub ranges_of : (h : Header) → admits_header h ≡ true → h.mask < 256 → length h.slots ≡ 7 → HasRanges h
ranges_of h e mask count =
    let r = header_read h e mask count in
    let w = r.shown_width in
    let t = r.shown_height in
    record {
      width = (omega (arith, w.some), omega (arith, w.within, r.width.most));
      height = (omega (arith, t.some), omega (arith, t.within, r.height.most));
      depth = few r.depth;
    }
  where
    few : (h.depth ≡ 8) ⊎ (h.depth ≡ 10) ⊎ (h.depth ≡ 12) → h.depth ≤ 12
    few (inl e) = omega (arith, e)
    few (inr (inl e)) = omega (arith, e)
    few (inr (inr e)) = omega (arith, e)
