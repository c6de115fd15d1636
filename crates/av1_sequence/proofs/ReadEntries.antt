-- What stands before the entries of a sequence, the head of a frame, and the entries one after the other in a loop.
use Rattle.std.proofs.Common.{◌≡◌, ℕ, suc, ◌+◌, ◌-◌, ◌<◌, ◌≤◌, true, leb, List, [], ◌∷◌, ◌++◌, length, take, drop, Ok, All, map, refl, ap, sym, subst, ◌∙◌}
use Rattle.std.proofs.Common.{arith}
use Rattle.std.specs.Prelude.{◌&&◌}
use Rattle.std.specs.Int.{byte_len, from_le_bytes}
use Rattle.std.proofs.lemmas.Bool.{and_parts}
use Rattle.std.proofs.lemmas.List.{map_push}
use Rattle.std.proofs.lemmas.List.Elements.{All-append, All-cons, All-nil}
use Rattle.av1_blocks.specs.declared.mc.FilterMode.{FilterMode}
use Rattle.av1_blocks.specs.Filters.{filter_number}
use Rattle.av1_plan.specs.Format.{two, Input, Kind, Reading, on_ok, read_field, width}
use Rattle.av1_plan.specs.Grammar.{is_depth, is_side, where_}
use Rattle.av1_plan.specs.Geometry.{coded_width, coded_height}
use Rattle.av1_plan.proofs.Numbers.{filter_number_is, filter_of}
use Rattle.av1_plan.proofs.Parts.{done_ok}
use Rattle.av1_plan.proofs.ReadFrames.{coded_is, shown_is}
use Rattle.av1_sequence.specs.declared.file.Entry.{Entry}
use Rattle.av1_sequence.specs.File.{IsReadEntry, entry_value}
use Rattle.av1_sequence.specs.Grammar.{EntryValue, read_entries, read_entry}
use Rattle.av1_sequence.specs.Kept.{AreFrames}
use Rattle.av1_sequence.specs.Outcomes.{frames_of}

-- the filter of a number below 4 is one of the first four
pub few_filters : (filter : FilterMode) (number : ℕ) → filter ≡ filter_of number → number ≤ 3 → filter_number filter < 4
few_filters filter number is le = subst (λ (f : FilterMode). filter_number f < 4) (sym is) (omega (arith, filter_number_is number (omega (arith, le)), le))

pub turn : (version count i : ℕ) (s : List EntryValue × Input) → i < count →
    read_entries version (count - i) s ≡ on_ok (read_entry version s.1) (λ p. read_entries version (count - (i + 1)) (s.0 ++ p.0 ∷ [], p.1))
unfolding read_entries
turn version count i s lt =
    let k : count - i ≡ suc (count - (i + 1)) = omega arith in
    rw k refl

pub turn_stop : (version count i : ℕ) (s : List EntryValue × Input) → count ≤ i → read_entries version (count - i) s ≡ Ok s
unfolding read_entries
turn_stop version count i s le =
    let k : count - i ≡ 0 = omega arith in
    rw k refl

-- one entry more was read
pub one_more : (version count i : ℕ) (items new : List Entry) (item : Entry) (before after : Input) (whole : Reading (List EntryValue × Input)) → i < count →
    new ≡ items ++ item ∷ [] → read_entry version before ≡ Ok (entry_value item, after)
    → read_entries version (count - i) (map entry_value items, before) ≡ whole → read_entries version (count - (i + 1)) (map entry_value new, after) ≡ whole
one_more version count i items new item before after whole lt is read so_far =
    ap (λ (xs : List Entry). read_entries version (count - (i + 1)) (map entry_value xs, after)) is
    ∙ ap (λ (vs : List EntryValue). read_entries version (count - (i + 1)) (vs, after)) (map_push entry_value items item)
    ∙ sym (turn version count i (map entry_value items, before) lt
    ∙ ap (λ (r : Reading (EntryValue × Input)). on_ok r (λ p. read_entries version (count - (i + 1)) (map entry_value items ++ p.0 ∷ [], p.1))) read)
    ∙ so_far

pub texts_more : (items new : List Entry) (item : Entry) → new ≡ items ++ item ∷ [] → All IsReadEntry items → IsReadEntry item → All IsReadEntry new
texts_more items new item is all one =
    subst (All IsReadEntry) (sym is) (All-append IsReadEntry items (item ∷ []) all (All-cons IsReadEntry item [] one (All-nil IsReadEntry)))

pub ruleset turns = (turn, turn_stop, map_push)

-- ---- the front

-- a field that was read has a value that is admitted
admitted : (k : Kind) (i : Input) (v : ℕ) (j : Input) → read_field k i ≡ Ok (v, j) → k.admits v ≡ true
unfolding read_field
admitted k i v j e =
    let n = byte_len (width k.size) in
    let value = from_le_bytes (width k.size) (take n i.rest) in
    let whole : ℕ × Input = (value, record { at = i.at + n; rest = drop n i.rest }) in
    let g = done_ok (leb n (length i.rest) && k.admits value) whole (v, j) i.at e in
    let t = and_parts (leb n (length i.rest)) (k.admits value) g.0 in
    subst (λ (x : ℕ). k.admits x ≡ true) (ap (λ (p : ℕ × Input). p.0) g.1) t.1

-- so a side is one
pub side_read : (version : ℕ) (i : Input) (v : ℕ) (j : Input) → read_field (where_ two (is_side version)) i ≡ Ok (v, j) → is_side version v ≡ true
side_read version i v j e = admitted (where_ two (is_side version)) i v j e

-- frames with these sides
pub are_frames : (version width height depth sampling : ℕ) → 1 ≤ version → version ≤ 3 → is_side version width ≡ true → is_side version height ≡ true →
    is_depth depth ≡ true → sampling ≤ 2 → AreFrames (frames_of version width height depth sampling)
unfolding coded_width coded_height
are_frames version width height depth sampling least most wide high deep few = record {
  least_version = least;
  most_version = most;
  width = coded_is version width wide;
  height = coded_is version height high;
  shown_width = shown_is version width wide;
  shown_height = shown_is version height high;
  depth = deep;
  sampling = few;
}
