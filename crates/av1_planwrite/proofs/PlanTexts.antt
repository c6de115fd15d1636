-- The bytes of a plan are its text.
use Rattle.std.proofs.Common.{◌≡◌, ℕ, ◌<◌, ◌≤◌, ◌^◌, Bool, true, false, if◌then◌else◌, inl, inr, List, [], ◌∷◌, ◌++◌, Option, Some, None, refl, sym, ap, subst}
use Rattle.std.proofs.Common.{◌∙◌, append_assoc, arith}
use Rattle.std.specs.Prelude.{◌==◌, nat_lt}
use Rattle.std.specs.List.{flat_map}
use Rattle.std.specs.Int.{to_le_bytes}
use Rattle.std.proofs.lemmas.Bool.{eqb-true, eqb-false}
use Rattle.std.proofs.lemmas.List.{append-nil}
use Rattle.av1_blocks.specs.Filters.{filter_number}
use Rattle.av1_plan.specs.declared.header.Header.{Header}
use Rattle.av1_plan.specs.Format.{one, two, any, Kind, width, Format, done, ◌>>=◌, field}
use Rattle.av1_plan.specs.Geometry.{plane_len, has_slot}
use Rattle.av1_plan.specs.Grammar.{where_, is_magic, version_of}
use Rattle.av1_plan.specs.Grammar as grammar
use Rattle.av1_plan.specs.Plan.{LeafValue, PlanValue}
use Rattle.av1_plan.specs.Spelling.{text, AreText}
use Rattle.av1_plan.proofs.Carried.{AreApart, apart}
use Rattle.av1_plan.proofs.Numbers.{filter_of, filter_number_is}
use Rattle.av1_plan.proofs.ReadFrames.{range_is}
use Rattle.av1_plan.proofs.Versions.{magic_is}
use Rattle.av1_planwrite.specs.Text.{byte, pair, quad, letters, header_text, sample_text, plane_text, slot_text, references_text, superblocks_written}
use Rattle.av1_planwrite.specs.Text.{front_text, plan_text}
use Rattle.av1_planwrite.proofs.Told.{ended, IsAsked, asked, Tells, turns_tell, two_parts, last_part}
use Rattle.av1_planwrite.proofs.NodeTexts.{turns_superblocks}

-- ---- parts one behind the other

grow_asked : {A : Type 0} {k : Kind} {next : ℕ → Format A} {y : A} {rest bytes : List ℕ} (front b : List ℕ) (q : IsAsked k next y rest) →
    bytes ≡ front ++ rest → to_le_bytes (width k.size) q.number ≡ b
    → bytes ≡ front ++ b ++ text (next q.number) q.values
grow_asked {next = next} front b q e f = e ∙ rw (q.bytes_are, f) (sym (append_assoc front b (text (next q.number) q.values)))

grow_apart : {A B : Type 0} {f : Format A} {g : A → Format B} {y : B} {vs bytes : List ℕ} (front b : List ℕ) (q : AreApart f g y vs) →
    bytes ≡ front ++ text (f >>= g) vs → text f q.front ≡ b
    → bytes ≡ front ++ b ++ text (g q.between) q.behind
grow_apart {g = g} front b q e f = e ∙ rw (q.bytes, f) (sym (append_assoc front b (text (g q.between) q.behind)))

grown : {bytes rest : List ℕ} (front : List ℕ) → bytes ≡ front ++ rest → rest ≡ [] → bytes ≡ front
grown front e f = e ∙ ap (λ (xs : List ℕ). front ++ xs) f ∙ append-nil front

-- ---- the header

letters_are : (v : ℕ) → is_magic v ≡ true → quad v ≡ letters (version_of v)
letters_are v e = elim (magic_is v e) [
  | inl first ↦ subst (λ (n : ℕ). quad n ≡ letters (version_of n)) (sym first) refl
  | inr (inl second) ↦ subst (λ (n : ℕ). quad n ≡ letters (version_of n)) (sym second) refl
  | inr (inr third) ↦ subst (λ (n : ℕ). quad n ≡ letters (version_of n)) (sym third) refl
]

version_told : Tells grammar.version letters
unfolding grammar.version
version_told = record {
  tells = λ vs n s.
      let v = asked _ _ n vs s in
      let end = ended _ n v.values v.spells in
      last_part v.bytes_are (letters_are v.number v.admitted.admitted) end.no_bytes ∙ ap letters end.value;
}

pub byte_is : (v : ℕ) → v < 256 → byte v ≡ v ∷ []
byte_is v lt = ap (λ (n : ℕ). n ∷ []) (omega (arith, lt))

slots_told : Tells grammar.slots (λ xs. xs)
unfolding grammar.slots
slots_told = record {
  tells = λ vs xs s.
      let a = asked _ _ xs vs s in
      let b = asked _ _ xs a.values a.spells in
      let c = asked _ _ xs b.values b.spells in
      let d = asked _ _ xs c.values c.spells in
      let e = asked _ _ xs d.values d.spells in
      let f = asked _ _ xs e.values e.spells in
      let g = asked _ _ xs f.values f.spells in
      let end = ended _ xs g.values g.spells in
      let last = last_part g.bytes_are (byte_is g.number g.admitted.fits) end.no_bytes in
      two_parts a.bytes_are (byte_is a.number a.admitted.fits)
      (two_parts b.bytes_are (byte_is b.number b.admitted.fits) (two_parts c.bytes_are (byte_is c.number c.admitted.fits)
      (two_parts d.bytes_are (byte_is d.number d.admitted.fits)
      (two_parts e.bytes_are (byte_is e.number e.admitted.fits) (two_parts f.bytes_are (byte_is f.number f.admitted.fits) last)))))
      ∙ end.value;
}

choice_back : (v : ℕ) → v ≤ 1 → v ≡ (if v == 1 then 1 else 0)
choice_back v le = elim (v == 1) as (λ b. (v == 1) ≡ b → v ≡ (if b then 1 else 0)) [ true ↦ λ e. eqb-true v 1 e | false ↦ λ e. below_one v le e ] refl
  where
    below_one : (v : ℕ) → v ≤ 1 → (v == 1) ≡ false → v ≡ 0
    below_one v le e = let other = eqb-false v 1 e in omega (arith, le, other)

below_five : (v : ℕ) → v ≤ 3 → v < 5
below_five v le = omega (arith, le)

pub header_told : Tells grammar.header header_text
unfolding grammar.header grammar.frame header_text
header_told = record {
  tells = λ vs h s.
      let n = apart grammar.version grammar.frame h vs s in
      let width = asked _ _ h n.behind n.behind_spells in
      let height = asked _ _ h width.values width.spells in
      let depth = asked _ _ h height.values height.spells in
      let sampling = asked _ _ h depth.values depth.spells in
      let filter = asked _ _ h sampling.values sampling.spells in
      let edge = asked _ _ h filter.values filter.spells in
      let slots = apart grammar.slots _ h edge.values edge.spells in
      let mask = asked _ _ h slots.behind slots.behind_spells in
      let end = ended _ h mask.values mask.spells in
      let small : filter.number < 5 = below_five filter.number (range_is 0 3 filter.number filter.admitted).1 in
      let t0 = letters n.between in
      let t1 = t0 ++ pair width.number in
      let t2 = t1 ++ pair height.number in
      let t3 = t2 ++ byte depth.number in
      let t4 = t3 ++ byte sampling.number in
      let t5 = t4 ++ byte (filter_number (filter_of filter.number)) in
      let t6 = t5 ++ byte (if edge.number == 1 then 1 else 0) in
      let t7 = t6 ++ slots.between in
      let t8 = t7 ++ byte mask.number in
      let e0 = n.bytes ∙ ap (λ (xs : List ℕ). xs ++ text (grammar.frame n.between) n.behind) (version_told.tells n.front n.between n.front_spells) in
      let e1 = grow_asked t0 (pair width.number) width e0 refl in
      let e2 = grow_asked t1 (pair height.number) height e1 refl in
      let e3 = grow_asked t2 (byte depth.number) depth e2 refl in
      let e4 = grow_asked t3 (byte sampling.number) sampling e3 refl in
      let e5 = grow_asked t4 (byte (filter_number (filter_of filter.number))) filter e4 (ap byte (sym (filter_number_is filter.number small))) in
      let e6 = grow_asked t5 (byte (if edge.number == 1 then 1 else 0)) edge e5 (ap byte (choice_back edge.number (range_is 0 1 edge.number edge.admitted).1))
      in
      let e7 = grow_apart t6 slots.between slots e6 (slots_told.tells slots.front slots.between slots.front_spells) in
      let e8 = grow_asked t7 (byte mask.number) mask e7 refl in
      grown t8 e8 end.no_bytes ∙ ap header_text end.value;
}

-- ---- reference samples

sample_by : (b : Bool) (p : ℕ → Bool) → Tells (field (if b then any one else where_ two p)) (λ v. if b then byte v else pair v)
sample_by true p = record {
  tells = λ vs v s.
      let n = asked _ _ v vs s in
      let end = ended _ v n.values n.spells in
      last_part n.bytes_are (ap byte end.value) end.no_bytes;
}
sample_by false p = record {
  tells = λ vs v s.
      let n = asked _ _ v vs s in
      let end = ended _ v n.values n.spells in
      last_part n.bytes_are (ap pair end.value) end.no_bytes;
}

plane_told : (depth len : ℕ) → Tells (grammar.plane depth len) (plane_text depth)
unfolding grammar.plane plane_text
plane_told depth len = turns_tell (λ _. field (grammar.sample depth)) (sample_text depth) 0 len (λ _. sample_by (depth == 8) (λ v. nat_lt v (2 ^ depth)))

pub reference_told : (h : Header) → Tells (grammar.reference h) (flat_map (plane_text h.depth))
unfolding grammar.reference
reference_told h = record {
  tells = λ vs planes s.
      let y = apart (grammar.plane h.depth (plane_len h 0)) _ planes vs s in
      let u = apart (grammar.plane h.depth (plane_len h 1)) _ planes y.behind y.behind_spells in
      let v = apart (grammar.plane h.depth (plane_len h 2)) (λ v. done (y.between ∷ u.between ∷ v ∷ [])) planes u.behind u.behind_spells in
      let end = ended _ planes v.behind v.behind_spells in
      two_parts y.bytes ((plane_told h.depth (plane_len h 0)).tells y.front y.between y.front_spells)
      (two_parts u.bytes ((plane_told h.depth (plane_len h 1)).tells u.front u.between u.front_spells)
      (two_parts v.bytes ((plane_told h.depth (plane_len h 2)).tells v.front v.between v.front_spells) end.no_bytes))
      ∙ ap (flat_map (plane_text h.depth)) end.value;
}

slot_by : (h : Header) (b : Bool) → Tells (if b then (grammar.reference h >>= λ planes. done (Some planes)) else done None) (slot_text h.depth)
unfolding slot_text
slot_by h true = record {
  tells = λ vs o s.
      let planes = apart (grammar.reference h) (λ planes. done (Some planes)) o vs s in
      let end = ended _ o planes.behind planes.behind_spells in
      last_part planes.bytes ((reference_told h).tells planes.front planes.between planes.front_spells) end.no_bytes ∙ ap (slot_text h.depth) end.value;
}
slot_by h false = record { tells = λ vs o s. let end = ended _ o vs s in end.no_bytes ∙ ap (slot_text h.depth) end.value }

references_told : (h : Header) → Tells (grammar.references h) (references_text h.depth)
unfolding grammar.references references_text grammar.slot_planes
references_told h = turns_tell (grammar.slot_planes h) (slot_text h.depth) 0 8 (λ slot. slot_by h (has_slot h slot))

-- ---- the whole

abbrev plan_is : Header → List (Option (List (List ℕ))) → List LeafValue → PlanValue
plan_is h references leaves = record { header = h; references = references; leaves = leaves }

three_parts : {a b a_2 b_2 bytes behind rest end : List ℕ} (c : List ℕ) → bytes ≡ a ++ behind → behind ≡ b ++ rest → rest ≡ c ++ end → a ≡ a_2 → b ≡ b_2 →
    end ≡ [] → bytes ≡ a_2 ++ b_2 ++ c
three_parts {a_2 = a} {b_2 = b} c e f g h k m = rw (e, f, g, h, k, m, append-nil) (sym (append_assoc a b c))

pub plan_told : (bytes : List ℕ) (p : PlanValue) → AreText grammar.plan bytes p → bytes ≡ plan_text p
unfolding grammar.plan grammar.plan_behind plan_text front_text
plan_told bytes p (vs, s, e) =
    let a = apart grammar.header (λ h. grammar.references h >>= λ references. grammar.superblocks h >>= λ leaves. done (plan_is h references leaves)) p vs s in
    let h = a.between in
    let b = apart (grammar.references h) (λ references. grammar.superblocks h >>= λ leaves. done (plan_is h references leaves)) p a.behind a.behind_spells in
    let c = apart (grammar.superblocks h) (λ leaves. done (plan_is h b.between leaves)) p b.behind b.behind_spells in
    let end = ended (plan_is h b.between c.between) p c.behind c.behind_spells in
    let front = header_text h ++ references_text h.depth b.between in
    let whole : bytes ≡ front ++ text (grammar.superblocks h) c.front =
    e ∙ three_parts (text (grammar.superblocks h) c.front) a.bytes b.bytes c.bytes (header_told.tells a.front a.between a.front_spells)
    ((references_told h).tells b.front b.between b.front_spells) end.no_bytes in
    let turned = (turns_superblocks h).turned c.front c.between [] front c.front_spells in
    let written : (superblocks_written h (c.between, front)).1 ≡ front ++ text (grammar.superblocks h) c.front =
    ap (λ (ls : List LeafValue). (superblocks_written h (ls, front)).1) (sym (append-nil c.between)) ∙ ap (λ (d : List LeafValue × List ℕ). d.1) turned in
    whole ∙ sym written ∙ ap plan_text end.value
