-- The parts of the frames of a sequence that was read are bytes.
use Rattle.std.proofs.Common.{◌≡◌, ℕ, zero, suc, ◌+◌, cond, eqb, leb, List, [], ◌∷◌, ◌++◌, length, take, drop, Ok, Err, All, refl, ap, subst, arith, inl, inr}
use Rattle.std.specs.Prelude.{⊤}
use Rattle.std.proofs.lemmas.Bool.{cases_lt}
use Rattle.std.proofs.lemmas.List.{drop_at, get_or-take, get_or_past, length-take}
use Rattle.std.proofs.lemmas.List.Elements.{All-append, All-cons, All-nil}
use Rattle.av1_plan.specs.Format.{four, any, Format, Input, on_ok, read_field, read_part, read, ended, start}
use Rattle.av1_plan.specs.Spelling.{text}
use Rattle.av1_plan.proofs.Fields.{AreBytes, AreBytes-drop, field_takes}
use Rattle.av1_plan.proofs.Parts.{done_ok}
use Rattle.av1_plan.proofs.Spelled.{bind_ok, ok_is, read_spells}
use Rattle.av1_recon.proofs.Outcomes.{byte_fits}
use Rattle.av1_sequence.specs.Files.{AreFile}
use Rattle.av1_sequence.specs.declared.head.EntryHead.{EntryHead}
use Rattle.av1_sequence.specs.declared.head.EntryHead.TheVariants as heads
use Rattle.av1_sequence.specs.Grammar.{EntryValue, FileValue, again, coded, entry_head, front, read_behind, read_entries, read_entry, read_file}

-- the part of an entry is bytes, where it has one
abbrev pub IsOfBytes : EntryValue → Type 0
IsOfBytes (coded shown f) = AreBytes f.part
IsOfBytes (again slot refresh) = ⊤

take_fits : (n : ℕ) (bytes : List ℕ) → AreBytes bytes → AreBytes (take n bytes)
take_fits n bytes fits i =
    elim (cases_lt i n) [
      | inl lt ↦ rw (get_or-take n bytes i 0 lt) (fits i)
      | inr le ↦ rw (get_or_past (take n bytes) i 0 (omega (arith, le, length-take n bytes))) (omega arith)
    ]

-- what stands behind a format that was read
behind_fits : {A : Type 0} (f : Format A) (i : Input) (x : A) (j : Input) → AreBytes i.rest → read f i ≡ Ok (x, j) → AreBytes j.rest
behind_fits f i x j fits e =
    let (values, spells, parts) = read_spells f i x j fits e in
    subst AreBytes (drop_at (text f values) j.rest (length (text f values)) refl)
    (AreBytes-drop (length (text f values)) (text f values ++ j.rest) (subst AreBytes parts fits))

part_fits : (i : Input) (part : List ℕ) (j : Input) → AreBytes i.rest → read_part i ≡ Ok (part, j) → AreBytes part × AreBytes j.rest
unfolding read_part
part_fits i part j fits e =
    let (p, is, rest) =
    bind_ok (read_field (any four) i)
    (λ p. cond (leb p.0 (length p.1.rest)) (Ok (take p.0 p.1.rest, record { at = p.1.at + p.0; rest = drop p.0 p.1.rest })) (Err p.1.at)) (part, j) e in
    let t = field_takes (any four) i p.0 p.1 fits is in
    let whole : List ℕ × Input = (take p.0 p.1.rest, record { at = p.1.at + p.0; rest = drop p.0 p.1.rest }) in
    let same : whole ≡ (part, j) = (done_ok (leb p.0 (length p.1.rest)) whole (part, j) p.1.at rest).1 in (
      subst AreBytes (ap (λ (q : List ℕ × Input). q.0) same) (take_fits p.0 p.1.rest t.fits),
      subst AreBytes (ap (λ (q : List ℕ × Input). q.1.rest) same) (AreBytes-drop p.0 p.1.rest t.fits),
    )

behind_head_fits : (h : EntryHead) (i : Input) (e : EntryValue) (j : Input) → AreBytes i.rest → read_behind h i ≡ Ok (e, j) → IsOfBytes e × AreBytes j.rest
unfolding read_behind
behind_head_fits (heads.Coded shown h) i e j fits r =
    let (p, part, end) = bind_ok (read_part i) (λ p. Ok (coded shown (record { head = h; part = p.0 }), p.1)) (e, j) r in
    let (fit, after) = part_fits i p.0 p.1 fits part in
    let whole : EntryValue × Input = (coded shown (record { head = h; part = p.0 }), p.1) in
    let same : whole ≡ (e, j) = ok_is whole (e, j) end in
    (subst IsOfBytes (ap (λ (q : EntryValue × Input). q.0) same) fit, subst AreBytes (ap (λ (q : EntryValue × Input). q.1.rest) same) after)
behind_head_fits (heads.Again slot refresh) i e j fits r =
    let whole : EntryValue × Input = (again slot refresh, i) in
    let same : whole ≡ (e, j) = ok_is whole (e, j) r in
    (subst IsOfBytes (ap (λ (q : EntryValue × Input). q.0) same) tt, subst AreBytes (ap (λ (q : EntryValue × Input). q.1.rest) same) fits)

entry_fits : (version : ℕ) (i : Input) (e : EntryValue) (j : Input) → AreBytes i.rest → read_entry version i ≡ Ok (e, j) → IsOfBytes e × AreBytes j.rest
unfolding read_entry
entry_fits version i e j fits r =
    let (h, is, rest) = bind_ok (read (entry_head version) i) (λ h. read_behind h.0 h.1) (e, j) r in
    behind_head_fits h.0 h.1 e j (behind_fits (entry_head version) i h.0 h.1 fits is) rest

entries_fit : (version count : ℕ) (before : List EntryValue) (i : Input) (entries : List EntryValue) (j : Input) → AreBytes i.rest →
    read_entries version count (before, i) ≡ Ok (entries, j) → All IsOfBytes before → All IsOfBytes entries
unfolding read_entries
entries_fit version zero before i entries j fits e first =
    subst (All IsOfBytes) (ap (λ (q : List EntryValue × Input). q.0) (ok_is (before, i) (entries, j) e)) first
entries_fit version (suc count) before i entries j fits e first =
    let (p, is, rest) = bind_ok (read_entry version i) (λ p. read_entries version count (before ++ p.0 ∷ [], p.1)) (entries, j) e in
    let (one, more) = entry_fits version i p.0 p.1 fits is in
    entries_fit version count (before ++ p.0 ∷ []) p.1 entries j more rest
    (All-append IsOfBytes before (p.0 ∷ []) first (All-cons IsOfBytes p.0 [] one (All-nil IsOfBytes)))

-- the parts of the frames of a sequence
pub parts_fit : (bytes : List ℕ) (f : FileValue) → AreFile bytes f → All IsOfBytes f.entries
unfolding read_file
parts_fit bytes f file =
    let (x, is, rest) =
    bind_ok (read front (start bytes))
    (λ p. on_ok (read_entries p.0.frames.version p.0.count ([], p.1)) (λ q. ended (record { frames = p.0.frames; entries = q.0 }, q.1))) f
    file.read in
    let (y, entries, end) =
    bind_ok (read_entries x.0.frames.version x.0.count ([], x.1)) (λ q. ended (record { frames = x.0.frames; entries = q.0 }, q.1)) f rest in
    let whole : FileValue = record { frames = x.0.frames; entries = y.0 } in
    let same : whole ≡ f = (done_ok (eqb (length y.1.rest) 0) whole f y.1.at end).1 in
    subst (λ (v : FileValue). All IsOfBytes v.entries) same
    (entries_fit x.0.frames.version x.0.count [] x.1 y.0 y.1 (behind_fits front (start bytes) x.0 x.1 (byte_fits bytes file.fits) is) entries
    (All-nil IsOfBytes))
