-- Bytes that are no sequence of frames are refused where the longest proper list of fields at their front ends.
use Rattle.std.proofs.Common.{◌≡◌, ◌⊎◌, inl, inr, zero, suc, ℕ, ◌+◌, ◌<◌, ◌≤◌, ◌^◌, eqb, Bool, List, [], ◌∷◌, ◌++◌, length, Ok, Err, refl, sym, ap, subst, ◌∙◌}
use Rattle.std.proofs.Common.{append_assoc, length-append, arith}
use Rattle.std.proofs.lemmas.Bool.{eqb-true}
use Rattle.std.proofs.lemmas.List.{append-nil, nil_from_length}
use Rattle.av1_plan.specs.Format.{four, Format, asks, done, Input, Reading, on_ok, read_part, read, ended, start}
use Rattle.av1_plan.specs.Spelling.{IsProper, Spells, text, IsPrefix}
use Rattle.av1_plan.specs.Parts.{length_text, part_text, IsLongestText}
use Rattle.av1_plan.proofs.Parts.{Parted, done_ok, err_at, fits_behind, front_refused, part_again, parted, stops_behind}
use Rattle.av1_plan.proofs.Fields.{AreBytes, length-le}
use Rattle.av1_plan.proofs.Spelled.{bind_ok, end, no_longer, ok_is, reaches, read_again, read_spells}
use Rattle.av1_recon.proofs.Outcomes.{byte_fits, read_exactly}
use Rattle.av1_plan.specs.declared.header.Header.{Header}
use Rattle.av1_sequence.specs.declared.head.EntryHead.{EntryHead}
use Rattle.av1_sequence.specs.declared.head.EntryHead.TheVariants as heads
use Rattle.av1_sequence.specs.declared.head.FrameHead.{FrameHead}
use Rattle.av1_sequence.specs.Grammar.{EntryValue, FileValue, FrontValue, again, coded, entry_head, front, read_behind, read_entries, read_entry, read_file}
use Rattle.av1_sequence.specs.Texts.{AreEntryTexts, FoundAtText, HasLength, IsBegun, IsEntryText, IsFileText, IsRun, IsSequenceRun, RefusedAtLongest}
use Rattle.av1_sequence.specs.Texts.{behind_text, head_of}

-- what is spelled is proper
spelled_proper : {A : Type 0} (f : Format A) (vs : List ℕ) (y : A) → Spells f vs y → IsProper f vs
spelled_proper f [] y s = tt
spelled_proper (done x) (v ∷ vs) y s = absurd s
spelled_proper (asks kind next) (v ∷ vs) y s = (s.0, spelled_proper (next v) vs y s.1)

-- ---- an entry

record TakesEntry (version : ℕ) (i : Input) (e : EntryValue) (j : Input) : Type 0 where
  one : List ℕ
  is : IsEntryText version e one
  parts : i.rest ≡ one ++ j.rest
  at : j.at ≡ i.at + length one
  fits : AreBytes j.rest

record StopsIn (version : ℕ) (i : Input) (at : ℕ) : Type 0 where
  run : List ℕ
  begun : IsBegun version run
  front : IsPrefix run i.rest
  len : i.at + length run ≡ at

abbrev Framed : (version : ℕ) → Input → Reading (EntryValue × Input) → Type 0
Framed version i (Ok p) = TakesEntry version i p.0 p.1
Framed version i (Err at) = StopsIn version i at

abbrev with_part : (shown : Bool) → FrameHead → List ℕ × Input → Reading (EntryValue × Input)
with_part shown h p = Ok (coded shown (record { head = h; part = p.0 }), p.1)

-- a head was read
record TakesHead (version : ℕ) (i : Input) (h : EntryHead) (j : Input) : Type 0 where
  values : List ℕ
  spells : Spells (entry_head version) values h
  parts : i.rest ≡ text (entry_head version) values ++ j.rest
  at : j.at ≡ i.at + length (text (entry_head version) values)
  fits : AreBytes j.rest

head_taken : (version : ℕ) (i : Input) (h : EntryHead) (j : Input) → AreBytes i.rest → read (entry_head version) i ≡ Ok (h, j) → TakesHead version i h j
head_taken version i h j fits e =
    let (values, spells, parts) = read_spells (entry_head version) i h j fits e in
    let own = text (entry_head version) values in
    let there : EntryHead × Input = (h, record { at = i.at + length own; rest = j.rest }) in
    let back : read (entry_head version) i ≡ Ok there = ap (λ (l : List ℕ). read (entry_head version) (record { at = i.at; rest = l })) parts
    ∙ read_again (entry_head version) values h i.at j.rest spells in
    record {
      values = values;
      spells = spells;
      parts = parts;
      at = ap (λ (q : EntryHead × Input). q.1.at) (ok_is (h, j) there (sym e ∙ back));
      fits = fits_behind i.rest own j.rest fits parts;
    }

begun_by : (version : ℕ) (shown : Bool) (h : FrameHead) (values : List ℕ) → Spells (entry_head version) values (heads.Coded shown h) → (run : List ℕ) →
    (run ≡ []) ⊎ ((len : ℕ) × (len < 2 ^ 32) × (run ≡ length_text len)) → IsBegun version (text (entry_head version) values ++ run)
begun_by version shown h values spells run (inl none) = inl (
  values,
  spelled_proper (entry_head version) values (heads.Coded shown h) spells,
  ap (λ (l : List ℕ). text (entry_head version) values ++ l) none ∙ append-nil (text (entry_head version) values),
)
begun_by version shown h values spells run (inr (len, short, alone)) =
    inr (shown, (h, (values, spells, (len, short, ap (λ (l : List ℕ). text (entry_head version) values ++ l) alone))))

part_taken : (version : ℕ) (i : Input) (shown : Bool) (h : FrameHead) (j : Input) → TakesHead version i (heads.Coded shown h) j →
    (r : Reading (List ℕ × Input)) → Parted j r → Framed version i (on_ok r (with_part shown h))
part_taken version i shown h j t (Ok p) s =
    let own = text (entry_head version) t.values in
    record {
      one = own ++ part_text p.0;
      is = record { values = t.values; spells = t.spells; short = s.short; whole = refl };
      parts = t.parts ∙ ap (λ (l : List ℕ). own ++ l) s.parts ∙ sym (append_assoc own (part_text p.0) p.1.rest);
      at = omega (arith, t.at, s.at, length-append own (part_text p.0));
      fits = s.fits;
    }
part_taken version i shown h j t (Err at) s =
    let own = text (entry_head version) t.values in
    record {
      run = own ++ s.run;
      begun = begun_by version shown h t.values t.spells s.run s.is;
      front = (s.front.0, t.parts ∙ ap (λ (l : List ℕ). own ++ l) s.front.1 ∙ sym (append_assoc own s.run s.front.0));
      len = omega (arith, t.at, s.len, length-append own s.run);
    }

-- what stands behind a head
behind_taken : (version : ℕ) (i : Input) (h : EntryHead) (j : Input) → TakesHead version i h j → Framed version i (read_behind h j)
unfolding read_behind
behind_taken version i (heads.Coded shown h) j t = part_taken version i shown h j t (read_part j) (parted j t.fits)
behind_taken version i (heads.Again slot refresh) j t =
    let own = text (entry_head version) t.values in
    record {
      one = own;
      is = record { values = t.values; spells = t.spells; short = tt; whole = sym (append-nil own) };
      parts = t.parts;
      at = t.at;
      fits = t.fits;
    }

framed : (version : ℕ) (i : Input) → AreBytes i.rest → Framed version i (read_entry version i)
unfolding read_entry
framed version i fits =
    elim (read (entry_head version) i) as (λ r. read (entry_head version) i ≡ r → Framed version i (on_ok r (λ h. read_behind h.0 h.1))) [
      | Err at ↦ λ e. (
          let (values, proper, front, len) = reaches (entry_head version) i fits in
          record { run = text (entry_head version) values; begun = inl (values, proper, refl); front = front; len = len ∙ ap end e })
      | Ok p ↦ λ e. behind_taken version i p.0 p.1 (head_taken version i p.0 p.1 fits e)
    ] refl

-- what stands behind a head is read
behind_again : (at : ℕ) (e : EntryValue) (more : List ℕ) → HasLength e →
    read_behind (head_of e) (record { at = at; rest = behind_text e ++ more }) ≡ Ok (e, record { at = at + length (behind_text e); rest = more })
unfolding read_behind
behind_again at (coded shown f) more short = rw (part_again at f.part more short) refl
behind_again at (again slot refresh) more short =
    let place : at + 0 ≡ at = omega arith in
    rw place refl

-- an entry at the front is read
entry_again : (version at : ℕ) (e : EntryValue) (one more : List ℕ) → IsEntryText version e one →
    read_entry version (record { at = at; rest = one ++ more }) ≡ Ok (e, record { at = at + length one; rest = more })
unfolding read_entry
entry_again version at e one more t =
    let own = text (entry_head version) t.values in
    let whole : one ++ more ≡ own ++ (behind_text e ++ more) = ap (λ (l : List ℕ). l ++ more) t.whole ∙ append_assoc own (behind_text e) more in
    let place : at + length own + length (behind_text e) ≡ at + length one = omega (arith, ap length t.whole, length-append own (behind_text e)) in
    rw (
      whole,
      read_again (entry_head version) t.values (head_of e) at (behind_text e ++ more) t.spells,
      behind_again (at + length own) e more t.short,
      place,
    ) refl

-- ---- entries, one after the other

abbrev stop : Reading (List EntryValue × Input) → ℕ
stop (Ok p) = p.1.at
stop (Err at) = at

run_reaches : (version n : ℕ) (before : List EntryValue) (i : Input) → AreBytes i.rest →
    (run : List ℕ) × IsRun version n run × IsPrefix run i.rest × (i.at + length run ≡ stop (read_entries version n (before, i)))
unfolding read_entries
run_reaches version zero before i fits = ([], refl, (i.rest, refl), omega arith)
run_reaches version (suc n) before i fits =
    elim (read_entry version i) as (λ r. Framed version i r → (run : List ℕ) × IsRun version (suc n) run × IsPrefix run i.rest ×
    (i.at + length run ≡ stop (on_ok r (λ p. read_entries version n (before ++ p.0 ∷ [], p.1))))) [
      | Err at ↦ λ s. (s.run, inl s.begun, s.front, s.len)
      | Ok p ↦ λ t. (
          let (run, is, (more, parts), len) = run_reaches version n (before ++ p.0 ∷ []) p.1 t.fits in
          let whole : i.rest ≡ (t.one ++ run) ++ more = t.parts ∙ ap (λ l. t.one ++ l) parts ∙ sym (append_assoc t.one run more) in
          (t.one ++ run, inr (p.0, (t.one, t.is, (run, is, refl))), (more, whole), omega (arith, t.at, len, length-append t.one run)))
    ] (framed version i fits)

from_here : (version n : ℕ) (before : List EntryValue) (i : Input) → AreBytes i.rest → i.at ≤ stop (read_entries version n (before, i))
from_here version n before i fits = omega (arith, (run_reaches version n before i fits).3)

-- behind a head and a length the reading comes at least as far
past_length : (version n : ℕ) (before : List EntryValue) (shown : Bool) (h : FrameHead) (j : Input) (len : ℕ) (more : List ℕ) → AreBytes j.rest →
    len < 2 ^ 32 → j.rest ≡ length_text len ++ more
    → j.at + 4 ≤ stop (on_ok (read_behind (heads.Coded shown h) j) (λ p. read_entries version n (before ++ p.0 ∷ [], p.1)))
unfolding read_behind
past_length version n before shown h j len more fits short parts =
    elim (read_part j) as (λ r. read_part j ≡ r → Parted j r →
    j.at + 4 ≤ stop (on_ok (on_ok r (with_part shown h)) (λ p. read_entries version n (before ++ p.0 ∷ [], p.1)))) [
      | Err at ↦ λ e s. stops_behind j len more short parts at e
      | Ok p ↦ λ e t. omega (
        arith,
        t.at,
        from_here version n (before ++ coded shown (record { head = h; part = p.0 }) ∷ []) p.1 t.fits,
        length-append (length_text (length p.0)) p.0,
        length-le four (length p.0),
      )
    ] refl (parted j fits)

-- behind a head it goes on
past_behind : (version n : ℕ) (before : List EntryValue) (h : EntryHead) (j : Input) → AreBytes j.rest →
    j.at ≤ stop (on_ok (read_behind h j) (λ p. read_entries version n (before ++ p.0 ∷ [], p.1)))
unfolding read_behind
past_behind version n before (heads.Coded shown h) j behind =
    elim (read_part j) as (λ r. Parted j r → j.at ≤ stop (on_ok (on_ok r (with_part shown h)) (λ p. read_entries version n (before ++ p.0 ∷ [], p.1)))) [
      | Err at ↦ λ s. omega (arith, s.len)
      | Ok p ↦ λ t. omega (arith, t.at, from_here version n (before ++ coded shown (record { head = h; part = p.0 }) ∷ []) p.1 t.fits)
    ] (parted j behind)
past_behind version n before (heads.Again slot refresh) j behind = from_here version n (before ++ again slot refresh ∷ []) j behind

-- and it comes as far as a head does
past_head : (version n : ℕ) (before : List EntryValue) (i : Input) → AreBytes i.rest →
    end (read (entry_head version) i) ≤ stop (read_entries version (suc n) (before, i))
unfolding read_entries read_entry
past_head version n before i fits =
    elim (read (entry_head version) i) as (λ r. read (entry_head version) i ≡ r →
    end r ≤ stop (on_ok (on_ok r (λ h. read_behind h.0 h.1)) (λ p. read_entries version n (before ++ p.0 ∷ [], p.1)))) [
      | Err at ↦ λ e. omega arith
      | Ok p ↦ λ e. past_behind version n before p.0 p.1 (head_taken version i p.0 p.1 fits e).fits
    ] refl

begun_no_longer : (version n : ℕ) (before : List EntryValue) (i : Input) (run : List ℕ) → AreBytes i.rest → IsBegun version run → IsPrefix run i.rest →
    i.at + length run ≤ stop (read_entries version (suc n) (before, i))
unfolding read_entries read_entry
begun_no_longer version n before i run fits (inl (values, proper, is)) (more, parts) = omega (
  arith,
  ap length is,
  no_longer (entry_head version) i values fits proper (more, parts ∙ ap (λ (l : List ℕ). l ++ more) is),
  past_head version n before i fits,
)
begun_no_longer version n before i run fits (inr (shown, (h, (values, spells, (len, short, is))))) (more, parts) =
    let own = text (entry_head version) values in
    let whole : i.rest ≡ own ++ (length_text len ++ more) = parts ∙ ap (λ (l : List ℕ). l ++ more) is ∙ append_assoc own (length_text len) more in
    let j : Input = record { at = i.at + length own; rest = length_text len ++ more } in
    let read_is : read (entry_head version) i ≡ Ok (heads.Coded shown h, j) =
    ap (λ (l : List ℕ). read (entry_head version) (record { at = i.at; rest = l })) whole
    ∙ read_again (entry_head version) values (heads.Coded shown h) i.at (length_text len ++ more) spells in
    let far = past_length version n before shown h j len more (fits_behind i.rest own (length_text len ++ more) fits whole) short refl in
    rw read_is (omega (arith, far, ap length is, length-append own (length_text len), length-le four len))

run_no_longer : (version n : ℕ) (before : List EntryValue) (i : Input) (run : List ℕ) → AreBytes i.rest → IsRun version n run → IsPrefix run i.rest →
    i.at + length run ≤ stop (read_entries version n (before, i))
unfolding read_entries
run_no_longer version zero before i run fits none is = omega (arith, ap length none)
run_no_longer version (suc n) before i run fits (inl begun) is = begun_no_longer version n before i run fits begun is
run_no_longer version (suc n) before i run fits (inr (f, (one, t, (others, proper, whole)))) (more, is) =
    let parts : i.rest ≡ one ++ (others ++ more) = is ∙ ap (λ (l : List ℕ). l ++ more) whole ∙ append_assoc one others more in
    let j : Input = record { at = i.at + length one; rest = others ++ more } in
    let read : read_entry version i ≡ Ok (f, j) = ap (λ (l : List ℕ). read_entry version (record { at = i.at; rest = l })) parts
    ∙ entry_again version i.at f one (others ++ more) t in
    let u : TakesEntry version i f j = subst (Framed version i) read (framed version i fits) in
    let further = run_no_longer version n (before ++ f ∷ []) j others u.fits proper (more, refl) in
    rw read (omega (arith, further, ap length whole, length-append one others))

-- ---- the whole

abbrev rest_of : FrontValue × Input → Reading FileValue
rest_of f = on_ok (read_entries f.0.frames.version f.0.count ([], f.1)) (λ p. ended (record { frames = f.0.frames; entries = p.0 }, p.1))

rest_err : (f : FrontValue) (r : Reading (List EntryValue × Input)) (at : ℕ) →
    on_ok {B = FileValue} r (λ p. ended (record { frames = f.frames; entries = p.0 }, p.1)) ≡ Err at → stop r ≡ at
rest_err f (Ok p) at e = err_at (eqb (length p.1.rest) 0) (record { frames = f.frames; entries = p.0 }) p.1.at at e
rest_err f (Err d) at e = cc

-- it was read, and then an entry couldn't be, or bytes were left over
entries_refused : (bytes : List ℕ) (at : ℕ) (f : FrontValue) (j : Input) → AreBytes bytes → read front (start bytes) ≡ Ok (f, j) → rest_of (f, j) ≡ Err at →
    IsLongestText IsSequenceRun bytes at
entries_refused bytes at f j fits e rest =
    let (values, spells, parts) = read_spells front (start bytes) f j fits e in
    let there : FrontValue × Input = (f, record { at = 0 + length (text front values); rest = j.rest }) in
    let read_is : read front (start bytes) ≡ Ok there = ap (λ (l : List ℕ). read front (start l)) parts ∙ read_again front values f 0 j.rest spells in
    let same : j.at ≡ 0 + length (text front values) = ap (λ (q : FrontValue × Input). q.1.at) (ok_is (f, j) there (sym e ∙ read_is)) in
    let behind : AreBytes j.rest = fits_behind bytes (text front values) j.rest fits parts in
    let (run, is, (more, prefix), len) = run_reaches f.frames.version f.count [] j behind in
    record {
      reached = (
        text front values ++ run,
        inr (f, (values, spells, (run, is, refl))),
        (more, parts ∙ ap (λ l. text front values ++ l) prefix ∙ sym (append_assoc (text front values) run more)),
        omega (arith, len, came, same, length-append (text front values) run),
      );
      longest = longest behind;
    }
  where
    came : stop (read_entries f.frames.version f.count ([], j)) ≡ at
    came = rest_err f (read_entries f.frames.version f.count ([], j)) at rest

    longest : AreBytes j.rest → (run : List ℕ) → IsSequenceRun run → IsPrefix run bytes → length run ≤ at
    longest behind run (inl (values, proper, is)) (more, parts) =
        let front_end : end (read front (start bytes)) ≡ j.at = ap end e in
        omega (
          arith,
          front_end,
          came,
          ap length is,
          from_here f.frames.version f.count [] j behind,
          no_longer front (start bytes) values fits proper (more, parts ∙ ap (λ (l : List ℕ). l ++ more) is),
        )
    longest behind run (inr (g, (values, spells, (others, proper, is)))) (more, parts) =
        let whole : bytes ≡ text front values ++ (others ++ more) = parts ∙ ap (λ (l : List ℕ). l ++ more) is ∙ append_assoc (text front values) others more in
        let k : Input = record { at = 0 + length (text front values); rest = others ++ more } in
        let back : read front (start bytes) ≡ Ok (g, k) = ap (λ (l : List ℕ). read front (start l)) whole ∙ read_again front values g 0 (others ++ more) spells
        in
        let same : ◌≡◌ {A = FrontValue × Input} (f, j) (g, k) = ok_is (f, j) (g, k) (sym e ∙ back) in
        let there : stop (read_entries g.frames.version g.count ([], k)) ≡ at =
        subst (λ (q : FrontValue × Input). stop (read_entries q.0.frames.version q.0.count ([], q.1)) ≡ at) same came in
        let far = run_no_longer g.frames.version g.count [] k others (fits_behind bytes (text front values) (others ++ more) fits whole) proper (more, refl) in
        omega (arith, far, there, ap length is, length-append (text front values) others)

pub refused_at_longest : RefusedAtLongest
unfolding read_file
refused_at_longest bytes at fits e =
    elim (read front (start bytes)) as (λ r. read front (start bytes) ≡ r → on_ok r rest_of ≡ Err at → IsLongestText IsSequenceRun bytes at) [
      | Err d ↦ λ is stopped. front_refused front (λ f. IsRun f.frames.version f.count) bytes at d (byte_fits bytes fits) is (stopped_at d stopped)
      | Ok p ↦ λ is rest. entries_refused bytes at p.0 p.1 (byte_fits bytes fits) is rest
    ] refl e
  where
    stopped_at : (d : ℕ) → on_ok {A = FrontValue × Input} (Err d) rest_of ≡ Err at → d ≡ at
    stopped_at d h = cc

-- ---- whole sequences

-- entries that were read behind others
record AreTaken (version n : ℕ) (before : List EntryValue) (i : Input) (all : List EntryValue) (j : Input) : Type 0 where
  entries : List EntryValue
  behind : all ≡ before ++ entries
  count : length entries ≡ n
  texts : List ℕ
  are : AreEntryTexts version entries texts
  text : i.rest ≡ texts ++ j.rest

entries_taken : (version n : ℕ) (before : List EntryValue) (i : Input) (all : List EntryValue) (j : Input) → AreBytes i.rest →
    read_entries version n (before, i) ≡ Ok (all, j) → AreTaken version n before i all j
unfolding read_entries
entries_taken version zero before i all j fits e =
    let same = ok_is (before, i) (all, j) e in
    record {
      entries = [];
      behind = sym (ap (λ (q : List EntryValue × Input). q.0) same) ∙ sym (append-nil before);
      count = refl;
      texts = [];
      are = refl;
      text = ap (λ (q : List EntryValue × Input). q.1.rest) same;
    }
entries_taken version (suc n) before i all j fits e =
    let (p, is, rest) = bind_ok (read_entry version i) (λ p. read_entries version n (before ++ p.0 ∷ [], p.1)) (all, j) e in
    let t : TakesEntry version i p.0 p.1 = subst (Framed version i) is (framed version i fits) in
    let more = entries_taken version n (before ++ p.0 ∷ []) p.1 all j t.fits rest in
    record {
      entries = p.0 ∷ more.entries;
      behind = more.behind ∙ append_assoc before (p.0 ∷ []) more.entries;
      count = ap suc more.count;
      texts = t.one ++ more.texts;
      are = (t.one, t.is, (more.texts, more.are, refl));
      text = t.parts ∙ ap (λ (l : List ℕ). t.one ++ l) more.text ∙ sym (append_assoc t.one more.texts j.rest);
    }

entries_again : (version : ℕ) (entries before : List EntryValue) (at : ℕ) (texts more : List ℕ) → AreEntryTexts version entries texts
    → read_entries version (length entries) (before, record { at = at; rest = texts ++ more })
    ≡ Ok (before ++ entries, record { at = at + length texts; rest = more })
unfolding read_entries
entries_again version [] before at texts more none =
    let place : at + 0 ≡ at = omega arith in
    rw (none, append-nil before, place) refl
entries_again version (f ∷ entries) before at texts more (one, is, (rest, are, whole)) =
    let place : at + length (one ++ rest) ≡ at + length one + length rest = omega (arith, length-append one rest) in
    rw (
      whole,
      append_assoc one rest more,
      entry_again version at f one (rest ++ more) is,
      entries_again version entries (before ++ f ∷ []) (at + length one) rest more are,
      append_assoc before (f ∷ []) entries,
      place,
    ) refl

found : (bytes : List ℕ) (f : FileValue) → AreBytes bytes → read_file bytes ≡ Ok f → IsFileText bytes f
unfolding read_file
found bytes f fits e =
    let (p, is, rest) = bind_ok (read front (start bytes)) rest_of f e in
    let (q, entries, last) =
    bind_ok (read_entries p.0.frames.version p.0.count ([], p.1)) (λ q. ended (record { frames = p.0.frames; entries = q.0 }, q.1)) f rest in
    let whole : FileValue = record { frames = p.0.frames; entries = q.0 } in
    let over = done_ok (eqb (length q.1.rest) 0) whole f q.1.at last in
    let nothing : q.1.rest ≡ [] = nil_from_length q.1.rest (eqb-true (length q.1.rest) 0 over.0) in
    let (values, spells, is_text) = read_spells front (start bytes) p.0 p.1 fits is in
    let taken = entries_taken p.0.frames.version p.0.count [] p.1 q.0 q.1 (fits_behind bytes (text front values) p.1.rest fits is_text) entries in
    let same : q.0 ≡ taken.entries = taken.behind in
    let others : p.1.rest ≡ taken.texts = taken.text ∙ ap (λ (l : List ℕ). taken.texts ++ l) nothing ∙ append-nil taken.texts in
    let here : IsFileText bytes whole = record {
      front_value = p.0;
      values = values;
      spells = spells;
      same = refl;
      count = ap length same ∙ taken.count;
      texts = taken.texts;
      entries = subst (λ (l : List EntryValue). AreEntryTexts p.0.frames.version l taken.texts) (sym same) taken.are;
      whole = is_text ∙ ap (λ (l : List ℕ). text front values ++ l) others;
    } in
    subst (IsFileText bytes) over.1 here

read_back : (bytes : List ℕ) (f : FileValue) → IsFileText bytes f → read_file bytes ≡ Ok f
unfolding read_file
read_back bytes f t =
    let first : read front (start bytes) ≡ Ok (t.front_value, record { at = 0 + length (text front t.values); rest = t.texts }) =
    ap (λ (l : List ℕ). read front (start l)) t.whole ∙ read_again front t.values t.front_value 0 t.texts t.spells in
    let own : AreEntryTexts t.front_value.frames.version f.entries t.texts =
    subst (λ (h : Header). AreEntryTexts h.version f.entries t.texts) t.same t.entries in
    let version = t.front_value.frames.version in
    let entries : read_entries version t.front_value.count ([], record { at = 0 + length (text front t.values); rest = t.texts }) ≡
    Ok (f.entries, record { at = 0 + length (text front t.values) + length t.texts; rest = [] }) =
    ap (λ (n : ℕ). read_entries version n ([], record { at = 0 + length (text front t.values); rest = t.texts })) (sym t.count)
    ∙ ap (λ (l : List ℕ). read_entries version (length f.entries) ([], record { at = 0 + length (text front t.values); rest = l })) (sym (append-nil t.texts))
    ∙ entries_again version f.entries [] (0 + length (text front t.values)) t.texts [] own in
    rw (first, entries, ← t.same) refl

pub found_at_text : FoundAtText
found_at_text = read_exactly read_file IsFileText found read_back
