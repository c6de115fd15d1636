-- Bytes that are no grid of tiles are refused where the longest proper list of fields at their front ends.
use Rattle.std.proofs.Common.{◌≡◌, ◌⊎◌, inl, inr, zero, suc, ℕ, ◌+◌, ◌<◌, ◌≤◌, ◌^◌, eqb, List, [], ◌∷◌, ◌++◌, length, Ok, Err, refl, sym, ap, subst, ◌∙◌}
use Rattle.std.proofs.Common.{append_assoc, length-append, arith, All}
use Rattle.std.specs.List.{flat_map}
use Rattle.std.proofs.lemmas.Bool.{eqb-true}
use Rattle.std.proofs.lemmas.List.{append-nil, nil_from_length}
use Rattle.std.proofs.lemmas.List.Elements.{All-nil, All-cons, All-head, All-tail}
use Rattle.av1_plan.specs.Format.{four, Input, Reading, on_ok, read, read_part, ended, start}
use Rattle.av1_plan.specs.Spelling.{text, IsPrefix}
use Rattle.av1_plan.specs.Parts.{length_text, part_text, IsLongestText}
use Rattle.av1_plan.proofs.Parts.{Parted, TakesPart, done_ok, err_at, fits_behind, front_refused, part_again, parted, stops_behind}
use Rattle.av1_plan.proofs.Fields.{AreBytes, length-le}
use Rattle.av1_plan.proofs.Spelled.{bind_ok, end, no_longer, ok_is, read_again, read_spells}
use Rattle.av1_recon.proofs.Outcomes.{byte_fits, read_exactly}
use Rattle.av1_tiles.specs.Grammar.{FrontValue, FileValue, count_tiles, front, read_parts, read_file}
use Rattle.av1_tiles.specs.Texts.{IsRun, IsGridRun, IsGridText, FoundAtText, RefusedAtLongest}

-- ---- parts, one after the other

-- where a reading came to
abbrev stop : Reading (List (List ℕ) × Input) → ℕ
stop (Ok p) = p.1.at
stop (Err at) = at

run_reaches : (n : ℕ) (before : List (List ℕ)) (i : Input) → AreBytes i.rest →
    (run : List ℕ) × IsRun n run × IsPrefix run i.rest × (i.at + length run ≡ stop (read_parts n (before, i)))
unfolding read_parts
run_reaches zero before i fits = ([], refl, (i.rest, refl), omega arith)
run_reaches (suc n) before i fits =
    elim (read_part i) as (λ r. Parted i r → (run : List ℕ) × IsRun (suc n) run × IsPrefix run i.rest ×
    (i.at + length run ≡ stop (on_ok r (λ p. read_parts n (before ++ p.0 ∷ [], p.1))))) [
      | Err at ↦ λ s. (s.run, first s.run s.is, s.front, s.len)
      | Ok p ↦ λ t. (
          let (run, is, (more, parts), len) = run_reaches n (before ++ p.0 ∷ []) p.1 t.fits in
          let whole : i.rest ≡ (part_text p.0 ++ run) ++ more = t.parts ∙ ap (λ l. part_text p.0 ++ l) parts ∙ sym (append_assoc (part_text p.0) run more) in
          (part_text p.0 ++ run, inr (inr (p.0, t.short, (run, is, refl))), (more, whole), omega (arith, t.at, len, length-append (part_text p.0) run)))
    ] (parted i fits)
  where
    first : (run : List ℕ) → (run ≡ []) ⊎ ((len : ℕ) × (len < 2 ^ 32) × (run ≡ length_text len)) → IsRun (suc n) run
    first run (inl none) = inl none
    first run (inr alone) = inr (inl alone)

from_here : (n : ℕ) (before : List (List ℕ)) (i : Input) → AreBytes i.rest → i.at ≤ stop (read_parts n (before, i))
from_here n before i fits = omega (arith, (run_reaches n before i fits).3)

-- behind a length the reading comes at least as far
past_length : (n : ℕ) (before : List (List ℕ)) (i : Input) (len : ℕ) (more : List ℕ) → AreBytes i.rest → len < 2 ^ 32 → i.rest ≡ length_text len ++ more →
    i.at + 4 ≤ stop (read_parts (suc n) (before, i))
unfolding read_parts
past_length n before i len more fits short parts =
    elim (read_part i) as (λ r. read_part i ≡ r → Parted i r → i.at + 4 ≤ stop (on_ok r (λ p. read_parts n (before ++ p.0 ∷ [], p.1)))) [
      | Err at ↦ λ e s. stops_behind i len more short parts at e
      | Ok p ↦ λ e t. omega (
        arith,
        t.at,
        from_here n (before ++ p.0 ∷ []) p.1 t.fits,
        length-append (length_text (length p.0)) p.0,
        length-le four (length p.0),
      )
    ] refl (parted i fits)

run_no_longer : (n : ℕ) (before : List (List ℕ)) (i : Input) (run : List ℕ) → AreBytes i.rest → IsRun n run → IsPrefix run i.rest →
    i.at + length run ≤ stop (read_parts n (before, i))
unfolding read_parts
run_no_longer zero before i run fits none is = omega (arith, ap length none)
run_no_longer (suc n) before i run fits (inl none) is = omega (arith, ap length none, from_here (suc n) before i fits)
run_no_longer (suc n) before i run fits (inr (inl (len, short, alone))) (more, is) =
    let far = past_length n before i len more fits short (is ∙ ap (λ (l : List ℕ). l ++ more) alone) in
    omega (arith, far, ap length alone, length-le four len)
run_no_longer (suc n) before i run fits (inr (inr (part, short, (others, proper, whole)))) (more, is) =
    let parts : i.rest ≡ part_text part ++ (others ++ more) = is ∙ ap (λ (l : List ℕ). l ++ more) whole ∙ append_assoc (part_text part) others more in
    let j : Input = record { at = i.at + length (part_text part); rest = others ++ more } in
    let read : read_part i ≡ Ok (part, j) = ap (λ (l : List ℕ). read_part (record { at = i.at; rest = l })) parts ∙ part_again i.at part (others ++ more) short
    in
    let t : TakesPart i part j = subst (Parted i) read (parted i fits) in
    let further = run_no_longer n (before ++ part ∷ []) j others t.fits proper (more, refl) in
    rw read (omega (arith, further, ap length whole, length-append (part_text part) others))

-- ---- the whole

-- the rest of a file, behind what stands before its parts
abbrev rest_of : FrontValue × Input → Reading FileValue
rest_of f = on_ok (read_parts (count_tiles f.0) ([], f.1)) (λ p. ended (record { front = f.0; parts = p.0 }, p.1))

rest_err : (f : FrontValue) (r : Reading (List (List ℕ) × Input)) (at : ℕ) →
    on_ok {B = FileValue} r (λ p. ended (record { front = f; parts = p.0 }, p.1)) ≡ Err at → stop r ≡ at
rest_err f (Ok p) at e = err_at (eqb (length p.1.rest) 0) (record { front = f; parts = p.0 }) p.1.at at e
rest_err f (Err d) at e = cc

-- it was read, and then a part couldn't be, or bytes were left over
parts_refused : (bytes : List ℕ) (at : ℕ) (f : FrontValue) (j : Input) → AreBytes bytes → read front (start bytes) ≡ Ok (f, j) → rest_of (f, j) ≡ Err at →
    IsLongestText IsGridRun bytes at
parts_refused bytes at f j fits e rest =
    let (values, spells, parts) = read_spells front (start bytes) f j fits e in
    let read_is : read front (start bytes) ≡ Ok (f, record { at = 0 + length (text front values); rest = j.rest }) =
    ap (λ (l : List ℕ). read front (start l)) parts ∙ read_again front values f 0 j.rest spells in
    let same : j.at ≡ 0 + length (text front values) =
    ap (λ (q : FrontValue × Input). q.1.at) (ok_is (f, j) (f, record { at = 0 + length (text front values); rest = j.rest }) (sym e ∙ read_is)) in
    let behind = fits_behind bytes (text front values) j.rest fits parts in
    let (run, is, (more, prefix), len) = run_reaches (count_tiles f) [] j behind in
    record {
      reached = (
        text front values ++ run,
        inr (f, (values, spells, (run, is, refl))),
        (more, parts ∙ ap (λ l. text front values ++ l) prefix ∙ sym (append_assoc (text front values) run more)),
        omega (arith, len, came, same, length-append (text front values) run),
      );
      longest = longest behind;
    }
  where
    came : stop (read_parts (count_tiles f) ([], j)) ≡ at
    came = rest_err f (read_parts (count_tiles f) ([], j)) at rest

    longest : AreBytes j.rest → (run : List ℕ) → IsGridRun run → IsPrefix run bytes → length run ≤ at
    longest behind run (inl (values, proper, is)) (more, parts) =
        let front_end : end (read front (start bytes)) ≡ j.at = ap end e in
        omega (
          arith,
          front_end,
          came,
          ap length is,
          from_here (count_tiles f) [] j behind,
          no_longer front (start bytes) values fits proper (more, parts ∙ ap (λ (l : List ℕ). l ++ more) is),
        )
    longest behind run (inr (g, (values, spells, (others, proper, is)))) (more, parts) =
        let whole : bytes ≡ text front values ++ (others ++ more) = parts ∙ ap (λ (l : List ℕ). l ++ more) is ∙ append_assoc (text front values) others more in
        let k : Input = record { at = 0 + length (text front values); rest = others ++ more } in
        let again : read front (start bytes) ≡ Ok (g, k) = ap (λ (l : List ℕ). read front (start l)) whole ∙ read_again front values g 0 (others ++ more) spells
        in
        let same : ◌≡◌ {A = FrontValue × Input} (f, j) (g, k) = ok_is (f, j) (g, k) (sym e ∙ again) in
        let there : stop (read_parts (count_tiles g) ([], k)) ≡ at =
        subst (λ (q : FrontValue × Input). stop (read_parts (count_tiles q.0) ([], q.1)) ≡ at) same came in
        let far = run_no_longer (count_tiles g) [] k others (fits_behind bytes (text front values) (others ++ more) fits whole) proper (more, refl) in
        omega (arith, far, there, ap length is, length-append (text front values) others)

pub refused_at_longest : RefusedAtLongest
unfolding read_file
refused_at_longest bytes at fits e =
    elim (read front (start bytes)) as (λ r. read front (start bytes) ≡ r → on_ok r rest_of ≡ Err at → IsLongestText IsGridRun bytes at) [
      | Err d ↦ λ is stopped. front_refused front (λ f. IsRun (count_tiles f)) bytes at d (byte_fits bytes fits) is (stopped_at d stopped)
      | Ok p ↦ λ is rest. parts_refused bytes at p.0 p.1 (byte_fits bytes fits) is rest
    ] refl e
  where
    stopped_at : (d : ℕ) → on_ok {A = FrontValue × Input} (Err d) rest_of ≡ Err at → d ≡ at
    stopped_at d h = cc

-- ---- whole grids

-- parts that were read behind others
record AreTaken (n : ℕ) (before : List (List ℕ)) (i : Input) (all : List (List ℕ)) (j : Input) : Type 0 where
  parts : List (List ℕ)
  behind : all ≡ before ++ parts
  count : length parts ≡ n
  short : All (λ part. length part < 2 ^ 32) parts
  text : i.rest ≡ flat_map part_text parts ++ j.rest

parts_taken : (n : ℕ) (before : List (List ℕ)) (i : Input) (all : List (List ℕ)) (j : Input) → AreBytes i.rest → read_parts n (before, i) ≡ Ok (all, j) →
    AreTaken n before i all j
unfolding read_parts
parts_taken zero before i all j fits e =
    let same = ok_is (before, i) (all, j) e in
    record {
      parts = [];
      behind = sym (ap (λ (q : List (List ℕ) × Input). q.0) same) ∙ sym (append-nil before);
      count = refl;
      short = All-nil (λ part. length part < 2 ^ 32);
      text = ap (λ (q : List (List ℕ) × Input). q.1.rest) same;
    }
parts_taken (suc n) before i all j fits e =
    let (p, is, rest) = bind_ok (read_part i) (λ p. read_parts n (before ++ p.0 ∷ [], p.1)) (all, j) e in
    let t : TakesPart i p.0 p.1 = subst (Parted i) is (parted i fits) in
    let more = parts_taken n (before ++ p.0 ∷ []) p.1 all j t.fits rest in
    record {
      parts = p.0 ∷ more.parts;
      behind = more.behind ∙ append_assoc before (p.0 ∷ []) more.parts;
      count = ap suc more.count;
      short = All-cons (λ part. length part < 2 ^ 32) p.0 more.parts t.short more.short;
      text = t.parts ∙ ap (λ (l : List ℕ). part_text p.0 ++ l) more.text ∙ sym (append_assoc (part_text p.0) (flat_map part_text more.parts) j.rest);
    }

parts_again : (parts before : List (List ℕ)) (at : ℕ) (more : List ℕ) → All (λ part. length part < 2 ^ 32) parts
    → read_parts (length parts) (before, record { at = at; rest = flat_map part_text parts ++ more }) ≡
    Ok (before ++ parts, record { at = at + length (flat_map part_text parts); rest = more })
unfolding read_parts
parts_again [] before at more short =
    let none : at + 0 ≡ at = omega arith in
    rw (append-nil before, none) refl
parts_again (part ∷ parts) before at more short =
    let rest = flat_map part_text parts in
    let place : at + length (part_text part ++ rest) ≡ at + length (part_text part) + length rest = omega (arith, length-append (part_text part) rest) in
    let first = part_again at part (rest ++ more) (All-head (λ part. length part < 2 ^ 32) part parts short) in
    let later = parts_again parts (before ++ part ∷ []) (at + length (part_text part)) more (All-tail (λ part. length part < 2 ^ 32) part parts short) in
    rw (append_assoc (part_text part) rest more, first, later, append_assoc before (part ∷ []) parts, place) refl

found : (bytes : List ℕ) (f : FileValue) → AreBytes bytes → read_file bytes ≡ Ok f → IsGridText bytes f
unfolding read_file
found bytes f fits e =
    let (p, is, rest) = bind_ok (read front (start bytes)) rest_of f e in
    let (q, parts, end) = bind_ok (read_parts (count_tiles p.0) ([], p.1)) (λ q. ended (record { front = p.0; parts = q.0 }, q.1)) f rest in
    let whole : FileValue = record { front = p.0; parts = q.0 } in
    let over = done_ok (eqb (length q.1.rest) 0) whole f q.1.at end in
    let nothing : q.1.rest ≡ [] = nil_from_length q.1.rest (eqb-true (length q.1.rest) 0 over.0) in
    let (values, spells, is_text) = read_spells front (start bytes) p.0 p.1 fits is in
    let taken = parts_taken (count_tiles p.0) [] p.1 q.0 q.1 (fits_behind bytes (text front values) p.1.rest fits is_text) parts in
    let same : q.0 ≡ taken.parts = taken.behind in
    let others : p.1.rest ≡ flat_map part_text q.0 = taken.text ∙ ap (λ (l : List ℕ). flat_map part_text taken.parts ++ l) nothing
    ∙ append-nil (flat_map part_text taken.parts) ∙ ap (flat_map part_text) (sym same) in
    let here : IsGridText bytes whole = record {
      values = values;
      spells = spells;
      count = ap length same ∙ taken.count;
      short = subst (All (λ part. length part < 2 ^ 32)) (sym same) taken.short;
      whole = is_text ∙ ap (λ (l : List ℕ). text front values ++ l) others;
    } in
    subst (IsGridText bytes) over.1 here

read_back : (bytes : List ℕ) (f : FileValue) → IsGridText bytes f → read_file bytes ≡ Ok f
unfolding read_file
read_back bytes f t =
    let rest = flat_map part_text f.parts in
    let first : read front (start bytes) ≡ Ok (f.front, record { at = 0 + length (text front t.values); rest = rest }) =
    ap (λ (l : List ℕ). read front (start l)) t.whole ∙ read_again front t.values f.front 0 rest t.spells in
    let parts : read_parts (count_tiles f.front) ([], record { at = 0 + length (text front t.values); rest = rest }) ≡
    Ok (f.parts, record { at = 0 + length (text front t.values) + length rest; rest = [] }) =
    ap (λ (n : ℕ). read_parts n ([], record { at = 0 + length (text front t.values); rest = rest })) (sym t.count)
    ∙ ap (λ (l : List ℕ). read_parts (length f.parts) ([], record { at = 0 + length (text front t.values); rest = l })) (sym (append-nil rest))
    ∙ parts_again f.parts [] (0 + length (text front t.values)) [] t.short in
    rw (first, parts) refl

pub found_at_text : FoundAtText
found_at_text = read_exactly read_file IsGridText found read_back
