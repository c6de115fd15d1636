-- What showing the entries of a sequence says, from what showing each of them says.
use Rattle.std.proofs.Common.{◌≡◌, ◌≢◌, ℕ, ◌+◌, ◌<◌, ◌≤◌, List, [], ◌∷◌, ◌++◌, length, take, map, All, Option, Some, Ok, Err, refl, sym, ap, subst, ◌∙◌}
use Rattle.std.proofs.Common.{append-nil, arith, get_or, Bool, true, false, if◌then◌else◌}
use Rattle.std.specs.Prelude.{slice_get, IsErrAnd, IfErr}
use Rattle.std.specs.List.{flat_map}
use Rattle.std.specs.Option.{option_map}
use Rattle.std.specs.Io.KnownBytes.{Appends}
use Rattle.std.proofs.KnownBytes.{Appends-nil, Appends-trans}
use Rattle.std.proofs.lemmas.List.{take_all, take_more}
use Rattle.std.proofs.lemmas.List.Elements.{All-get_or}
use Rattle.std.proofs.lemmas.Option.{get_or_from_slice_get, slice_get-map, slice_get_read, slice_get_within}
use Rattle.av1_plan.specs.declared.header.Header.{Header}
use Rattle.av1_plan.specs.Format.{Format, asks, done, ◌>>=◌}
use Rattle.av1_plan.specs.Grammar.{plan_behind, superblocks}
use Rattle.av1_plan.specs.Plan.{LeafValue, PlanValue}
use Rattle.av1_plan.specs.Spelling.{AreText, Spells}
use Rattle.av1_streams.specs.Streams.{AppendsPrefix}
use Rattle.av1_streams.specs.Tasks.{read_failed, too_long, write_failed}
use Rattle.av1_streams.proofs.Performing.{is_err}
use Rattle.av1_streams.proofs.Prefixes.{AppendsPrefix-after}
use Rattle.av1_tile.specs.Canvas.{Component, Y, U, V}
use Rattle.av1_tile.specs.Edge.{sample_of}
use Rattle.av1_tile.specs.Output.{by_rows, planes_of, sample_bytes, visible}
use Rattle.av1_tile.specs.PlaneBlocks.{shown_of, number}
use Rattle.av1_tile.specs.Reference.{slow_walk}
use Rattle.av1_sequence.specs.declared.error.FrameError.{FrameError}
use Rattle.av1_sequence.specs.declared.error.FrameError.TheVariants as frame_errors
use Rattle.av1_sequence.specs.declared.error.SequenceError.{SequenceError}
use Rattle.av1_sequence.specs.declared.error.SequenceError.TheVariants as errors
use Rattle.av1_sequence.specs.declared.file.Entry.{Entry}
use Rattle.av1_sequence.specs.declared.head.FrameHead.{FrameHead}
use Rattle.av1_sequence.specs.Errors.{frame_error}
use Rattle.av1_sequence.specs.File.{IsReadEntry, entry_value}
use Rattle.av1_sequence.specs.Files.{Answer, AreShown, EntryFault, IsFirstRefused, Lead, RefusesEntry, TakesEntry, beginning, empty_slot, of_frame}
use Rattle.av1_sequence.specs.Frames.{frame_header, frame_of, frame_references}
use Rattle.av1_sequence.specs.Grammar.{EntryValue, FileValue, FrameValue, coded}
use Rattle.av1_sequence.specs.Kept.{Kept}
use Rattle.av1_sequence.specs.Outcomes.{Accepts, IsValidFrame, Refuses}
use Rattle.av1_sequence.specs.Output.{frame_text}
use Rattle.av1_sequence.specs.Slots.{Frame}
use Rattle.av1_sequence.specs.Tasks.{IsBeforeFrames, IsTaken, Shows, ShowsEntry, cause_of}
use Rattle.av1_sequence.proofs.Running.{lead_more}

-- ---- the bytes of a frame

spelled_header : (f : Format (List LeafValue)) (h : Header) (refs : List (Option Frame)) (vs : List ℕ) (p : PlanValue) →
    Spells (f >>= λ leaves. done (record { header = h; references = refs; leaves = leaves })) vs p → p.header ≡ h
spelled_header (done x) h refs [] p s = ap (λ (q : PlanValue). q.header) (sym s)
spelled_header (done x) h refs (v ∷ vs) p s = absurd s
spelled_header (asks kind next) h refs [] p s = absurd s
spelled_header (asks kind next) h refs (v ∷ vs) p s = spelled_header (next v) h refs vs p s.1

header_is : (h : Header) (refs : List (Option Frame)) (part : List ℕ) (p : PlanValue) → AreText (plan_behind h refs) part p → p.header ≡ h
unfolding plan_behind
header_is h refs part p (vs, spells, is) = spelled_header (superblocks h) h refs vs p spells

-- the bytes of one plane, and of all, written at this depth
abbrev plane_at_depth : ℕ → PlanValue → Component → List ℕ
plane_at_depth depth plan k = flat_map (sample_bytes depth) (by_rows (shown_of plan.header (number k)) (λ x y. sample_of (slow_walk plan k x y)))

abbrev text_at_depth : ℕ → PlanValue → List ℕ
text_at_depth depth plan = plane_at_depth depth plan Y ++ plane_at_depth depth plan U ++ plane_at_depth depth plan V

-- the frame of a plan is written as the plan's planes are
text_of_frame : (k : Kept) (head : FrameHead) (part : List ℕ) (plan : PlanValue) → IsValidFrame k head part plan →
    frame_text k.frames (frame_of plan) ≡ planes_of plan
unfolding planes_of visible
text_of_frame k head part plan valid =
    let same = header_is (frame_header k.frames k.slots head) (frame_references k.slots head) part plan valid.text in
    ap (λ (h : Header). text_at_depth h.depth plan) (sym same)

-- ---- one entry

-- a frame was accepted
pub coded_taken : (k k' : Kept) (shown : Bool) (f : FrameValue) → Accepts k f.head f.part k' → IsTaken k (coded shown f) shown k'
coded_taken k k' shown f a =
    let last : k'.last ≡ Some (frame_of a.plan) = ap (λ (s : Kept). s.last) a.kept in
    let frames : k'.frames ≡ k.frames = ap (λ (s : Kept). s.frames) a.kept in
    let same : frame_text k'.frames (frame_of a.plan) ≡ planes_of a.plan =
    ap (λ (h : Header). frame_text h (frame_of a.plan)) frames ∙ text_of_frame k f.head f.part a.plan a.frame in
    (frame_of a.plan, last, (a.plan, a.frame, a.kept, ap (λ (l : List ℕ). if shown then l else []) same))

refuses_frame : (k k' : Kept) (index : ℕ) (shown : Bool) (f : FrameValue) (error : FrameError) (a : Option (List ℕ)) → Refuses k f.head f.part error →
    ShowsEntry k index (coded shown f) (Err (frame_error index error)) k' a a
refuses_frame k k' index shown f frame_errors.TooLarge a why = (refl, why, Appends-nil a)
refuses_frame k k' index shown f (frame_errors.Malformed at) a why = (refl, why, Appends-nil a)
refuses_frame k k' index shown f (frame_errors.Invalid leaf kind) a why = (refl, why, Appends-nil a)
refuses_frame k k' index shown f frame_errors.Memory a why = Appends-nil a

-- a frame was refused
pub refused_frame : (k k' : Kept) (index : ℕ) (shown : Bool) (f : FrameValue) (error : FrameError) (e : SequenceError) (a : Option (List ℕ)) →
    e ≡ frame_error index error → Refuses k f.head f.part error → ShowsEntry k index (coded shown f) (Err e) k' a a
refused_frame k k' index shown f error e a is why =
    subst (λ (x : SequenceError). ShowsEntry k index (coded shown f) (Err x) k' a a) (sym is) (refuses_frame k k' index shown f error a why)

-- an answer blames what its error does
pub blamed_by : (answer : Answer) (e : SequenceError) → IsErrAnd answer (λ d. d ≡ e) → cause_of e ≡ write_failed →
    IsErrAnd answer (λ d. cause_of d ≡ write_failed)
blamed_by (Ok d) e is h = absurd is
blamed_by (Err d) e is h = ap cause_of is ∙ h

-- and its error what the answer does
pub blames_too : (answer : Answer) (e : SequenceError) → IsErrAnd answer (λ d. d ≡ e) → IsErrAnd answer (λ d. cause_of d ≡ write_failed) →
    cause_of e ≡ write_failed
blames_too (Ok d) e is h = absurd is
blames_too (Err d) e is h = sym (ap cause_of is) ∙ h

module _ (k k' : Kept) (index : ℕ) (e : EntryValue) (a b : Option (List ℕ)) where
  -- it was accepted, and is shown, and couldn't be written
  pub entry_unwritten : (answer : Answer) → IsErrAnd answer (λ x. x ≡ errors.WriteFault) → IsTaken k e true k' →
      ((frame : Frame) → k'.last ≡ Some frame → AppendsPrefix a b (frame_text k'.frames frame)) → ShowsEntry k index e answer k' a b
  entry_unwritten answer err (frame, last, taken) prefix =
      subst (λ (r : Answer). ShowsEntry k index e r k' a b) (sym (is_err answer errors.WriteFault err))
      (frame_text k'.frames frame, taken, prefix frame last)

  -- it isn't shown
  pub entry_hidden : IsTaken k e false k' → ShowsEntry k index e (Ok tt) k' a a
  entry_hidden (frame, last, taken) = ([], taken, Appends-nil a)

-- ---- all of them

-- an entry of a sequence that was read
pub entry_at : (items : List Entry) (index : ℕ) (item : Entry) → index < length items → item ≡ get_or items index item →
    slice_get (map entry_value items) index ≡ Some (entry_value item)
entry_at items index item lt is = slice_get-map entry_value items index
    ∙ ap (option_map entry_value) (slice_get_read items (length items) index item refl lt is)

pub text_at : (items : List Entry) (index : ℕ) (item : Entry) → index < length items → item ≡ get_or items index item → All IsReadEntry items →
    IsReadEntry item
text_at items index item lt is texts = subst IsReadEntry (sym is) (All-get_or IsReadEntry items index item lt texts)

no_more : (a c : Option (List ℕ)) (written : List ℕ) → Appends a c (written ++ []) → Appends a c written
no_more a c written appended = subst (Appends a c) (append-nil written) appended

module _ (f : FileValue) (index : ℕ) (entry : EntryValue) (at : slice_get f.entries index ≡ Some entry) (k k' : Kept) (written : List ℕ)
    (a b c : Option (List ℕ)) (lead : Lead (beginning f) (take index f.entries) written k) (before : Appends a b written) where
  front_more : take (index + 1) f.entries ≡ take index f.entries ++ entry ∷ []
  front_more =
      take_more f.entries index entry (slice_get_within f.entries index entry at)
      ∙ ap (λ (x : EntryValue). take index f.entries ++ x ∷ []) (get_or_from_slice_get f.entries index entry entry at)

  one_more : (one : List ℕ) → TakesEntry k entry one k' → Lead (beginning f) (take (index + 1) f.entries) (written ++ one) k'
  one_more one taken =
      subst (λ (entries : List EntryValue). Lead (beginning f) entries (written ++ one) k') (sym front_more)
      (lead_more (beginning f) (take index f.entries) written k entry one k' lead taken)

  -- an entry was accepted, and written where it is shown
  pub goes_on : ShowsEntry k index entry (Ok tt) k' b c → (w : List ℕ) × Lead (beginning f) (take (index + 1) f.entries) w k' × Appends a c w
  goes_on (one, taken, appended) = (written ++ one, one_more one taken, Appends-trans a b c written one before appended)

  -- it was refused
  first_refused : (i : ℕ) (fault : EntryFault) → i ≡ index → RefusesEntry k entry fault → Appends b c [] →
      (w : List ℕ) × IsFirstRefused (beginning f) f.entries i fault w × Appends a c w
  first_refused i fault is why none =
      let here : IsFirstRefused (beginning f) f.entries index fault written =
      record { kept = k; before = lead; entry = entry; at = at; refused = why } in (
        written,
        subst (λ (n : ℕ). IsFirstRefused (beginning f) f.entries n fault written) (sym is) here,
        no_more a c written (Appends-trans a b c written [] before none),
      )

  stops_by : (e : SequenceError) → ShowsEntry k index entry (Err e) k' b c → Shows f (Err e) a c
  stops_by (errors.Frame i fault) (is, why, none) = first_refused i (of_frame fault) is why none
  stops_by (errors.EmptySlot i) (is, why, none) = first_refused i empty_slot is why none
  stops_by errors.WriteFault (one, taken, prefix) =
      let here : AreShown (beginning f) f.entries (index + 1) (written ++ one) =
      record { within = omega (arith, slice_get_within f.entries index entry at); kept = k'; lead = one_more one taken } in (
        written ++ one,
        (index + 1, here),
        AppendsPrefix-after a b c written one [] (written ++ one) (ap (λ (l : List ℕ). written ++ l) (append-nil one)) before prefix,
      )
  stops_by errors.Memory none =
      let here : AreShown (beginning f) f.entries index written =
      record { within = omega (arith, slice_get_within f.entries index entry at); kept = k; lead = lead } in
      (written, (index, here), no_more a c written (Appends-trans a b c written [] before none))
  stops_by errors.ReadFault none = absurd none
  stops_by errors.TooLong none = absurd none
  stops_by (errors.Malformed at) none = absurd none

  -- it wasn't
  pub stops : (answer : Answer) (e : SequenceError) → IsErrAnd answer (λ x. x ≡ e) → ShowsEntry k index entry (Err e) k' b c → Shows f answer a c
  stops answer e is shows = subst (λ (r : Answer). Shows f r a c) (sym (is_err answer e is)) (stops_by e shows)

-- there was no memory to begin
pub never_begun : (f : FileValue) (answer : Answer) (a : Option (List ℕ)) → IsErrAnd answer (λ x. x ≡ errors.Memory) → Shows f answer a a
never_begun f answer a is =
    let here : AreShown (beginning f) f.entries 0 [] = record { within = omega arith; kept = beginning f; lead = (refl, refl) } in
    subst (λ (r : Answer). Shows f r a a) (sym (is_err answer errors.Memory is)) ([], (0, here), Appends-nil a)

-- all entries were accepted
pub all_shown : (f : FileValue) (index : ℕ) (k : Kept) (written : List ℕ) (a b : Option (List ℕ)) → length f.entries ≤ index →
    Lead (beginning f) (take index f.entries) written k → Appends a b written → Shows f (Ok tt) a b
all_shown f index k written a b end lead appended =
    (written, (k, subst (λ (entries : List EntryValue). Lead (beginning f) entries written k) (take_all index f.entries end) lead), appended)

-- ---- what errors of showing are

pub no_read : (f : FileValue) (answer : Answer) (a b : Option (List ℕ)) → Shows f answer a b →
    IfErr answer (λ e. (cause_of e ≢ read_failed) × (cause_of e ≢ too_long))
no_read f (Ok u) a b shows = tt
no_read f (Err (errors.Frame i fault)) a b shows = (λ h. absurd cc, λ h. absurd cc)
no_read f (Err (errors.EmptySlot i)) a b shows = (λ h. absurd cc, λ h. absurd cc)
no_read f (Err errors.WriteFault) a b shows = (λ h. absurd cc, λ h. absurd cc)
no_read f (Err errors.Memory) a b shows = (λ h. absurd cc, λ h. absurd cc)
no_read f (Err errors.ReadFault) a b shows = absurd shows
no_read f (Err errors.TooLong) a b shows = absurd shows
no_read f (Err (errors.Malformed at)) a b shows = absurd shows

pub in_frames : {X : Type 0} (f : FileValue) (answer : Answer) (a b : Option (List ℕ)) → Shows f answer a b → IsErrAnd answer IsBeforeFrames → X
in_frames f (Ok u) a b shows h = absurd h
in_frames f (Err (errors.Frame i fault)) a b shows h = absurd h
in_frames f (Err (errors.EmptySlot i)) a b shows h = absurd h
in_frames f (Err errors.WriteFault) a b shows h = absurd h
in_frames f (Err errors.Memory) a b shows h = absurd h
in_frames f (Err errors.ReadFault) a b shows h = absurd shows
in_frames f (Err errors.TooLong) a b shows h = absurd shows
in_frames f (Err (errors.Malformed at)) a b shows h = absurd shows
