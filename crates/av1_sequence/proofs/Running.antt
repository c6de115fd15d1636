-- Entries that are taken one after the other come to one end: all are accepted, or one is the first that is refused.
use Rattle.std.proofs.Common.{◌≡◌, ◌⊎◌, inl, inr, ℕ, zero, suc, ◌<◌, ◌≤◌, Bool, List, [], ◌∷◌, ◌++◌, take, All, Option, Some, None, Result, Ok, Err, refl, sym}
use Rattle.std.proofs.Common.{ap, subst, ◌∙◌, append_assoc, append-nil, arith, if◌then◌else◌}
use Rattle.std.proofs.lemmas.Bool.{cases_lt}
use Rattle.std.proofs.lemmas.List.Elements.{All-head, All-tail}
use Rattle.std.proofs.lemmas.Option.{same_Some}
use Rattle.av1_plan.specs.declared.error.Invalid.{Invalid}
use Rattle.av1_plan.specs.Format.{Format, read_all, start}
use Rattle.av1_plan.specs.Grammar.{plan_behind}
use Rattle.av1_plan.specs.Plan.{PlanValue}
use Rattle.av1_plan.specs.Validity.{first_fault}
use Rattle.av1_plan.proofs.Spelled.{all_found, all_refused, one_text}
use Rattle.av1_recon.proofs.Outcomes.{same_place}
use Rattle.av1_tile.specs.Output.{planes_of}
use Rattle.av1_sequence.specs.declared.error.FrameFault.{FrameFault}
use Rattle.av1_sequence.specs.declared.error.FrameFault.TheVariants as faults
use Rattle.av1_sequence.specs.declared.head.FrameHead.{FrameHead}
use Rattle.av1_sequence.specs.Files.{EntryFault, IsFirstRefused, Lead, RefusesEntry, RefusesFrame, TakesEntry, empty_slot, of_frame}
use Rattle.av1_sequence.specs.Frames.{IsFramePlan, frame_header, frame_references, most_bytes, plan_bytes}
use Rattle.av1_sequence.specs.Grammar.{EntryValue, FrameValue, again, coded}
use Rattle.av1_sequence.specs.Kept.{Kept}
use Rattle.av1_sequence.specs.Outcomes.{IsValidFrame, accepted, shown_again}
use Rattle.av1_sequence.specs.Output.{frame_text}
use Rattle.av1_sequence.specs.Slots.{Frame, slot_of}
use Rattle.av1_sequence.proofs.Parts.{IsOfBytes}

-- ---- a frame

abbrev format_of : Kept → FrameHead → Format PlanValue
format_of k head = plan_behind (frame_header k.frames k.slots head) (frame_references k.slots head)

pub not_both_ways : {X : Type 0} (a b : ℕ) → a ≤ b → b < a → X
not_both_ways a b le lt = absurd (omega (arith, le, lt))

-- a frame has one valid plan
valid_once : (k : Kept) (f : FrameValue) (plan other : PlanValue) → IsValidFrame k f.head f.part plan → IsValidFrame k f.head f.part other → plan ≡ other
valid_once k f plan other p q = one_text (format_of k f.head) f.part plan other p.text q.text

fault_clash : {X : Type 0} (plan : PlanValue) (fault : Invalid) → first_fault plan ≡ None → first_fault plan ≡ Some fault → X
fault_clash plan fault none some =
    let clash : None ≡ Some fault = sym none ∙ some in
    absurd cc

-- and isn't refused then
not_both : {X : Type 0} (k : Kept) (f : FrameValue) (plan : PlanValue) (fault : FrameFault) → IsValidFrame k f.head f.part plan → RefusesFrame k f fault → X
not_both k f plan faults.TooLarge valid over = not_both_ways (plan_bytes k.frames k.slots f.head f.part) most_bytes valid.short over
not_both k f plan (faults.Malformed at) valid (short, refused) = absurd (refused.no_text plan valid.text)
not_both k f plan (faults.Invalid leaf kind) valid (short, (other, (text, at))) =
    fault_clash plan (record { leaf = leaf; kind = kind }) valid.valid (ap first_fault (one_text (format_of k f.head) f.part plan other valid.text text) ∙ at)

abbrev fault_of : Option Invalid → FrameFault
fault_of None = faults.TooLarge
fault_of (Some fault) = faults.Invalid fault.leaf fault.kind

-- a frame is refused for one fault
one_fault : (k : Kept) (f : FrameValue) (a b : FrameFault) → RefusesFrame k f a → RefusesFrame k f b → a ≡ b
one_fault k f faults.TooLarge faults.TooLarge p q = refl
one_fault k f faults.TooLarge (faults.Malformed at) over (short, q) =
    not_both_ways (plan_bytes k.frames k.slots f.head f.part) most_bytes short over
one_fault k f faults.TooLarge (faults.Invalid leaf kind) over (short, q) =
    not_both_ways (plan_bytes k.frames k.slots f.head f.part) most_bytes short over
one_fault k f (faults.Malformed at) faults.TooLarge (short, p) over =
    not_both_ways (plan_bytes k.frames k.slots f.head f.part) most_bytes short over
one_fault k f (faults.Malformed a) (faults.Malformed b) (short, p) (also, q) =
    ap (λ (at : ℕ). faults.Malformed at) (same_place (format_of k f.head) f.part a b p q)
one_fault k f (faults.Malformed at) (faults.Invalid leaf kind) (short, p) (also, (plan, (text, fault))) = absurd (p.no_text plan text)
one_fault k f (faults.Invalid leaf kind) faults.TooLarge (short, p) over =
    not_both_ways (plan_bytes k.frames k.slots f.head f.part) most_bytes short over
one_fault k f (faults.Invalid leaf kind) (faults.Malformed at) (short, (plan, (text, fault))) (also, q) = absurd (q.no_text plan text)
one_fault k f (faults.Invalid leaf kind) (faults.Invalid leaf_b kind_b) (short, (plan, (text, fault))) (also, (plan_b, (text_b, fault_b))) =
    ap fault_of (sym fault ∙ ap first_fault (one_text (format_of k f.head) f.part plan plan_b text text_b) ∙ fault_b)

-- an entry is accepted, or refused
abbrev Judged : Kept → EntryValue → Type 0
Judged k e = ((one : List ℕ) × ((m : Kept) × TakesEntry k e one m)) ⊎ ((fault : EntryFault) × RefusesEntry k e fault)

judge_plan : (k : Kept) (shown : Bool) (f : FrameValue) (plan : PlanValue) → plan_bytes k.frames k.slots f.head f.part ≤ most_bytes →
    IsFramePlan k.frames k.slots f.head f.part plan → (fault : Option Invalid) → first_fault plan ≡ fault → Judged k (coded shown f)
judge_plan k shown f plan short text None e =
    inl ((if shown then planes_of plan else []), (accepted k f.head plan, (plan, record { short = short; text = text; valid = e }, refl, refl)))
judge_plan k shown f plan short text (Some fault) e = inr (of_frame (faults.Invalid fault.leaf fault.kind), (short, (plan, (text, e))))

judge_text : (k : Kept) (shown : Bool) (f : FrameValue) → IsOfBytes (coded shown f) → plan_bytes k.frames k.slots f.head f.part ≤ most_bytes →
    (r : Result PlanValue ℕ) → read_all (format_of k f.head) (start f.part) ≡ r → Judged k (coded shown f)
judge_text k shown f fits short (Ok plan) e = judge_plan k shown f plan short (all_found (format_of k f.head) f.part plan fits e) (first_fault plan) refl
judge_text k shown f fits short (Err at) e = inr (of_frame (faults.Malformed at), (short, all_refused (format_of k f.head) f.part at fits e))

judge_slot : (k : Kept) (slot refresh : ℕ) (held : Option Frame) → slot_of k.slots slot ≡ held → Judged k (again slot refresh)
judge_slot k slot refresh None e = inr (empty_slot, e)
judge_slot k slot refresh (Some frame) e = inl (frame_text k.frames frame, (shown_again k refresh frame, (frame, e, refl, refl)))

judge : (k : Kept) (e : EntryValue) → IsOfBytes e → Judged k e
judge k (coded shown f) fits =
    elim (cases_lt most_bytes (plan_bytes k.frames k.slots f.head f.part)) [
      | inl over ↦ inr (of_frame faults.TooLarge, over)
      | inr short ↦ judge_text k shown f fits short (read_all (format_of k f.head) (start f.part)) refl
    ]
judge k (again slot refresh) fits = judge_slot k slot refresh (slot_of k.slots slot) refl

-- ---- an entry

-- it is accepted in one way
taken_once : (k : Kept) (e : EntryValue) (w v : List ℕ) (m n : Kept) → TakesEntry k e w m → TakesEntry k e v n → (w ≡ v) × (m ≡ n)
taken_once k (coded shown f) w v m n (plan, valid, is, text) (other, valid_b, is_b, text_b) =
    let same : plan ≡ other = valid_once k f plan other valid valid_b in
    (text ∙ ap (λ (p : PlanValue). if shown then planes_of p else []) same ∙ sym text_b, is ∙ ap (λ (p : PlanValue). accepted k f.head p) same ∙ sym is_b)
taken_once k (again slot refresh) w v m n (frame, at, is, text) (other, at_b, is_b, text_b) =
    let same : frame ≡ other = same_Some _ _ (sym at ∙ at_b) in
    (text ∙ ap (λ (f : Frame). frame_text k.frames f) same ∙ sym text_b, is ∙ ap (λ (f : Frame). shown_again k refresh f) same ∙ sym is_b)

-- and isn't refused then
taken_not_refused : {X : Type 0} (k : Kept) (e : EntryValue) (w : List ℕ) (m : Kept) (fault : EntryFault) → TakesEntry k e w m → RefusesEntry k e fault → X
taken_not_refused k (coded shown f) w m (of_frame fault) (plan, valid, is, text) why = not_both k f plan fault valid why
taken_not_refused k (coded shown f) w m empty_slot taken none = absurd none
taken_not_refused k (again slot refresh) w m (of_frame fault) taken none = absurd none
taken_not_refused k (again slot refresh) w m empty_slot (frame, at, is, text) none =
    let clash : None ≡ Some frame = sym none ∙ at in
    absurd cc

-- it is refused for one fault
refused_once : (k : Kept) (e : EntryValue) (a b : EntryFault) → RefusesEntry k e a → RefusesEntry k e b → a ≡ b
refused_once k (coded shown f) (of_frame a) (of_frame b) p q = ap of_frame (one_fault k f a b p q)
refused_once k (coded shown f) (of_frame a) empty_slot p none = absurd none
refused_once k (coded shown f) empty_slot b none q = absurd none
refused_once k (again slot refresh) (of_frame a) b none q = absurd none
refused_once k (again slot refresh) empty_slot (of_frame b) p none = absurd none
refused_once k (again slot refresh) empty_slot empty_slot p q = refl

-- ---- entries one after the other

-- what entries come to
pub data End : Type 0 where
  accepted_all : End
  refused_at : ℕ → EntryFault → End

-- the same, with an entry in front
abbrev later : End → End
later accepted_all = accepted_all
later (refused_at i fault) = refused_at (suc i) fault

abbrev pub Runs : Kept → List EntryValue → (written : List ℕ) → End → Type 0
Runs k entries written accepted_all = (k' : Kept) × Lead k entries written k'
Runs k entries written (refused_at i fault) = IsFirstRefused k entries i fault written

-- what becomes of the entry in front
data Step (k : Kept) (e : EntryValue) (entries : List EntryValue) (written : List ℕ) (end : End) : Type 0 where
  refuses : (fault : EntryFault) → RefusesEntry k e fault → end ≡ refused_at 0 fault → written ≡ [] → Step k e entries written end
  takes : (one : List ℕ) (m : Kept) → TakesEntry k e one m → (rest : List ℕ) (last : End) → Runs m entries rest last → end ≡ later last →
      written ≡ one ++ rest → Step k e entries written end

step_of : (k : Kept) (e : EntryValue) (entries : List EntryValue) (written : List ℕ) (end : End) → Runs k (e ∷ entries) written end →
    Step k e entries written end
step_of k e entries written accepted_all (k', (one, (m, taken, (rest, lead, is)))) = takes one m taken rest accepted_all (k', lead) refl is
step_of k e entries written (refused_at zero fault) r =
    let entry : r.entry ≡ e = sym (same_Some _ _ r.at) in
    let here : RefusesEntry r.kept e fault = subst (λ (g : EntryValue). RefusesEntry r.kept g fault) entry r.refused in
    refuses fault (subst (λ (s : Kept). RefusesEntry s e fault) r.before.1 here) refl r.before.0
step_of k e entries written (refused_at (suc i) fault) r =
    let (one, (m, taken, (rest, lead, is))) = r.before in
    takes one m taken rest (refused_at i fault) (record { kept = r.kept; before = lead; entry = r.entry; at = r.at; refused = r.refused }) refl is

run_on : (k : Kept) (e : EntryValue) (entries : List EntryValue) (written one : List ℕ) (m : Kept) → TakesEntry k e one m → (rest : List ℕ) →
    written ≡ one ++ rest
    → (end : End) → Runs m entries rest end → Runs k (e ∷ entries) written (later end)
run_on k e entries written one m taken rest is accepted_all (k', lead) = (k', (one, (m, taken, (rest, lead, is))))
run_on k e entries written one m taken rest is (refused_at i fault) r =
    record { kept = r.kept; before = (one, (m, taken, (rest, r.before, is))); entry = r.entry; at = r.at; refused = r.refused }

no_run : (k : Kept) (written : List ℕ) (end : End) → Runs k [] written end → (end ≡ accepted_all) × (written ≡ [])
no_run k written accepted_all (k', (none, is)) = (refl, none)
no_run k written (refused_at i fault) r =
    let at : None ≡ Some r.entry = r.at in
    absurd cc

-- ---- one end

abbrev OneEnd : Kept → List EntryValue → Type 0
OneEnd k entries = (w v : List ℕ) (a b : End) → Runs k entries w a → Runs k entries v b → (a ≡ b) × (w ≡ v)

one_step : (k : Kept) (e : EntryValue) (entries : List EntryValue) → ((m : Kept) → OneEnd m entries) → (w v : List ℕ) (a b : End) →
    Step k e entries w a → Step k e entries v b → (a ≡ b) × (w ≡ v)
one_step k e entries one w v a b (refuses fault why is none) (refuses other why_b is_b none_b) =
    (is ∙ ap (refused_at 0) (refused_once k e fault other why why_b) ∙ sym is_b, none ∙ sym none_b)
one_step k e entries one w v a b (refuses fault why is none) (takes first m taken rest end run is_b whole) = taken_not_refused k e first m fault taken why
one_step k e entries one w v a b (takes first m taken rest end run is whole) (refuses fault why is_b none) = taken_not_refused k e first m fault taken why
one_step k e entries one w v a b (takes first m taken rest end run is whole) (takes other n taken_b rest_b end_b run_b is_b whole_b) =
    let (firsts, kepts) = taken_once k e other first n m taken_b taken in
    let there : Runs m entries rest_b end_b = subst (λ (x : Kept). Runs x entries rest_b end_b) kepts run_b in
    let (ends, writes) = one m rest rest_b end end_b run there in (
      is ∙ ap later ends ∙ sym is_b,
      whole ∙ ap (λ (l : List ℕ). first ++ l) writes ∙ ap (λ (l : List ℕ). l ++ rest_b) (sym firsts) ∙ sym whole_b,
    )

pub one_run : (k : Kept) (entries : List EntryValue) → OneEnd k entries
one_run k [] w v a b p q =
    let (a_is, w_is) = no_run k w a p in
    let (b_is, v_is) = no_run k v b q in
    (a_is ∙ sym b_is, w_is ∙ sym v_is)
one_run k (e ∷ entries) w v a b p q =
    one_step k e entries (λ m. one_run m entries) w v a b (step_of k e entries w a p) (step_of k e entries v b q)

-- ---- some end

abbrev SomeEnd : Kept → List EntryValue → Type 0
SomeEnd k entries = (written : List ℕ) × ((end : End) × Runs k entries written end)

some_step : (k : Kept) (e : EntryValue) (entries : List EntryValue) → ((m : Kept) → SomeEnd m entries) → Judged k e → SomeEnd k (e ∷ entries)
some_step k e entries some (inl (one, (m, taken))) =
    let (rest, (end, run)) = some m in
    (one ++ rest, (later end, run_on k e entries (one ++ rest) one m taken rest refl end run))
some_step k e entries some (inr (fault, why)) = ([], (refused_at 0 fault, record { kept = k; before = (refl, refl); entry = e; at = refl; refused = why }))

pub some_run : (k : Kept) (entries : List EntryValue) → All IsOfBytes entries → SomeEnd k entries
some_run k [] fits = ([], (accepted_all, (k, (refl, refl))))
some_run k (e ∷ entries) fits = some_step k e entries (λ m. some_run m entries (All-tail IsOfBytes e entries fits))
    (judge k e (All-head IsOfBytes e entries fits))

-- entries of which the first are accepted come to an end that writes what these first write
pub some_after : (k : Kept) (entries : List EntryValue) (n : ℕ) (w : List ℕ) (m : Kept) → All IsOfBytes entries → Lead k (take n entries) w m →
    (rest : List ℕ) × ((end : End) × Runs k entries (w ++ rest) end)
some_after k entries zero w m fits lead =
    let (rest, (end, run)) = some_run k entries fits in
    (rest, (end, subst (λ (l : List ℕ). Runs k entries l end) (ap (λ (l : List ℕ). l ++ rest) (sym lead.0)) run))
some_after k [] (suc n) w m fits lead = ([], (accepted_all, (k, (append-nil w ∙ lead.0, refl))))
some_after k (e ∷ entries) (suc n) w m fits (one, (kept, taken, (front, lead, whole))) =
    let (rest, (end, run)) = some_after kept entries n front m (All-tail IsOfBytes e entries fits) lead in (
      rest,
      (
        later end,
        run_on k e entries (w ++ rest) one kept taken (front ++ rest) (ap (λ (l : List ℕ). l ++ rest) whole ∙ append_assoc one front rest) end run,
      ),
    )

-- ---- one entry more

pub lead_more : (k : Kept) (entries : List EntryValue) (w : List ℕ) (m : Kept) (e : EntryValue) (one : List ℕ) (n : Kept) → Lead k entries w m →
    TakesEntry m e one n → Lead k (entries ++ e ∷ []) (w ++ one) n
lead_more k [] w m e one n (none, is) taken = (
  one,
  (
    n,
    subst (λ (s : Kept). TakesEntry s e one n) is taken,
    ([], (refl, refl), ap (λ (l : List ℕ). l ++ one) none ∙ sym (append-nil one)),
  ),
)
lead_more k (g ∷ entries) w m e one n (first, (kept, first_taken, (rest, lead, is))) taken = (
  first,
  (
    kept,
    first_taken,
    (rest ++ one, lead_more kept entries rest m e one n lead taken, ap (λ (l : List ℕ). l ++ one) is ∙ append_assoc first rest one),
  ),
)
