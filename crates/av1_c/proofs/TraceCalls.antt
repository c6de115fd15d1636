-- The rows of given planes, the list of differences, and the status of the call that compares planes.
use Rattle.std.proofs.Common.{◌≡◌, ◌≢◌, inl, inr, ℕ, zero, suc, ◌+◌, ◌-◌, ◌*◌, ◌<◌, ◌≤◌, min, List, [], ◌∷◌, ◌++◌, length, map, take, drop, get_or, set}
use Rattle.std.proofs.Common.{Ok, Err, refl, sym, ap, subst, ◌∙◌, arith}
use Rattle.std.proofs.Math.ListN.{drop_of_length-le, get_or-map}
use Rattle.std.proofs.lemmas.Bool.{cases_lt, le-leb}
use Rattle.std.proofs.lemmas.List.{append_assoc, drop_more, length-map, length-take-le, places, set-append_right, take_all, take_more}
use Rattle.av1_frame.specs.Samples.{row_of}
use Rattle.av1_frame.specs.declared.plane_region.StoredArea.{StoredArea}
use Rattle.av1_plan.specs.Geometry.{shown_columns, shown_rows}
use Rattle.av1_plan.specs.Grammar.{plan}
use Rattle.av1_plan.specs.Plan.{PlanValue}
use Rattle.av1_plan.specs.declared.error.InvalidKind.{InvalidKind}
use Rattle.av1_plan.specs.declared.header.Header.{Header}
use Rattle.av1_plan.proofs.Spelled.{one_text}
use Rattle.av1_recon.specs.Outcomes.{AreRefusedFor}
use Rattle.av1_recon.specs.declared.error.ReconError.{ReconError}
use Rattle.av1_recon.specs.declared.error.ReconError.TheVariants as errors
use Rattle.av1_recon.proofs.Outcomes.{one_outcome}
use Rattle.av1_tile.specs.Output.{planes_of}
use Rattle.av1_trace.specs.Samples.{planes_len, sample_len, samples_before}
use Rattle.av1_trace.specs.declared.entry.Difference.{Difference}
use Rattle.av1_calls.specs.Samples.{AreHeld}
use Rattle.av1_calls.specs.declared.status.TheConstants.{BAD_AREA, DONE}
use Rattle.av1_c.specs.Faults.{invalid_leaf, malformed_at, status_of, told}
use Rattle.av1_c.specs.Plans.{IsCause, status_for}
use Rattle.av1_c.specs.TraceCalls.{AreGiven, Given, IsTraceStatus, IsValidPlan, ListsDifferences, ListsOf, difference_numbers, given_plane, listed}
use Rattle.av1_c.specs.TraceCalls.{planes_in, rows_in}
use Rattle.av1_c.specs.TraceCalls.{visible_rows}
use Rattle.av1_c.specs.declared.differences.TraceDifference.{TraceDifference}
use Rattle.av1_c.specs.declared.fault.PlanCallFault.{PlanCallFault}
use Rattle.av1_c.specs.declared.fault.PlanCallFault.TheVariants.{Invalid, Malformed, Memory, RoomTooSmall, TooLong}
use Rattle.av1_c.specs.declared.fault.Refusal.{Refusal}
use Rattle.av1_c.specs.declared.status.TheConstants.{INVALID, MALFORMED, OUT_OF_MEMORY}
use Rattle.av1_c.proofs.Statuses.{by_length, fault_for, told_long}

-- ---- the rows of given planes

row_long : (stride : ℕ) (area : StoredArea) (bytes : List ℕ) (r : ℕ) → AreHeld stride area (length bytes) → r < area.height →
    length (row_of stride area r bytes) ≡ area.width
row_long stride area bytes r held h = let ends = held.rows r h in grind (arith, places)

rows_long : (stride : ℕ) (area : StoredArea) (bytes : List ℕ) (n : ℕ) → AreHeld stride area (length bytes) → n ≤ area.height →
    length (rows_in stride area bytes n) ≡ n * area.width
rows_long stride area bytes zero held h = omega arith
rows_long stride area bytes (suc n) held h =
    let before = rows_long stride area bytes n held (omega (arith, h)) in
    let row = row_long stride area bytes n held (omega (arith, h)) in
    grind (arith, places)

-- planes one after the other
pub joined : (none first second third a b d : List ℕ) → none ≡ [] → first ≡ none ++ a → second ≡ first ++ b → third ≡ second ++ d → third ≡ a ++ (b ++ d)
joined none first second third a b d empty is_first is_second is_third =
    is_third ∙ ap (λ xs. xs ++ d) (is_second ∙ ap (λ xs. xs ++ b) (is_first ∙ ap (λ xs. xs ++ a) empty)) ∙ append_assoc a b d

counted : (s a b c d e f : ℕ) → b * (s * a) + (d * (s * c) + f * (s * e)) ≡ s * (a * b + c * d + e * f)
counted s a b c d e f = grind arith

-- as many bytes as the planes have
pub planes_long : (h : Header) (g : Given) → AreGiven h g → length (planes_in h g) ≡ planes_len h
unfolding planes_len samples_before
planes_long h g are =
    let y = rows_long g.y_stride (visible_rows h 0) g.y (shown_rows h 0) are.y (omega arith) in
    let u = rows_long g.u_stride (visible_rows h 1) g.u (shown_rows h 1) are.u (omega arith) in
    let v = rows_long g.v_stride (visible_rows h 2) g.v (shown_rows h 2) are.v (omega arith) in
    let all = counted (sample_len h.depth) (shown_columns h 0) (shown_rows h 0) (shown_columns h 1) (shown_rows h 1) (shown_columns h 2) (shown_rows h 2) in
    let long : length (planes_in h g) ≡ length (given_plane h 0 g.y g.y_stride) + (length (given_plane h 1 g.u g.u_stride) +
    length (given_plane h 2 g.v g.v_stride)) = grind (arith, places) in
    long ∙ omega (arith, y, u, v, all)

-- ---- the list

-- one more difference in a buffer that holds those before it
pub listed_more : (list : List Difference) (before room : List TraceDifference) (i : ℕ) (item : Difference) (x : TraceDifference) → i < length list →
    i < length before → room ≡ take i (map difference_numbers list) ++ drop i before → item ≡ get_or list i item → x ≡ difference_numbers item →
    set room i x ≡ take (i + 1) (map difference_numbers list) ++ drop (i + 1) before
listed_more list before room i item x h roomy was here is =
    let xs : List TraceDifference = map difference_numbers list in
    let there : i < length xs = omega (arith, h, length-map list difference_numbers) in
    let known : get_or xs i (difference_numbers item) ≡ x =
    get_or-map difference_numbers list i item ∙ ap difference_numbers (sym here) ∙ sym is in
    let none : i - i ≡ 0 = omega arith in
    ap (λ (zs : List TraceDifference). set zs i x) was
    ∙ set-append_right (take i xs) (drop i before) i i x (length-take-le i xs (omega (arith, there))) (omega arith)
    ∙ ap (λ (n : ℕ). take i xs ++ set (drop i before) n x) none
    ∙ ap (λ (zs : List TraceDifference). take i xs ++ set zs 0 x) (drop_more before i x roomy)
    ∙ sym (append_assoc (take i xs) (x ∷ []) (drop (i + 1) before))
    ∙ ap (λ (y : TraceDifference). take i xs ++ y ∷ [] ++ drop (i + 1) before) (sym known)
    ∙ ap (λ (zs : List TraceDifference). zs ++ drop (i + 1) before) (sym (take_more xs i (difference_numbers item) there))

-- as many as there are, or as there is room for
pub listed_all : (xs before : List TraceDifference) (n : ℕ) → n ≡ min (length xs) (length before) → take n xs ++ drop n before ≡ listed xs before
listed_all xs before n is =
    elim (cases_lt (length xs) (length before)) [
      | inl b ↦ (let e : n ≡ length xs = omega (arith, is, b) in
          ap (λ (m : ℕ). take m xs ++ drop m before) e
          ∙ ap (λ (zs : List TraceDifference). zs ++ drop (length xs) before)
          (take_all (length xs) xs (omega arith) ∙ sym (take_all (length before) xs (omega (arith, b)))))
      | inr b ↦ (let e : n ≡ length before = omega (arith, is, b) in
          ap (λ (m : ℕ). take m xs ++ drop m before) e
          ∙ ap (λ (zs : List TraceDifference). take (length before) xs ++ zs)
          (drop_of_length-le before (omega arith) ∙ sym (drop_of_length-le before (omega (arith, b)))))
    ]

-- ---- the status

-- bytes that are a valid plan aren't rejected
not_both : (bytes : List ℕ) (value : PlanValue) (e : ReconError) → IsValidPlan bytes value → AreRefusedFor bytes e → ⊥
not_both bytes value e ok refused =
    let same : Err e ≡ Ok (planes_of value) = one_outcome planes_of bytes (Ok (planes_of value)) (Err e) (value, ok.0, ok.1, refl) refused in
    cc

-- of a plan that was read
pub lists : (bytes : List ℕ) (g : Given) (room room' : List TraceDifference) (found found' : ℕ) (refusal : Refusal) (status : ℕ) (value : PlanValue) →
    IsValidPlan bytes value → ListsOf value g room room' found found' status → ListsDifferences bytes g room room' found found' refusal refusal status
lists bytes g room room' found found' refusal status value ok list =
    let same = λ (other : PlanValue) (also : IsValidPlan bytes other). one_text plan bytes other value also.0.1 ok.0.1 in
    record {
      done = λ e. let d = list.done e in (value, ok, d.0, d.1);
      area = λ e. (value, ok, list.area e);
      too_long = λ e. absurd (omega (arith, e, list.known));
      malformed = λ e. absurd (omega (arith, e, list.known));
      invalid = λ e. absurd (omega (arith, e, list.known));
      asked = λ other also are.
          elim list.known [
            | inl e ↦ inl e
            | inr more ↦ elim more [
              | inl e ↦ absurd (list.area e (subst (λ (v : PlanValue). AreGiven v.header g) (same other also) are))
              | inr e ↦ inr e
            ]
          ];
      outside = λ other also never.
          elim list.known [
            | inl e ↦ absurd (never (subst (λ (v : PlanValue). AreGiven v.header g) (sym (same other also)) (list.done e).0))
            | inr more ↦ more
          ];
      rejected = λ e refused. absurd (not_both bytes value e ok refused);
      kept = list.kept;
      untold = λ _ _. refl;
      known =
          elim list.known [
            | inl e ↦ inl e
            | inr more ↦ elim more [
              | inl e ↦ inr (inl e)
              | inr e ↦ inr (inr (inr (inr (inr e))))
            ]
          ];
    }

-- no fault has these statuses
neither : (fault : PlanCallFault) → (status_of fault ≢ DONE) × (status_of fault ≢ BAD_AREA)
neither Memory = (λ e. cc, λ e. cc)
neither (RoomTooSmall len) = (λ e. cc, λ e. cc)
neither TooLong = (λ e. cc, λ e. cc)
neither (Malformed at) = (λ e. cc, λ e. cc)
neither (Invalid leaf kind) = (λ e. cc, λ e. cc)

malformed_for : (bytes : List ℕ) (fault : PlanCallFault) (status : ℕ) (refusal refusal' : Refusal) → IsCause bytes 0 fault → status ≡ status_of fault →
    refusal' ≡ told fault refusal → status ≡ MALFORMED → (at : ℕ) × AreRefusedFor bytes (errors.Malformed at) × (refusal' ≡ malformed_at at)
malformed_for bytes Memory status refusal refusal' cause is says e = absurd (omega (arith, is, e))
malformed_for bytes (RoomTooSmall len) status refusal refusal' cause is says e = absurd (omega (arith, is, e))
malformed_for bytes TooLong status refusal refusal' cause is says e = absurd (omega (arith, is, e))
malformed_for bytes (Malformed at) status refusal refusal' cause is says e = (at, cause, says)
malformed_for bytes (Invalid leaf kind) status refusal refusal' cause is says e = absurd (omega (arith, is, e))

invalid_for : (bytes : List ℕ) (fault : PlanCallFault) (status : ℕ) (refusal refusal' : Refusal) → IsCause bytes 0 fault → status ≡ status_of fault →
    refusal' ≡ told fault refusal → status ≡ INVALID →
    (leaf : ℕ) × (kind : InvalidKind) × AreRefusedFor bytes (errors.Invalid leaf kind) × (refusal' ≡ invalid_leaf leaf kind)
invalid_for bytes Memory status refusal refusal' cause is says e = absurd (omega (arith, is, e))
invalid_for bytes (RoomTooSmall len) status refusal refusal' cause is says e = absurd (omega (arith, is, e))
invalid_for bytes TooLong status refusal refusal' cause is says e = absurd (omega (arith, is, e))
invalid_for bytes (Malformed at) status refusal refusal' cause is says e = absurd (omega (arith, is, e))
invalid_for bytes (Invalid leaf kind) status refusal refusal' cause is says e = (leaf, kind, cause, says)

untold_for : (fault : PlanCallFault) (status : ℕ) (refusal refusal' : Refusal) → status ≡ status_of fault → refusal' ≡ told fault refusal → status ≢ MALFORMED →
    status ≢ INVALID → refusal' ≡ refusal
untold_for Memory status refusal refusal' is says a b = says
untold_for (RoomTooSmall len) status refusal refusal' is says a b = says
untold_for TooLong status refusal refusal' is says a b = says
untold_for (Malformed at) status refusal refusal' is says a b = absurd (a is)
untold_for (Invalid leaf kind) status refusal refusal' is says a b = absurd (b is)

-- no buffer is too short for all planes that the bytes come to
no_room : (bytes : List ℕ) (len : ℕ) → IsCause bytes len (RoomTooSmall len) → ⊥
no_room bytes len (planes, has, (small, whole)) = omega (arith, small, whole)

known_for : (bytes : List ℕ) (fault : PlanCallFault) (status : ℕ) → ((n : ℕ) → IsCause bytes n fault) → status ≡ status_of fault → IsTraceStatus status
known_for bytes Memory status cause is = inr (inr (inr (inr (inr is))))
known_for bytes (RoomTooSmall len) status cause is = absurd (no_room bytes len (cause len))
known_for bytes TooLong status cause is = inr (inr (inl is))
known_for bytes (Malformed at) status cause is = inr (inr (inr (inl is)))
known_for bytes (Invalid leaf kind) status cause is = inr (inr (inr (inr (inl is))))

-- a call on a valid plan fails only for want of memory
ends_for : (bytes : List ℕ) (fault : PlanCallFault) (status : ℕ) → ((n : ℕ) → IsCause bytes n fault) → status ≡ status_of fault → (value : PlanValue) →
    IsValidPlan bytes value → status ≡ OUT_OF_MEMORY
ends_for bytes fault status cause is value ok =
    let n : ℕ = length (planes_of value) in
    let whole : status_for n (Ok (planes_of value)) ≡ DONE = ap by_length (le-leb n n (omega arith)) in
    elim (fault_for bytes n fault status (cause n) is (Ok (planes_of value)) (value, ok.0, ok.1, refl)) [
      | inl e ↦ absurd ((neither fault).0 (sym is ∙ e ∙ whole))
      | inr e ↦ e
    ]

-- of bytes that were rejected
pub refuses_trace : (bytes : List ℕ) (g : Given) (room : List TraceDifference) (found : ℕ) (refusal refusal' : Refusal) (fault : PlanCallFault) (status : ℕ) →
    ((n : ℕ) → IsCause bytes n fault) → status ≡ status_of fault → refusal' ≡ told fault refusal →
    ListsDifferences bytes g room room found found refusal refusal' status
refuses_trace bytes g room found refusal refusal' fault status cause is says =
    let ends = λ (value : PlanValue) (ok : IsValidPlan bytes value). ends_for bytes fault status cause is value ok in
    record {
      done = λ e. absurd ((neither fault).0 (sym is ∙ e));
      area = λ e. absurd ((neither fault).1 (sym is ∙ e));
      too_long = λ e. told_long bytes 0 fault (cause 0) (sym is ∙ e);
      malformed = malformed_for bytes fault status refusal refusal' (cause 0) is says;
      invalid = invalid_for bytes fault status refusal refusal' (cause 0) is says;
      asked = λ value ok are. inr (ends value ok);
      outside = λ value ok never. inr (ends value ok);
      rejected = λ e refused. fault_for bytes 0 fault status (cause 0) is (Err e) refused;
      kept = λ _. (refl, refl);
      untold = untold_for fault status refusal refusal' is says;
      known = known_for bytes fault status cause is;
    }
