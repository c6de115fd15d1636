-- The header at the front of bytes: where it is read, and what it tells of a plan.
use Rattle.std.proofs.Common.{◌≡◌, ℕ, ◌+◌, ◌≤◌, List, [], ◌∷◌, ◌++◌, length, Result, Ok, Err, refl, sym, ap, subst, ◌∙◌, append_assoc}
use Rattle.std.specs.Prelude.{IfErr, IsErrAnd}
use Rattle.std.specs.Int.{to_le_bytes}
use Rattle.av1_plan.specs.Format.{Format, Input, Reading, asks, done, ended, on_ok, read, start, width, ◌>>=◌}
use Rattle.av1_plan.specs.Grammar.{header, plan, plan_behind, references, superblocks}
use Rattle.av1_plan.specs.Plan.{PlanValue}
use Rattle.av1_plan.specs.ReadPlans.{IsReadFrame}
use Rattle.av1_plan.specs.Reading.{Fails, IsAtByte}
use Rattle.av1_plan.specs.Spelling.{AreRefused, AreText, IsPrefix, IsSpelled, Spells, text}
use Rattle.av1_plan.specs.declared.error.PlanError.{PlanError}
use Rattle.av1_plan.specs.declared.error.PlanError.TheVariants as errors
use Rattle.av1_plan.specs.declared.header.Header.{Header}
use Rattle.av1_plan.proofs.Fields.{AreBytes}
use Rattle.av1_plan.proofs.Formats.{read_bind}
use Rattle.av1_plan.proofs.Pieces.{spelled_bind, spelled_done}
use Rattle.av1_plan.proofs.ReadFrames.{header_is}
use Rattle.av1_plan.proofs.Spelled.{all_refused, ok_is, read_again, read_spells}
use Rattle.av1_recon.specs.Outcomes.{ArePlan}
use Rattle.av1_streams.specs.Streams.{max_plan_bytes}
use Rattle.av1_tile.specs.Output.{planes_of}
use Rattle.av1_trace.specs.Samples.{planes_len}
use Rattle.av1_c.specs.Faults.{plan_fault}
use Rattle.av1_c.specs.Plans.{BeginWith, IsHeaderFault}
use Rattle.av1_c.specs.declared.fault.PlanCallFault.{PlanCallFault}
use Rattle.av1_calls.specs.declared.status.TheConstants.{DONE}
use Rattle.av1_c.proofs.Lengths.{wanted_is}

-- ---- a header that is read

pub begin_with : (bytes : List ℕ) (h : Header) (j : Input) → AreBytes bytes → read header (start bytes) ≡ Ok (h, j) → BeginWith bytes h
begin_with bytes h j fits e =
    let (values, spells, parts) = read_spells header (start bytes) h j fits e in
    (values, spells, (j.rest, parts))

pub frame_is_read : (bytes : List ℕ) (h : Header) (j : Input) → AreBytes bytes → read header (start bytes) ≡ Ok (h, j) → IsReadFrame h
frame_is_read bytes h j fits e =
    let (values, spells, parts) = read_spells header (start bytes) h j fits e in
    header_is h (record { values = values; spells = spells })

-- one at the front is read
read_front : (bytes : List ℕ) (h : Header) → BeginWith bytes h → (j : Input) × (read header (start bytes) ≡ Ok (h, j))
read_front bytes h (values, spells, (more, parts)) =
    (record { at = 0 + length (text header values); rest = more }, ap (λ (l : List ℕ). read header (start l)) parts ∙ read_again header values h 0 more spells)

-- so that it is the one that was read
pub same_len : (bytes : List ℕ) (h : Header) (j : Input) (len : ℕ) → read header (start bytes) ≡ Ok (h, j) → len ≡ planes_len h → (g : Header) →
    BeginWith bytes g → len ≡ planes_len g
same_len bytes h j len e is g front =
    let (k, again) = read_front bytes g front in
    is ∙ ap (λ (q : Header × Input). planes_len q.0) (ok_is (h, j) (g, k) (sym e ∙ again))

-- ---- a header that isn't

-- what stands behind the header of a plan
abbrev behind : Header → Format PlanValue
behind h = references h >>= λ planes. superblocks h >>= λ leaves. done (record { header = h; references = planes; leaves = leaves })

-- where no header is read no plan is
no_plan : (bytes : List ℕ) (at : ℕ) → AreBytes bytes → read header (start bytes) ≡ Err at → AreRefused plan bytes at
unfolding plan plan_behind
no_plan bytes at fits e =
    let stops : read plan (start bytes) ≡ Err at = read_bind header behind (start bytes)
    ∙ ap (λ (r : Reading (Header × Input)). on_ok r (λ p. read (behind p.0) p.1)) e in
    all_refused plan bytes at fits (ap (λ (r : Reading (PlanValue × Input)). on_ok r ended) stops)

pub header_fault : (bytes : List ℕ) (result : Result ℕ PlanCallFault) (e : PlanError) → AreBytes bytes → length bytes ≤ max_plan_bytes →
    IsErrAnd result (λ fault. fault ≡ plan_fault e) → Fails e (read header (start bytes))
    → IsAtByte e → IfErr result (IsHeaderFault bytes)
header_fault bytes (Ok len) e fits short is fails at_byte = absurd is
header_fault bytes (Err fault) errors.Memory fits short is fails at_byte = absurd at_byte
header_fault bytes (Err fault) (errors.Malformed at) fits short is fails at_byte = subst (IsHeaderFault bytes) (sym is) (short, no_plan bytes at fits fails)

clash : (h : Header) (j : Input) (at : ℕ) (r : Reading (Header × Input)) → r ≡ Ok (h, j) → r ≡ Err at → ⊥
clash h j at (Ok p) e d = absurd cc
clash h j at (Err b) e d = absurd cc

-- none stands there
pub no_header : (bytes : List ℕ) (e : PlanError) → Fails e (read header (start bytes)) → IsAtByte e → (h : Header) → BeginWith bytes h → ⊥
no_header bytes errors.Memory fails at_byte h front = at_byte
no_header bytes (errors.Malformed at) fails at_byte h front =
    let (j, read_is) = read_front bytes h front in
    clash h j at (read header (start bytes)) read_is fails

-- ---- the header of a plan

-- the text of one format and then another begins with that of the first
front_of : {A B : Type 0} (f : Format A) (g : A → Format B) (y : B) (vs : List ℕ) → Spells (f >>= g) vs y
    → (x : A) × ((values : List ℕ) × Spells f values x × IsPrefix (text f values) (text (f >>= g) vs)) × IsSpelled (g x) y
front_of (done x) g y vs s = (x, ([], refl, (text (g x) vs, refl)), record { values = vs; spells = s })
front_of (asks k next) g y [] s = absurd s
front_of (asks k next) g y (v ∷ vs) s =
    let (x, (values, spells, (more, parts)), rest) = front_of (next v) g y vs s.1 in
    let field = to_le_bytes (width k.size) v in
    (x, (v ∷ values, (s.0, spells), (more, ap (λ (l : List ℕ). field ++ l) parts ∙ sym (append_assoc field (text (next v) values) more))), rest)

header_of : (h : Header) (value : PlanValue) → IsSpelled (behind h) value → h ≡ value.header
header_of h value s =
    let (planes, _, s1) = spelled_bind (references h) _ value s in
    let (leaves, _, s2) = spelled_bind (superblocks h) _ value s1 in
    ap (λ (v : PlanValue). v.header) (spelled_done _ value s2)

-- the text of a plan begins with its header
begins : (bytes : List ℕ) (value : PlanValue) → AreText plan bytes value → BeginWith bytes value.header
unfolding plan plan_behind
begins bytes value (vs, spells, is) =
    let (h, front, rest) = front_of header behind value vs spells in
    subst (BeginWith bytes) (header_of h value rest) (subst (λ (l : List ℕ). BeginWith l h) (sym is) front)

pub plan_begins : (bytes : List ℕ) (value : PlanValue) → ArePlan bytes value → BeginWith bytes value.header
plan_begins bytes value are = begins bytes value are.1

-- ---- what is answered

-- the length that the header tells is that of the planes
pub told_len : (value : PlanValue) (len : ℕ) → len ≡ planes_len value.header → (0 ≡ DONE) × (len ≡ length (planes_of value))
told_len value len is = (refl, wanted_is value value.header len is refl)
