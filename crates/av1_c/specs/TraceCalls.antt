-- The contract of the call that compares the planes of a plan with planes in another encoder's memory.
use Rattle.std.specs.Prelude.{◌≡◌, ◌≢◌, ◌⊎◌, ℕ, zero, suc, ◌*◌, ◌<◌, List, [], ◌++◌, length, take, drop, map, None, Err}
use Rattle.av1_frame.specs.Samples.{row_of}
use Rattle.av1_frame.specs.declared.plane_region.StoredArea.{StoredArea}
use Rattle.av1_plan.specs.Geometry.{shown_columns, shown_rows}
use Rattle.av1_plan.specs.Plan.{PlanValue}
use Rattle.av1_plan.specs.Validity.{first_fault}
use Rattle.av1_plan.specs.declared.error.InvalidKind.{InvalidKind}
use Rattle.av1_plan.specs.declared.header.Header.{Header}
use Rattle.av1_recon.specs.Outcomes.{ArePlan, AreRefusedFor}
use Rattle.av1_recon.specs.declared.error.ReconError.{ReconError}
use Rattle.av1_recon.specs.declared.error.ReconError.TheVariants as errors
use Rattle.av1_streams.specs.Streams.{max_plan_bytes}
use Rattle.av1_trace.specs.Differences.{differences}
use Rattle.av1_trace.specs.Samples.{sample_len}
use Rattle.av1_trace.specs.declared.entry.Difference.{Difference}
use Rattle.av1_calls.specs.Samples.{AreHeld, rectangle_of}
use Rattle.av1_calls.specs.declared.status.TheConstants.{BAD_AREA, DONE}
use Rattle.av1_c.specs.Faults.{invalid_leaf, malformed_at}
use Rattle.av1_c.specs.Plans.{status_for}
use Rattle.av1_c.specs.declared.differences.GivenPlanes.{GivenPlanes}
use Rattle.av1_c.specs.declared.differences.TraceDifference.{TraceDifference}
use Rattle.av1_c.specs.declared.fault.Refusal.{Refusal}
use Rattle.av1_c.specs.declared.status.TheConstants.{INVALID, MALFORMED, OUT_OF_MEMORY, TOO_LONG}

-- the bytes are a valid plan
abbrev pub IsValidPlan : List ℕ → PlanValue → Type 0
IsValidPlan bytes value = ArePlan bytes value × (first_fault value ≡ None)

-- ---- the given planes

-- the bytes of each plane, and how many bytes apart its rows begin
pub record Given : Type 0 where
  pub y : List ℕ
  pub y_stride : ℕ
  pub u : List ℕ
  pub u_stride : ℕ
  pub v : List ℕ
  pub v_stride : ℕ

abbrev pub given : (y : List ℕ) → (y_stride : ℕ) → (u : List ℕ) → (u_stride : ℕ) → (v : List ℕ) → (v_stride : ℕ) → Given
given y y_stride u u_stride v v_stride =
    record { y = y; y_stride = y_stride; u = u; u_stride = u_stride; v = v; v_stride = v_stride }

-- the visible rows of plane p, in bytes: a sample takes one at depth 8, else two
abbrev pub visible_rows : Header → (p : ℕ) → StoredArea
visible_rows h p = rectangle_of 0 0 (sample_len h.depth * shown_columns h p) (shown_rows h p)

-- they lie in the given bytes
abbrev pub IsGiven : Header → (p : ℕ) → (bytes : List ℕ) → (stride : ℕ) → Type 0
IsGiven h p bytes stride = AreHeld stride (visible_rows h p) (length bytes)

pub record AreGiven (h : Header) (g : Given) : Type 0 where
  pub y : IsGiven h 0 g.y g.y_stride
  pub u : IsGiven h 1 g.u g.u_stride
  pub v : IsGiven h 2 g.v g.v_stride

-- the first rows of a rectangle, one after the other
abbrev pub rows_in : (stride : ℕ) → StoredArea → List ℕ → (rows : ℕ) → List ℕ
rows_in stride area bytes zero = []
rows_in stride area bytes (suc r) = rows_in stride area bytes r ++ row_of stride area r bytes

-- the visible rows of plane p, one after the other
abbrev pub given_plane : Header → (p : ℕ) → (bytes : List ℕ) → (stride : ℕ) → List ℕ
given_plane h p bytes stride = rows_in stride (visible_rows h p) bytes (shown_rows h p)

-- All that is read of the given planes: the bytes of planes as the call that reconstructs a plan writes them.
abbrev pub planes_in : Header → Given → List ℕ
planes_in h g =
    given_plane h 0 g.y g.y_stride ++ (given_plane h 1 g.u g.u_stride ++ given_plane h 2 g.v g.v_stride)

-- the differences between a plan and the given planes
abbrev pub given_differences : PlanValue → Given → List Difference
given_differences value g = differences value (planes_in value.header g)

-- ---- the buffer

abbrev pub difference_numbers : Difference → TraceDifference
difference_numbers d = record {
  leaf = d.leaf;
  row = d.row;
  column = d.column;
  given = d.given;
  defined = d.defined;
  plane = d.plane;
}

-- the buffer after the first entries of a list are written to its front, as many as fit
abbrev pub listed : List TraceDifference → (room : List TraceDifference) → List TraceDifference
listed list room = take (length room) list ++ drop (length list) room

-- `found` is the number of the differences, and the buffer begins with them
pub record AreListed (list : List Difference) (room room' : List TraceDifference) (found : ℕ) : Type 0 where
  pub count : found ≡ length list
  pub front : room' ≡ listed (map difference_numbers list) room

-- ---- the contracts

-- the status is one of these
abbrev pub IsTraceStatus : ℕ → Type 0
IsTraceStatus status =
    (status ≡ DONE) ⊎ ((status ≡ BAD_AREA) ⊎ ((status ≡ TOO_LONG) ⊎ ((status ≡ MALFORMED) ⊎ ((status ≡ INVALID)
    ⊎ (status ≡ OUT_OF_MEMORY)))))

-- The call lists differences. Without a prime a name is the value before the call, with a prime after it. `status` is
-- the result.
pub record ListsDifferences (bytes : List ℕ) (g : Given) (room room' : List TraceDifference) (found found' : ℕ)
    (refusal refusal' : Refusal) (status : ℕ) : Type 0 where
  -- The bytes are a valid plan, its visible rows lie in the given bytes, and the differences are listed.
  pub done : status ≡ DONE → (value : PlanValue) × IsValidPlan bytes value × AreGiven value.header g
      × AreListed (given_differences value g) room room' found'
  -- The bytes are a valid plan, and visible rows of a plane do not lie in the given bytes.
  pub area : status ≡ BAD_AREA → (value : PlanValue) × IsValidPlan bytes value × (¬ AreGiven value.header g)
  -- The bytes are rejected for this reason.
  pub too_long : status ≡ TOO_LONG → max_plan_bytes < length bytes
  pub malformed : status ≡ MALFORMED → (at : ℕ) × AreRefusedFor bytes (errors.Malformed at)
      × (refusal' ≡ malformed_at at)
  pub invalid : status ≡ INVALID → (leaf : ℕ) × (kind : InvalidKind) × AreRefusedFor bytes (errors.Invalid leaf kind)
      × (refusal' ≡ invalid_leaf leaf kind)
  -- The bytes and the planes decide the status, unless memory runs out.
  pub asked : (value : PlanValue) → IsValidPlan bytes value → AreGiven value.header g
      → (status ≡ DONE) ⊎ (status ≡ OUT_OF_MEMORY)
  pub outside : (value : PlanValue) → IsValidPlan bytes value → (¬ AreGiven value.header g)
      → (status ≡ BAD_AREA) ⊎ (status ≡ OUT_OF_MEMORY)
  pub rejected : (e : ReconError) → AreRefusedFor bytes e → (status ≡ status_for 0 (Err e)) ⊎ (status ≡ OUT_OF_MEMORY)
  -- What the call does not set is unchanged.
  pub kept : status ≢ DONE → (room' ≡ room) × (found' ≡ found)
  pub untold : status ≢ MALFORMED → status ≢ INVALID → refusal' ≡ refusal
  pub known : IsTraceStatus status

-- ---- definitions for private contracts

abbrev pub given_of : GivenPlanes → Given
given_of g = given g.y.now g.y_stride g.u.now g.u_stride g.v.now g.v_stride

-- the differences of a valid plan are listed, unless a plane is not given or memory runs out
pub record ListsOf (v : PlanValue) (g : Given) (room room' : List TraceDifference) (found found' status : ℕ) : Type 0
  where
    pub done : status ≡ DONE → AreGiven v.header g × AreListed (given_differences v g) room room' found'
    pub area : status ≡ BAD_AREA → ¬ AreGiven v.header g
    pub kept : status ≢ DONE → (room' ≡ room) × (found' ≡ found)
    pub known : (status ≡ DONE) ⊎ ((status ≡ BAD_AREA) ⊎ (status ≡ OUT_OF_MEMORY))
