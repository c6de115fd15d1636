-- The memory of a walk, and the plans that are walked in it.
use Rattle.std.specs.Prelude.{◌≡◌, ◌<◌, ◌≤◌, ◌*◌, ◌/◌, ℕ, List, None}
use Rattle.av1_frame.specs.declared.frame_invariants.FrameInvariants.{FrameInvariants}
use Rattle.av1_plan.specs.declared.header.Header.{Header}
use Rattle.av1_plan.specs.Geometry.{shown_columns, shown_rows, coded_width, coded_height}
use Rattle.av1_plan.specs.Grammar.{plan as grammar}
use Rattle.av1_plan.specs.Plan.{LeafValue, PlanValue}
use Rattle.av1_plan.specs.Spelling.{IsSpelled}
use Rattle.av1_plan.specs.Validity.{first_fault}
use Rattle.av1_tile.specs.declared.references.TileReferences.{TileReferences}
use Rattle.av1_tile.specs.Motion.{ServesPlan}
use Rattle.av1_tile.specs.declared.planes.Planes.{Planes}
use Rattle.av1_tile.specs.Canvas.{Component}
use Rattle.av1_tile.specs.Edge.{sample_of}
use Rattle.av1_tile.specs.PlaneBlocks.{number}
use Rattle.av1_tile.specs.Reference.{Scene, slow_walk, walk_of}
use Rattle.av1_tile.specs.Walk.{ServesScene, samples_of}

-- what callers see of the memory of a walk: the number of cells of 4x4 luma samples that it has a record for, and the
-- number of edges that were prepared in it
pub record WalkRoom : Type 0 where
  pub cells : ℕ
  pub edges : ℕ

-- the memory has a record for each cell of a frame
abbrev pub HasRoomFor : Header → WalkRoom → Type 0
HasRoomFor h room = coded_height h / 4 * (coded_width h / 4) ≤ room.cells

-- a valid plan with this header and these leaves; the frame settings serve its references
pub record IsPlanOver {T : Type 0} (num : T → ℕ) (h : Header) (own : List LeafValue) (fi : FrameInvariants T)
    (plan : PlanValue) : Type 0 where
  pub spelled : ∥ IsSpelled grammar plan ∥₁
  pub valid : first_fault plan ≡ None
  pub header : plan.header ≡ h
  pub leaves : plan.leaves ≡ own
  pub references : ServesPlan num plan fi

-- a valid plan with this header and these leaves, and a scene whose motion the references of a tile serve
pub record IsTileOver {T : Type 0} (num : T → ℕ) (h : Header) (own : List LeafValue) (from : TileReferences T)
    (scene : Scene) (plan : PlanValue) : Type 0 where
  pub spelled : ∥ IsSpelled grammar plan ∥₁
  pub valid : first_fault plan ≡ None
  pub header : plan.header ≡ h
  pub leaves : plan.leaves ≡ own
  pub same : scene.header ≡ h
  pub references : ServesScene num scene from

-- the planes show the result of a scene with these leaves, at each shown sample
abbrev pub ShowsScene : {T : Type 0} → (T → ℕ) → Scene → List LeafValue → Planes T → Type 0
ShowsScene num scene leaves planes =
    (k : Component) (x y : ℕ) → x < shown_columns scene.header (number k) → y < shown_rows scene.header (number k) →
    samples_of num planes k x y ≡ sample_of (walk_of scene leaves k x y)

-- the planes show the result of a plan, at each shown sample
abbrev pub ShowsPlan : {T : Type 0} → (T → ℕ) → PlanValue → Planes T → Type 0
ShowsPlan num plan planes =
    (k : Component) (x y : ℕ) → x < shown_columns plan.header (number k) → y < shown_rows plan.header (number k) →
    samples_of num planes k x y ≡ sample_of (slow_walk plan k x y)
