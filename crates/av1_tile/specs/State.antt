-- What the state of a reconstruction shows.
use Rattle.std.specs.Prelude.{◌≡◌, ◌<◌, ℕ, List}
use Rattle.std.specs.List.{fold}
use Rattle.av1_lists.specs.Lists.{by_index}
use Rattle.av1_frame.specs.declared.frame_invariants.FrameInvariants.{FrameInvariants}
use Rattle.av1_frame.specs.Planes.{sample_at}
use Rattle.av1_plan.specs.declared.header.Header.{Header}
use Rattle.av1_plan.specs.Geometry.{follows_av1}
use Rattle.av1_plan.specs.Plan.{PlanValue}
use Rattle.av1_tile.specs.Motion.{HoldsReferences}
use Rattle.av1_tile.specs.declared.planes.Planes.{Planes}
use Rattle.av1_tile.specs.Canvas.{Component}
use Rattle.av1_tile.specs.Edge.{sample_of}
use Rattle.av1_tile.specs.PlaneBlocks.{component, shown_of}
use Rattle.av1_tile.specs.Reference.{slow_walk}
use Rattle.av1_tile.specs.Steps.{steps}
use Rattle.av1_tile.specs.Walk.{plane_of, StoresAll, HasRoom, AreFilledWith, edges_after}

-- what callers see of a state: the header of the plan that was reconstructed last, the references that it holds, its
-- planes, and the number of edges that were prepared in it. Before the first plan, the header is the one that the state
-- was made for.
pub record Picture (T : Type 0) : Type 0 where
  pub header : Header
  pub references : FrameInvariants T
  pub planes : Planes T
  pub edges : ℕ

abbrev pub state_header : {T : Type 0} → Picture T → Header
state_header s = s.header

abbrev pub state_references : {T : Type 0} → Picture T → FrameInvariants T
state_references s = s.references

abbrev pub state_planes : {T : Type 0} → Picture T → Planes T
state_planes s = s.planes

abbrev pub state_edges : {T : Type 0} → Picture T → ℕ
state_edges s = s.edges

-- the planes store the frame, padded to whole superblocks
pub record IsSound {T : Type 0} (num : T → ℕ) (s : Picture T) : Type 0 where
  pub stores : StoresAll num s.header s.planes
  pub room : HasRoom s.header s.planes

-- the frames of two headers are laid out alike
pub record AreAlike (h k : Header) : Type 0 where
  pub width : h.width ≡ k.width
  pub height : h.height ≡ k.height
  pub depth : h.depth ≡ k.depth
  pub sampling : h.sampling ≡ k.sampling

-- frame settings with a header's filters and reference slots in place of their own; the rest is unchanged
abbrev pub with_settings : {T : Type 0} → Header → FrameInvariants T → FrameInvariants T
with_settings h fi =
    record fi {
      default_filter = h.filter;
      short_by_av1 = follows_av1 h;
      enable_intra_edge_filter = h.edge_filter;
      ref_frames = h.slots;
    }

-- The state was made for the plan, or for one that is laid out alike and has its reference samples. The rest of the
-- header is the plan's own: the edge filter, the interpolation filter, and the slots that references name.
pub record MadeFor {T : Type 0} (num : T → ℕ) (plan : PlanValue) (s : Picture T) : Type 0 where
  pub layout : AreAlike s.header plan.header
  pub references : HoldsReferences num plan (with_settings plan.header s.references)

-- the number of prepared edges after a plan was reconstructed: one more for each prediction from an edge
abbrev pub edges_of : ℕ → PlanValue → ℕ
edges_of count plan = fold edges_after count (steps plan.header plan.leaves)

-- the number of the sample at column x of row y of a plane
abbrev pub shown : {T : Type 0} → (T → ℕ) → Picture T → Component → ℕ → ℕ → ℕ
shown num s k x y = sample_at num (plane_of k s.planes) x y

-- row y of the shown part of plane p of a state
abbrev pub state_row : {T : Type 0} → (T → ℕ) → Picture T → ℕ → ℕ → List ℕ
state_row num s p y = by_index (shown_of s.header p).width (λ x. shown num s (component p) x y)

-- row y of the shown part of plane p of a plan
abbrev pub plan_row : PlanValue → (p y : ℕ) → List ℕ
plan_row plan p y = by_index (shown_of plan.header p).width (λ x. sample_of (slow_walk plan (component p) x y))

-- the state shows the result of the plan, row by row
abbrev pub ShowsRows : {T : Type 0} → (T → ℕ) → PlanValue → Picture T → Type 0
ShowsRows num plan s = (p y : ℕ) → p < 3 → y < (shown_of plan.header p).height →
    state_row num s p y ≡ plan_row plan p y

-- each stored sample of its planes is `value`
abbrev pub IsFilledWith : {T : Type 0} → T → Picture T → Type 0
IsFilledWith value s = AreFilledWith value s.planes
