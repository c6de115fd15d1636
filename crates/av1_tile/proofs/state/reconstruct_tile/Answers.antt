use Rattle.std.proofs.Common.{◌≡◌, ◌∙◌, ap, subst, sym, ℕ, List, None}
use Rattle.av1_frame.specs.declared.frame_invariants.FrameInvariants.{FrameInvariants}
use Rattle.av1_plan.specs.declared.header.Header.{Header}
use Rattle.av1_plan.specs.declared.plan.Plan.{Plan}
use Rattle.av1_plan.specs.Plan.{LeafValue}
use Rattle.av1_plan.specs.Validity.{first_fault}
use Rattle.av1_plan.specs.Values.{leaves_value, plan_value}
use Rattle.av1_tile.specs.declared.planes.Planes.{Planes}
use Rattle.av1_tile.specs.Memory.{IsPlanOver}
use Rattle.av1_tile.specs.Motion.{HoldsReferences}
use Rattle.av1_tile.specs.State.{MadeFor, Picture, edges_of, state_edges, with_settings}
use Rattle.av1_tile.proofs.Layouts.{alike_to}
use Rattle.av1_tile.proofs.Pictures.{state_rows, state_visible}
use Rattle.av1_tile.proofs.PlansOver.{followed_holds, made_with, state_over}
use Rattle.av1_tile.proofs.state.reconstruct_tile.Goals as goal

-- the plan over a state r that follows its header, opened, where state s was made for it
followed_over : {T : Type 0} (num : T → ℕ) (plan : Plan) (own : List LeafValue) (s r : Picture T) (k h : Header) (fi : FrameInvariants T) (planes : Planes T)
    (edges : ℕ)
    → own ≡ (plan_value plan).leaves → record { header = h; references = fi; planes = planes; edges = edges } ≡ r → first_fault (plan_value plan) ≡ None
    → k ≡ (plan_value plan).header → r.header ≡ k → r.references ≡ with_settings k s.references → MadeFor num (plan_value plan) s
    → IsPlanOver num h own fi (plan_value plan)
followed_over num plan own s r k h fi planes edges are is valid same header settings made =
    state_over num plan own r h fi planes edges are is valid (header ∙ same) (followed_holds num (plan_value plan) k s r same settings made)

pub follow-requires-clause-alike : goal.follow-requires-clause-alike
follow-requires-clause-alike g c =
    let plan = plan_value c.args.plan.now in
    alike_to c.args.state.now.header plan.header c.header.result.now c.requires.made.layout c.header.ensures.value

pub reconstruct-requires-clause-plan : goal.reconstruct-requires-clause-plan
reconstruct-requires-clause-plan g c =
    let s = c.state.inside in (
      plan_value c.args.plan.now,
      followed_over g.T.Pixel.num c.args.plan.now (leaves_value c.leaves_with_triples.result.now) c.args.state.now c.follow.new.self
          c.header.result.now s.header s.fi s.planes s.memory.edges c.leaves_with_triples.ensures c.state.view_is c.requires.valid c.header.ensures.value
          c.follow.ensures.header c.follow.ensures.references c.requires.made,
    )

pub returns-clause-visible : goal.returns-clause-visible
returns-clause-visible g c =
    let s = c.state.inside in
    let plan = plan_value c.args.plan.now in
    let walk = c.reconstruct in
    let is = followed_over g.T.Pixel.num c.args.plan.now (leaves_value c.leaves_with_triples.result.now) c.args.state.now c.follow.new.self
    c.header.result.now s.header s.fi s.planes s.memory.edges c.leaves_with_triples.ensures c.state.view_is c.requires.valid c.header.ensures.value
    c.follow.ensures.header c.follow.ensures.references c.requires.made in
    state_visible g.T.Pixel.num plan s.header s.fi walk.new.planes walk.new.self.edges (sym is.header) (walk.ensures.shown plan is)

pub returns-clause-rows : goal.returns-clause-rows
returns-clause-rows g c =
    let s = c.state.inside in
    let plan = plan_value c.args.plan.now in
    let walk = c.reconstruct in
    let is = followed_over g.T.Pixel.num c.args.plan.now (leaves_value c.leaves_with_triples.result.now) c.args.state.now c.follow.new.self
    c.header.result.now s.header s.fi s.planes s.memory.edges c.leaves_with_triples.ensures c.state.view_is c.requires.valid c.header.ensures.value
    c.follow.ensures.header c.follow.ensures.references c.requires.made in
    state_rows g.T.Pixel.num plan s.header s.fi walk.new.planes walk.new.self.edges (sym is.header) (walk.ensures.shown plan is)

pub returns-clause-made : goal.returns-clause-made
returns-clause-made g c =
    let s = c.state.inside in
    let plan = plan_value c.args.plan.now in
    let walk = c.reconstruct in
    let holds =
    followed_holds g.T.Pixel.num plan c.header.result.now c.args.state.now c.follow.new.self c.header.ensures.value c.follow.ensures.references
    c.requires.made in
    made_with g.T.Pixel.num plan (record { header = s.header; references = s.fi; planes = walk.new.planes; edges = walk.new.self.edges })
    (ap (λ (p : Picture _). p.header) c.state.view_is ∙ c.follow.ensures.header ∙ c.header.ensures.value)
    (subst (λ (p : Picture _). HoldsReferences g.T.Pixel.num plan p.references) (sym c.state.view_is) holds)

pub returns-clause-references : goal.returns-clause-references
returns-clause-references g c =
    ap (λ (p : Picture _). p.references) c.state.view_is ∙ c.follow.ensures.references
    ∙ ap (λ (h : Header). with_settings h c.args.state.now.references) c.header.ensures.value

pub returns-clause-edges : goal.returns-clause-edges
returns-clause-edges g c =
    let s = c.state.inside in
    let plan = plan_value c.args.plan.now in
    let is = followed_over g.T.Pixel.num c.args.plan.now (leaves_value c.leaves_with_triples.result.now) c.args.state.now c.follow.new.self
    c.header.result.now s.header s.fi s.planes s.memory.edges c.leaves_with_triples.ensures c.state.view_is c.requires.valid c.header.ensures.value
    c.follow.ensures.header c.follow.ensures.references c.requires.made in
    c.reconstruct.ensures.edges plan is ∙ ap (λ (p : Picture _). edges_of (state_edges p) plan) c.state.view_is
    ∙ ap (λ (n : ℕ). edges_of n plan) c.follow.ensures.edges
