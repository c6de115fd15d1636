use Rattle.std.proofs.Common.{ℕ, ℤ, ◌≡◌, inl, inr, refl, length, subst, arith, w16}
use Rattle.std.proofs.lemmas.Int.{to_z-of_z}
use Rattle.av1_calls.specs.IntraEdges.{PreparesEdge}
use Rattle.av1_calls.specs.IntraPlanes.{IsEdgeFor, PredictsFromRoom}
use Rattle.av1_calls.specs.declared.status.TheConstants.{DONE}
use Rattle.av1_calls.proofs.intra_plane.tilg_predict_in_plane_8.Goals as goal

pub predict_prepared-requires : goal.predict_prepared-requires
predict_prepared-requires c =
    let found = c.tilg_intra_edge_8-prepared.ensures.done c.if-prepared-ne-DONE.false in
    let edge = found.1.1.1.0 in
    record { whole = omega arith; lies = edge.lies; column = edge.begins.column; row = edge.begins.row }

pub returns-then-prepared-ne-DONE : goal.returns-then-prepared-ne-DONE
returns-then-prepared-ne-DONE c =
    let edge = c.tilg_intra_edge_8-prepared.new.edge in
    let whole : length edge ≡ 257 = omega arith in
    record {
      done = λ e. absurd (c.if-prepared-ne-DONE.true e);
      refused = λ _. (edge, inl (_, (whole, c.tilg_intra_edge_8-prepared.ensures)));
      kept = λ _. refl;
    }

pub returns : goal.returns
returns c =
    let a = c.args in
    let edge = c.tilg_intra_edge_8-prepared.new.edge in
    let whole : length edge ≡ 257 = omega arith in
    let after = c.predict_prepared.new.samples in
    let answer = c.predict_prepared.result in
    let ready : IsEdgeFor 8 a.plane.now a.block.now a.samples.now edge DONE = (
      _,
      (
        whole,
        subst (λ (n : ℕ). PreparesEdge 8 (λ m. m) a.plane.now a.block.now a.samples.now _ edge n) c.if-prepared-ne-DONE.false
            c.tilg_intra_edge_8-prepared.ensures,
      ),
    ) in
    let from =
    subst (λ (z : ℤ). PredictsFromRoom 8 a.plane.now a.block.now a.smooth_neighbour edge a.ac.now z a.samples.now after answer)
    (to_z-of_z w16 a.alpha c.ranges.alpha) c.predict_prepared.ensures in
    record {
      done = λ e.
          (edge, (ready, subst (λ (n : ℕ). PredictsFromRoom 8 a.plane.now a.block.now a.smooth_neighbour edge a.ac.now a.alpha a.samples.now after n) e from));
      refused = λ _. (edge, inr (ready, from));
      kept = λ other. elim from [ inl q ↦ q.1.kept other | inr q ↦ q.1.kept other ];
    }
