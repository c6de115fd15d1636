use Rattle.std.proofs.Common.{ℕ, ◌≡◌, ◌≤◌, ◌++◌, true, false, refl, inl, rules, arith, tests, ap, ◌∙◌, drop, length, subst}
use Rattle.std.proofs.lemmas.Slice.{drop-append-drop}
use Rattle.av1_calls.specs.IntraBlocks.{IsDepthWithin}
use Rattle.av1_calls.specs.IntraEdges.{BeginsIn, HasNoPlace, IsEdge, LiesIn, PreparesEdge, edge_in}
use Rattle.av1_calls.proofs.Blocks.{denied}
use Rattle.av1_calls.proofs.EdgeCalls.{held_before}
use Rattle.av1_calls.proofs.intra_edge.prepare_by.Goals.{then-not-is_tile-via-then-not-is_tile, then-not-is_tile-via-else-not-is_tile+then-not-begins_in}
use Rattle.av1_calls.proofs.intra_edge.prepare_by.Goals as goal

pub returns-else-not-begins_in : goal.returns-else-not-begins_in
returns-else-not-begins_in g c =
    let a = c.args in
    let names = c.in-Ok.names in
    let f = c.in-Ok.ensures in
    let held = c.prepare_in.ensures in
    let room = c.prepare_in.new.room in
    let num = g.T.Pixel.num in
    let lies : c.is_tile.result ≡ true = grind (arith, tests, c.if-not-is_tile.false) in
    let begins : c.begins_in.result ≡ true = grind (arith, tests, c.if-not-begins_in.false) in
    let whole : length room ≡ 257 = omega arith in
    let found : IsEdge g.T.Pixel.BITS a.plane.now a.block.now (length a.samples.now) (length a.edge.now) names.mode names.size names.block = record {
      roomy = c.if-edge-lt-EDGE_SAMPLES.false;
      moded = f.mode;
      sized = f.size;
      blocked = f.block;
      turn = f.turn;
      depth = subst (λ (n : ℕ). IsDepthWithin n a.block.now.bit_depth) c.BITS.ensures f.depth;
      lies = c.is_tile.ensures.true_is lies;
      begins = c.begins_in.ensures.true_is begins;
    } in
    let holds = held_before num (edge_in num held.0 a.block.now names.mode names.size names.block) room c.split_at_mut-room.result.1.now whole held.1.1 in
    record {
      done = λ _. (names.mode, (names.size, (names.block, (found, (held.0, (held.1.0, holds))))));
      asked = λ _ _ _ _. refl;
      room = λ e. cc;
      mode = λ e. cc;
      size = λ e. cc;
      angle = λ e. cc;
      depth = λ e. cc;
      area = λ e. cc;
      rest = ap (λ zs. drop 257 (room ++ zs)) c.split_at_mut-room.ensures.back ∙ drop-append-drop 257 a.edge.now room 257 (omega arith) (omega arith);
      kept = λ other. absurd (other refl);
      known = inl refl;
    }

pub returns-then-not-is_tile : goal.returns-then-not-is_tile
returns-then-not-is_tile g c =
    let a = c.args in
    let names = c.in-Ok.names in
    let f = c.in-Ok.ensures in
    let roomy = c.if-edge-lt-EDGE_SAMPLES.false in
    let depth = subst (λ (n : ℕ). IsDepthWithin n a.block.now.bit_depth) c.BITS.ensures f.depth in
    let never : ¬ (LiesIn a.plane.now (length a.samples.now) × BeginsIn a.plane.now a.block.now names.size) = λ both. elim c.then-not-is_tile.branch [
      | then-not-is_tile-via-then-not-is_tile w ↦ let untrue : c.is_tile.result ≡ false = grind (arith, tests, w.if-not-is_tile.true)
          in denied c.is_tile.result c.is_tile.ensures.is_true untrue both.0
      | then-not-is_tile-via-else-not-is_tile+then-not-begins_in w ↦ let untrue : w.begins_in.result ≡ false = grind (arith, tests, w.if-not-begins_in.true)
          in denied w.begins_in.result w.begins_in.ensures.is_true untrue both.1
    ] in
    let away : (257 ≤ length a.edge.now) × HasNoPlace g.T.Pixel.BITS a.plane.now a.block.now (length a.samples.now) =
    (roomy, (names.mode, (names.size, (names.block, (record { moded = f.mode; sized = f.size; blocked = f.block }, (f.turn, (depth, never))))))) in
    search rules

pub returns-in-Err : goal.returns-in-Err
returns-in-Err g c =
    let a = c.args in
    let told : PreparesEdge c.BITS.result g.T.Pixel.num a.plane.now a.block.now a.samples.now a.edge.now a.edge.now c.status.result = search rules in
    subst (λ (n : ℕ). PreparesEdge n g.T.Pixel.num a.plane.now a.block.now a.samples.now a.edge.now a.edge.now c.status.result) c.BITS.ensures told
