use Rattle.std.proofs.Common.{◌≡◌, ◌<◌, ℕ, subst, arith}
use Rattle.av1_tile.specs.Walk.{samples_of}
use Rattle.av1_tiles.specs.File.{front_value, file_value}
use Rattle.av1_tiles.specs.Grammar.{count_tiles}
use Rattle.av1_tiles.proofs.Joining.{AreShown, none_shown, one_more, all_shown, named_refused, some_tile}
use Rattle.av1_tiles.proofs.joined.join_tiles.Goals as goal

pub loop-index-init : goal.loop-index-init
loop-index-init g c =
    record {
      seen = c.in_ok-seen.ensures;
      room = c.in_ok-memory.ensures.room;
      planes = (let s = c.in_ok-planes.ensures.stores in record { y = s.y.place; u = s.u.place; v = s.v.place });
      shown = none_shown (file_value c.args.file.now) (samples_of g.T.Pixel.num c.in_ok-planes.planes);
    }

pub reconstruct_in-requires-clause-seen : goal.reconstruct_in-requires-clause-seen
reconstruct_in-requires-clause-seen g c = c.loop-index.invariant.seen

pub reconstruct_in-requires-clause-planes : goal.reconstruct_in-requires-clause-planes
reconstruct_in-requires-clause-planes g c = c.loop-index.invariant.planes

pub returns-in-Err-clause-refused : goal.returns-in-Err-clause-refused
returns-in-Err-clause-refused g c =
    let lt : c.loop-index.index < count_tiles (front_value c.args.file.now.front) =
    omega (arith, c.loop-index-test.true, c.len-index-end.ensures, c.requires.read.count) in
    named_refused (file_value c.args.file.now) c.loop-index.index (samples_of g.T.Pixel.num c.loop-index.planes) c.in-Err.error c.tile_error.result
    c.tile_error.ensures lt c.loop-index.invariant.shown c.in-Err.ensures.refused

pub loop-index-preserved : goal.loop-index-preserved
loop-index-preserved g c =
    let lt : c.loop-index.index < count_tiles (front_value c.args.file.now.front) =
    omega (arith, c.loop-index-test.true, c.len-index-end.ensures, c.requires.read.count) in
    record {
      seen = c.loop-index.invariant.seen;
      room = omega (arith, c.in_default.ensures.cells, c.loop-index.invariant.room);
      planes = c.in_default.ensures.planes;
      shown = one_more (file_value c.args.file.now) c.loop-index.index (samples_of g.T.Pixel.num c.loop-index.planes)
          (samples_of g.T.Pixel.num c.reconstruct_in.new.planes) lt c.loop-index.invariant.shown c.in_default.ensures.done;
    }

pub returns-clause-planes : goal.returns-clause-planes
returns-clause-planes g c = c.loop-index.invariant.planes

pub returns-clause-joined : goal.returns-clause-joined
returns-clause-joined g c =
    let end : c.loop-index.index ≡ count_tiles (front_value c.args.file.now.front) =
    omega (arith, c.loop-index-test.false, c.loop-index.auto.index-end, c.len-index-end.ensures, c.requires.read.count) in
    let frame = samples_of g.T.Pixel.num c.loop-index.planes in
    all_shown (file_value c.args.file.now) frame (some_tile c.args.file.now.front c.requires.read.front)
    (subst (λ (n : ℕ). AreShown (file_value c.args.file.now) n frame) end c.loop-index.invariant.shown)
