use Rattle.std.proofs.Common.{◌≡◌, ◌∙◌, ◌+◌, ◌<◌, ◌^◌, take, rules}
use Rattle.std.proofs.lemmas.List.{with_items_is, places}
use Rattle.std.proofs.lemmas.List.Elements.{All-take}
use Rattle.av1_streams.proofs.Filling.{Consumes-filled}
use Rattle.av1_streams.proofs.read.read_bytes.Goals as goal

pub reading-preserved : goal.reading-preserved
reading-preserved g c =
    let whole = with_items_is c.make_room.new.bytes c.read_at.new.bytes (search (rules, places)) in
    let front : take c.reading.filled c.read_at.new.bytes ≡ take c.reading.filled c.reading.bytes.items =
    rw (c.read_at.ensures.front, c.deref_mut.ensures.value) c.make_room.ensures.front in
    record {
      within = search (rules, places);
      limit = search rules;
      so_far = rw whole (Consumes-filled _ _ _ _ _ c.reading.filled c.in-Ok.count front c.reading.invariant.so_far c.in-Ok.ensures.ok);
      fits = rw whole (All-take (λ byte. byte < 2 ^ 8) (c.reading.filled + c.in-Ok.count) c.read_at.new.bytes c.read_at.ensures.bytes);
      uncounted = c.in-Ok.ensures.cause.uncounted ∙ c.reading.invariant.uncounted;
    }
