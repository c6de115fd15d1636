-- What the bytes of a grid of tiles come to, from what was gathered of it.
use Rattle.std.proofs.Common.{◌≡◌, ℕ, List, [], ◌++◌, Option, Some, Result, Ok, Err, refl, sym, ap, subst, ◌∙◌}
use Rattle.av1_recon.specs.declared.error.PlanFault.TheVariants as refusals
use Rattle.av1_streams.specs.Memory.{source_bytes, source_faults}
use Rattle.av1_streams.specs.Tasks.{IsRefusal, Performs}
use Rattle.av1_streams.specs.declared.source.SliceSource.{SliceSource}
use Rattle.av1_streams.proofs.Told.{answers_bytes}
use Rattle.av1_tiles.specs.Outcomes.{HasOutcome}
use Rattle.av1_tiles.specs.Tasks.{cause_of, tiles_task}
use Rattle.av1_tiles.specs.declared.error.TilesError.{TilesError}
use Rattle.av1_tiles.specs.declared.error.TilesError.TheVariants as tiles
use Rattle.av1_tiles.proofs.Answering.{tiles_task_sound}
use Rattle.av1_tiles.proofs.Outcomes.{one_outcome}
use Rattle.av1_c.specs.Gathered.{gathered, gathering_faults, taken_of}
use Rattle.av1_c.specs.PartFaults.{tiles_fault}
use Rattle.av1_c.specs.Parts.{IsPartCause, PartsOutcome}
use Rattle.av1_c.specs.Tiles.{TilesComeTo}
use Rattle.av1_c.specs.declared.gathered.GatheringSink.{GatheringSink}
use Rattle.av1_c.proofs.Parts.{ComesToOne, failed}

abbrev of_tiles : Result (List ℕ) TilesError → PartsOutcome
of_tiles (Ok planes) = Ok planes
of_tiles (Err e) = Err (tiles_fault e)

pub one_tiles : (bytes : List ℕ) → ComesToOne (TilesComeTo bytes)
one_tiles bytes (Ok a) (Ok b) p q = ap of_tiles (one_outcome bytes (Ok a) (Ok b) p q)
one_tiles bytes (Ok a) (Err g) p (e, q, is) = ap of_tiles (one_outcome bytes (Ok a) (Err e) p q) ∙ sym (ap failed is)
one_tiles bytes (Err f) (Ok b) (d, p, is) q = ap failed is ∙ ap of_tiles (one_outcome bytes (Err d) (Ok b) p q)
one_tiles bytes (Err f) (Err g) (d, p, is_f) (e, q, is_g) =
    ap failed is_f ∙ ap of_tiles (one_outcome bytes (Err d) (Err e) p q) ∙ sym (ap failed is_g)

-- an error is what they are refused for, or memory ran out
tiles_cause : (bytes : List ℕ) (e : TilesError) → (IsRefusal (cause_of e) → HasOutcome bytes (Err e)) → (room : ℕ) →
    IsPartCause (TilesComeTo bytes) room (tiles_fault e)
tiles_cause bytes tiles.ReadFault f room = tt
tiles_cause bytes tiles.TooLong f room = (tiles.TooLong, f tt, refl)
tiles_cause bytes (tiles.Malformed at) f room = (tiles.Malformed at, f tt, refl)
tiles_cause bytes (tiles.Tile tile (refusals.Malformed at)) f room = (tiles.Tile tile (refusals.Malformed at), f tt, refl)
tiles_cause bytes (tiles.Tile tile (refusals.Invalid leaf kind)) f room = (tiles.Tile tile (refusals.Invalid leaf kind), f tt, refl)
tiles_cause bytes tiles.WriteFault f room = tt
tiles_cause bytes tiles.Memory f room = tt

abbrev left_of : SliceSource → Option (List ℕ)
left_of s = Some (source_bytes s)

module _ (source source' : SliceSource) (sink sink' : GatheringSink) where
  abbrev DoesTiles : Result (Unit {0}) TilesError → Type 0
  DoesTiles answer = Performs tiles_task left_of source_faults taken_of gathering_faults source source' sink sink' answer

  -- what was gathered is their planes
  pub tiles_found : (bytes planes : List ℕ) (done : Unit {0}) → DoesTiles (Ok done) → source_bytes source ≡ bytes → gathered sink ≡ [] →
      planes ≡ gathered sink' → TilesComeTo bytes (Ok planes)
  tiles_found bytes planes done does same empty is =
      let (outcome, comes, appended) =
      (answers_bytes tiles_task tiles_task_sound left_of source_faults taken_of gathering_faults source source' sink sink' (Ok done) does).ok in
      let all : outcome ≡ planes = sym (is ∙ appended ∙ ap (λ (xs : List ℕ). xs ++ outcome) empty) in
      subst (λ (bs : List ℕ). HasOutcome bs (Ok planes)) same (subst (λ (xs : List ℕ). HasOutcome (source_bytes source) (Ok xs)) all comes)

  pub tiles_refused : (bytes : List ℕ) (e : TilesError) → DoesTiles (Err e) → source_bytes source ≡ bytes → (room : ℕ) →
      IsPartCause (TilesComeTo bytes) room (tiles_fault e)
  tiles_refused bytes e does same =
      tiles_cause bytes e (λ r. subst (λ (bs : List ℕ). HasOutcome bs (Err e)) same
      ((answers_bytes tiles_task tiles_task_sound left_of source_faults taken_of gathering_faults source source' sink sink' (Err e) does).refused r))
