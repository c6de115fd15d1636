-- What reading a grid of tiles and joining its tiles say of its bytes.
use Rattle.std.proofs.Common.{◌≡◌, ◌≢◌, ℕ, ◌≤◌, List, length, Result, Ok, Err, refl, sym, ap, subst}
use Rattle.std.specs.Prelude.{IfOk, IfErr, IsErrAnd}
use Rattle.av1_plan.specs.declared.error.PlanError.{PlanError}
use Rattle.av1_plan.specs.declared.error.PlanError.TheVariants as plan_errors
use Rattle.av1_plan.specs.declared.header.Header.{Header}
use Rattle.av1_plan.specs.Reading.{Fails}
use Rattle.av1_streams.specs.Streams.{max_plan_bytes}
use Rattle.av1_tile.specs.Output.{visible}
use Rattle.av1_tiles.specs.declared.error.TilesError.{TilesError}
use Rattle.av1_tiles.specs.declared.error.TilesError.TheVariants.{ReadFault, TooLong, Malformed, Tile, WriteFault, Memory}
use Rattle.av1_tiles.specs.declared.joined.Frame.{Frame}
use Rattle.av1_tiles.specs.Errors.{file_error}
use Rattle.av1_tiles.specs.Frames.{IsFrame, frame_bytes, samples_in}
use Rattle.av1_tiles.specs.Grammar.{FileValue, read_file}
use Rattle.av1_tiles.specs.Joined.{ComesTo}
use Rattle.av1_tiles.specs.Outcomes.{AreJoined, HasOutcome}
use Rattle.av1_tiles.specs.Refusals.{AreGrid, AreRefusedFor, RefusesTiles}
use Rattle.av1_tiles.specs.Tasks.{HoldFrame}

-- bytes that are no grid are refused
pub no_grid : (bytes : List ℕ) (e : PlanError) → length bytes ≤ max_plan_bytes → Fails e (read_file bytes) → file_error e ≢ Memory →
    AreRefusedFor bytes (file_error e)
no_grid bytes (plan_errors.Malformed at) short fails known = (short, fails)
no_grid bytes plan_errors.Memory short fails known = absurd (known refl)

-- and so is a grid that has a tile that is refused
pub no_frame : (bytes : List ℕ) (f : FileValue) (e : TilesError) → AreGrid bytes f → RefusesTiles f e → e ≢ Memory → AreRefusedFor bytes e
no_frame bytes f (Tile i fault) grid refused known = (f, grid, refused)
no_frame bytes f Memory grid refused known = absurd (known refl)
no_frame bytes f ReadFault grid refused known = absurd refused
no_frame bytes f TooLong grid refused known = absurd refused
no_frame bytes f (Malformed at) grid refused known = absurd refused
no_frame bytes f WriteFault grid refused known = absurd refused

-- the bytes of the frame that its tiles come to are its outcome
pub a_frame : (bytes : List ℕ) (f : FileValue) (frame : Frame) → AreGrid bytes f → frame.header ≡ f.front.header → ComesTo f (samples_in frame.samples) →
    AreJoined bytes (frame_bytes frame)
a_frame bytes f frame grid same comes = (f, grid, (samples_in frame.samples, comes, ap (λ (h : Header). visible h (samples_in frame.samples)) same))

-- a frame that was found is held
pub held : {E : Type 0} (bytes : List ℕ) (r : Result Frame E) → IfOk r (λ frame. HasOutcome bytes (Ok (frame_bytes frame))) → IfOk r IsFrame →
    IfOk r (λ frame. HoldFrame bytes (Ok frame))
held bytes (Ok frame) found is = (found, is)
held bytes (Err e) found is = tt

-- what joining the tiles of a grid says of its bytes
pub joined_found : {E : Type 0} (bytes : List ℕ) (f : FileValue) (r : Result Frame E) → AreGrid bytes f → IfOk r (λ frame. frame.header ≡ f.front.header) →
    IfOk r (λ frame. ComesTo f (samples_in frame.samples))
    → IfOk r (λ frame. HasOutcome bytes (Ok (frame_bytes frame)))
joined_found bytes f (Ok frame) grid same comes = a_frame bytes f frame grid same comes
joined_found bytes f (Err e) grid same comes = tt

pub joined_refused : {V : Type 0} (bytes : List ℕ) (f : FileValue) (r : Result V TilesError) → AreGrid bytes f → IfErr r (RefusesTiles f) →
    IfErr r (λ e. e ≢ Memory → AreRefusedFor bytes e)
joined_refused bytes f (Ok x) grid refused = tt
joined_refused bytes f (Err e) grid refused = no_frame bytes f e grid refused

-- and what reading it does
pub read_refused : {V : Type 0} (bytes : List ℕ) (r : Result V TilesError) (e : PlanError) → IsErrAnd r (λ d. d ≡ file_error e) →
    length bytes ≤ max_plan_bytes → Fails e (read_file bytes)
    → IfErr r (λ d. d ≢ Memory → AreRefusedFor bytes d)
read_refused bytes (Ok x) e is short fails = absurd is
read_refused bytes (Err d) e is short fails = subst (λ (d : TilesError). d ≢ Memory → AreRefusedFor bytes d) (sym is) (no_grid bytes e short fails)
