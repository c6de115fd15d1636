-- What the reconstruction of a grid of tiles in memory says of its bytes.
use Rattle.std.proofs.Common.{◌≡◌, ◌≢◌, ℕ, List, [], ◌++◌, Some, Result, Ok, Err, refl, sym, ap, subst, ◌∙◌}
use Rattle.std.specs.Prelude.{OnOk, IfErr}
use Rattle.av1_streams.specs.Tasks.{ComeTo, IsRefusal}
use Rattle.av1_streams.proofs.Performing.{IsSound}
use Rattle.std.specs.Io.KnownBytes.{Appends}
use Rattle.av1_tiles.specs.declared.error.TilesError.{TilesError}
use Rattle.av1_tiles.specs.declared.error.TilesError.TheVariants.{ReadFault, TooLong, Malformed, Tile, WriteFault, Memory}
use Rattle.av1_tiles.specs.Outcomes.{HasOutcome}
use Rattle.av1_tiles.specs.Tasks.{cause_of, tiles_task}
use Rattle.av1_tiles.proofs.Answering.{tiles_task_sound}
use Rattle.av1_view.specs.FilePages.{tiles_in_memory, tiles_page_task}
use Rattle.av1_view.proofs.FileAnswers.{page_task_sound}

abbrev Answer : Type 0
Answer = Result (Unit {0}) TilesError

pub tiles_page_task_sound : IsSound tiles_page_task
tiles_page_task_sound = page_task_sound HasOutcome cause_of tiles_task_sound.one tiles_task_sound.long

-- what was gathered are the planes
pub tiles_gathered : (bytes read before after planes : List ℕ) (result : Answer) (done : Unit {0}) → read ≡ bytes → before ≡ [] → planes ≡ after →
    result ≡ Ok done → OnOk result (ComeTo tiles_task read (λ written. Appends (Some before) (Some after) written)) → HasOutcome bytes (Ok planes)
tiles_gathered bytes read before after planes result done same none is answer given =
    let (written, has, all) =
    subst (λ (r : Answer). OnOk r (ComeTo tiles_task read (λ written. Appends (Some before) (Some after) written))) answer given in
    let here : HasOutcome bytes (Ok written) = subst (λ (l : List ℕ). HasOutcome l (Ok written)) same has in
    let whole : after ≡ written = all ∙ ap (λ (l : List ℕ). l ++ written) none in
    subst (λ (l : List ℕ). HasOutcome bytes (Ok l)) (sym (is ∙ whole)) here

refused_so : (bytes : List ℕ) (e : TilesError) → (IsRefusal (cause_of e) → HasOutcome bytes (Err e)) → tiles_in_memory e ≢ Memory →
    HasOutcome bytes (Err (tiles_in_memory e))
refused_so bytes TooLong refused other = refused tt
refused_so bytes (Malformed at) refused other = refused tt
refused_so bytes (Tile i fault) refused other = refused tt
refused_so bytes ReadFault refused other = absurd (other refl)
refused_so bytes WriteFault refused other = absurd (other refl)
refused_so bytes Memory refused other = absurd (other refl)

-- an error refuses the bytes, or memory ran out
pub tiles_refused : (bytes read : List ℕ) (result : Answer) (e mapped : TilesError) → read ≡ bytes → result ≡ Err e → mapped ≡ tiles_in_memory e →
    IfErr result (λ d. IsRefusal (cause_of d) → HasOutcome read (Err d)) → mapped ≢ Memory → HasOutcome bytes (Err mapped)
tiles_refused bytes read result e mapped same answer is given other =
    let of_error : IsRefusal (cause_of e) → HasOutcome read (Err e) =
    subst (λ (r : Answer). IfErr r (λ d. IsRefusal (cause_of d) → HasOutcome read (Err d))) answer given in
    let of_bytes : IsRefusal (cause_of e) → HasOutcome bytes (Err e) = λ r. subst (λ (l : List ℕ). HasOutcome l (Err e)) same (of_error r) in
    subst (λ (d : TilesError). HasOutcome bytes (Err d)) (sym is) (refused_so bytes e of_bytes (λ h. other (is ∙ h)))
