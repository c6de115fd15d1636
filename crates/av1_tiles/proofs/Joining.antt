-- The frame that tiles come to, one put into it after the other.
use Rattle.std.proofs.Common.{◌≡◌, ℕ, ◌+◌, ◌<◌, ◌≤◌, ◌⊎◌, inl, inr, sym, subst, arith}
use Rattle.std.proofs.Math.Nat.{mul-pos}
use Rattle.std.proofs.lemmas.Bool.{cases_eq, cases_lt}
use Rattle.av1_plan.specs.Plan.{PlanValue}
use Rattle.av1_tile.specs.Canvas.{Component}
use Rattle.av1_tiles.specs.declared.error.TileError.{TileError}
use Rattle.av1_tiles.specs.declared.error.TileError.TheVariants as errors
use Rattle.av1_tiles.specs.declared.error.TilesError.{TilesError}
use Rattle.av1_tiles.specs.declared.file.Front.{Front}
use Rattle.av1_tiles.specs.Bounds.{IsReadFront}
use Rattle.av1_tiles.specs.Errors.{tile_error}
use Rattle.av1_tiles.specs.File.{front_value}
use Rattle.av1_tiles.specs.Grammar.{FileValue, count_tiles}
use Rattle.av1_tiles.specs.Joined.{ShowsTile, ComesTo}
use Rattle.av1_tiles.specs.Refusals.{RefusesTiles}
use Rattle.av1_tiles.specs.Validity.{IsTile, RefusesTile}
use Rattle.av1_tiles.proofs.Shown.{IsPut}

-- tile k is valid, and the frame shows what its plan comes to
abbrev pub IsShown : FileValue → ℕ → (Component → ℕ → ℕ → ℕ) → Type 0
IsShown f k frame = (plan : PlanValue) × IsTile f k plan × ShowsTile f.front k plan frame

-- and so do the first n
abbrev pub AreShown : FileValue → ℕ → (Component → ℕ → ℕ → ℕ) → Type 0
AreShown f n frame = (k : ℕ) → k < n → IsShown f k frame

pub none_shown : (f : FileValue) (frame : Component → ℕ → ℕ → ℕ) → AreShown f 0 frame
none_shown f frame k below = absurd (omega (arith, below))

-- one more
pub one_more : (f : FileValue) (i : ℕ) (old new : Component → ℕ → ℕ → ℕ) → i < count_tiles f.front → AreShown f i old → IsPut f i old new →
    AreShown f (i + 1) new
one_more f i old new lt before put k below =
    let (plan, is, shows, others) = put in
    elim (cases_eq k i) [
      | inl same ↦ subst (λ (n : ℕ). IsShown f n new) (sym same) (plan, is, shows)
      | inr differ ↦ (
          let (its, valid, shown) = before k (omega (arith, below, differ)) in
          let moved = others k its (omega (arith, below, lt)) differ shown in
          (its, valid, moved))
    ]

-- there is a tile
pub some_tile : (f : Front) → IsReadFront f → 0 < count_tiles (front_value f)
some_tile f read = mul-pos (omega (arith, read.columns.some)) (omega (arith, read.rows.some))

-- all of them are the joined planes
pub all_shown : (f : FileValue) (frame : Component → ℕ → ℕ → ℕ) → 0 < count_tiles f.front → AreShown f (count_tiles f.front) frame → ComesTo f frame
all_shown f frame some all = (
  λ i. plan_at i (cases_lt i (count_tiles f.front)),
  (λ i lt. valid_at i (cases_lt i (count_tiles f.front)) lt),
  λ i lt. shown_at i (cases_lt i (count_tiles f.front)) lt,
)
  where
    plan_at : (i : ℕ) → (i < count_tiles f.front) ⊎ (count_tiles f.front ≤ i) → PlanValue
    plan_at i (inl lt) = (all i lt).0
    plan_at i (inr past) = (all 0 some).0

    valid_at : (i : ℕ) (d : (i < count_tiles f.front) ⊎ (count_tiles f.front ≤ i)) → i < count_tiles f.front → IsTile f i (plan_at i d)
    valid_at i (inl lt) below = (all i lt).1
    valid_at i (inr past) below = absurd (omega (arith, past, below))

    shown_at : (i : ℕ) (d : (i < count_tiles f.front) ⊎ (count_tiles f.front ≤ i)) → i < count_tiles f.front → ShowsTile f.front i (plan_at i d) frame
    shown_at i (inl lt) below = (all i lt).2
    shown_at i (inr past) below = absurd (omega (arith, past, below))

-- the first that is refused
first_refused : (f : FileValue) (i : ℕ) (frame : Component → ℕ → ℕ → ℕ) (e : TileError) → i < count_tiles f.front → AreShown f i frame → RefusesTile f i e →
    RefusesTiles f (tile_error i e)
first_refused f i frame (errors.Refused fault) lt before refused = record {
  within = lt;
  before = λ k below. (let (plan, is, shows) = before k below in (plan, is));
  refused = refused;
}
first_refused f i frame errors.Memory lt before refused = tt

pub named_refused : (f : FileValue) (i : ℕ) (frame : Component → ℕ → ℕ → ℕ) (e : TileError) (d : TilesError) → d ≡ tile_error i e → i < count_tiles f.front →
    AreShown f i frame → RefusesTile f i e → RefusesTiles f d
named_refused f i frame e d is lt before refused = subst (RefusesTiles f) (sym is) (first_refused f i frame e lt before refused)
