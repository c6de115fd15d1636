-- Bytes are refused for one reason.
use Rattle.std.proofs.Common.{◌≡◌, ℕ, List, length, [], Option, Some, None, refl, sym, ap, subst, ◌∙◌, arith, inl, inr, eqb}
use Rattle.std.proofs.lemmas.Bool.{cases_eq, cases_lt}
use Rattle.av1_plan.specs.declared.error.Invalid.{Invalid}
use Rattle.av1_plan.specs.Format.{on_ok, ended, read, start}
use Rattle.av1_plan.specs.Plan.{PlanValue}
use Rattle.av1_plan.specs.Spelling.{IsSpelled}
use Rattle.av1_plan.specs.Validity.{first_fault}
use Rattle.av1_plan.proofs.Parts.{clash, done_ok, err_is}
use Rattle.av1_plan.proofs.Spelled.{bind_ok, ok_is, one_text, read_spells}
use Rattle.av1_recon.proofs.Outcomes.{byte_fits, same_place}
use Rattle.av1_recon.specs.declared.error.PlanFault.{PlanFault}
use Rattle.av1_recon.specs.declared.error.PlanFault.TheVariants as faults
use Rattle.av1_tiles.specs.declared.error.TilesError.{TilesError}
use Rattle.av1_tiles.specs.declared.error.TilesError.TheVariants.{ReadFault, TooLong, Malformed, Tile, WriteFault, Memory}
use Rattle.av1_tiles.specs.Grammar.{FileValue, count_tiles, front, read_parts, read_file}
use Rattle.av1_tiles.specs.Refusals.{AreGrid, AreRefusedFor, IsFirstRefused}
use Rattle.av1_tiles.specs.Tiles.{tile_plan, part_of}
use Rattle.av1_tiles.specs.Validity.{IsTile, IsRefusedTile}

-- ---- grids

-- what stands before the parts of a grid is spelled
pub front_spelled : (bytes : List ℕ) (f : FileValue) → AreGrid bytes f → IsSpelled front f.front
unfolding read_file
front_spelled bytes f grid =
    let (x, is, rest) =
    bind_ok (read front (start bytes)) (λ p. on_ok (read_parts (count_tiles p.0) ([], p.1)) (λ q. ended (record { front = p.0; parts = q.0 }, q.1))) f
    grid.read in
    let (y, parts, end) = bind_ok (read_parts (count_tiles x.0) ([], x.1)) (λ q. ended (record { front = x.0; parts = q.0 }, q.1)) f rest in
    let whole : FileValue = record { front = x.0; parts = y.0 } in
    let same = (done_ok (eqb (length y.1.rest) 0) whole f y.1.at end).1 in
    let (values, spells, _) = read_spells front (start bytes) x.0 x.1 (byte_fits bytes grid.fits) is in
    let first : IsSpelled front x.0 = record { values = values; spells = spells } in
    subst (λ (v : FileValue). IsSpelled front v.front) same first

-- bytes are one grid
pub one_grid : (bytes : List ℕ) (f g : FileValue) → AreGrid bytes f → AreGrid bytes g → f ≡ g
one_grid bytes f g a b = ok_is f g (sym a.read ∙ b.read)

-- ---- refusals

-- a valid tile isn't refused
pub not_both : (f : FileValue) (i : ℕ) (plan : PlanValue) (fault : PlanFault) → IsTile f i plan → IsRefusedTile f i fault → ⊥
not_both f i plan (faults.Malformed at) is refused = refused.no_text plan is.text
not_both f i plan (faults.Invalid leaf kind) is (other, text, fault) =
    let same : other ≡ plan = one_text (tile_plan f.front i) (part_of f i) other plan text is.text in
    let none : first_fault other ≡ None = ap first_fault same ∙ is.valid in
    absurd cc

abbrev fault_of : Option Invalid → PlanFault
fault_of (Some fault) = faults.Invalid fault.leaf fault.kind
fault_of None = faults.Malformed 0

-- a tile is refused for one fault
one_fault : (f : FileValue) (i : ℕ) (a b : PlanFault) → IsRefusedTile f i a → IsRefusedTile f i b → a ≡ b
one_fault f i (faults.Malformed a) (faults.Malformed b) p q = ap (λ (at : ℕ). faults.Malformed at) (same_place (tile_plan f.front i) (part_of f i) a b p q)
one_fault f i (faults.Malformed a) (faults.Invalid leaf kind) p (plan, text, fault) = absurd (p.no_text plan text)
one_fault f i (faults.Invalid leaf kind) (faults.Malformed b) (plan, text, fault) q = absurd (q.no_text plan text)
one_fault f i (faults.Invalid leaf kind) (faults.Invalid leaf_b kind_b) (plan, text, fault) (plan_b, text_b, fault_b) =
    let same : plan ≡ plan_b = one_text (tile_plan f.front i) (part_of f i) plan plan_b text text_b in
    ap fault_of (sym fault ∙ ap first_fault same ∙ fault_b)

-- a grid has one first tile that is refused
one_tile : (f : FileValue) (i j : ℕ) (a b : PlanFault) → IsFirstRefused f i a → IsFirstRefused f j b → i ≡ j
one_tile f i j a b p q = elim (cases_lt i j) [
  | inl before ↦ absurd (let (plan, is) = q.before i before in not_both f i plan a is p.refused)
  | inr le ↦ (elim (cases_eq i j) [
    | inl same ↦ same
    | inr differ ↦ absurd (let (plan, is) = p.before j (omega (arith, le, differ)) in not_both f j plan b is q.refused)
  ])
]

one_refusal : (f : FileValue) (i j : ℕ) (a b : PlanFault) → IsFirstRefused f i a → IsFirstRefused f j b → Tile i a ≡ Tile j b
one_refusal f i j a b p q =
    let same : i ≡ j = one_tile f i j a b p q in
    let there : IsRefusedTile f j a = subst (λ (n : ℕ). IsRefusedTile f n a) same p.refused in
    ap (λ (n : ℕ). Tile n a) same ∙ ap (λ (t : PlanFault). Tile j t) (one_fault f j a b there q.refused)

-- bytes are refused for one reason
pub one_reason : (bytes : List ℕ) (d e : TilesError) → AreRefusedFor bytes d → AreRefusedFor bytes e → d ≡ e
one_reason bytes ReadFault e p q = absurd p
one_reason bytes WriteFault e p q = absurd p
one_reason bytes Memory e p q = absurd p
one_reason bytes TooLong TooLong p q = refl
one_reason bytes TooLong (Malformed b) p q = absurd (omega (arith, p, q.0))
one_reason bytes TooLong (Tile j fault) p (g, other, first) = absurd (omega (arith, p, other.short))
one_reason bytes TooLong ReadFault p q = absurd q
one_reason bytes TooLong WriteFault p q = absurd q
one_reason bytes TooLong Memory p q = absurd q
one_reason bytes (Malformed a) TooLong p q = absurd (omega (arith, q, p.0))
one_reason bytes (Malformed a) (Malformed b) p q = ap (λ (at : ℕ). Malformed at) (err_is a b (read_file bytes) p.1 q.1)
one_reason bytes (Malformed a) (Tile j fault) p (g, other, first) = absurd (clash g a (sym other.read ∙ p.1))
one_reason bytes (Malformed a) ReadFault p q = absurd q
one_reason bytes (Malformed a) WriteFault p q = absurd q
one_reason bytes (Malformed a) Memory p q = absurd q
one_reason bytes (Tile i fault) TooLong (f, grid, first) q = absurd (omega (arith, q, grid.short))
one_reason bytes (Tile i fault) (Malformed b) (f, grid, first) q = absurd (clash f b (sym grid.read ∙ q.1))
one_reason bytes (Tile i fault) (Tile j fault_g) (f, grid, first) (g, other, first_g) =
    let same : g ≡ f = one_grid bytes g f other grid in
    one_refusal f i j fault fault_g first (subst (λ (e : FileValue). IsFirstRefused e j fault_g) same first_g)
one_reason bytes (Tile i fault) ReadFault p q = absurd q
one_reason bytes (Tile i fault) WriteFault p q = absurd q
one_reason bytes (Tile i fault) Memory p q = absurd q
