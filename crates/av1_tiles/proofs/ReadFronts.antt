-- What holds of what stands before the parts, where it was read.
use Rattle.std.proofs.Common.{◌≡◌, ◌==◌, ℕ, ◌-◌, ◌*◌, ◌≤◌, Bool, true, false, if◌then◌else◌, length, Ok, subst, arith, lit≤}
use Rattle.std.specs.Prelude.{codes, vec_len}
use Rattle.std.specs.Int.{w32, from_le_bytes}
use Rattle.av1_plan.specs.Format.{four, Input, read}
use Rattle.av1_plan.specs.Grammar.{where_, frame, references}
use Rattle.av1_plan.specs.ReadPlans.{IsReadFrame}
use Rattle.av1_plan.specs.Spelling.{IsSpelled}
use Rattle.av1_plan.proofs.Fields.{AreBytes}
use Rattle.av1_plan.proofs.Pieces.{spelled_done, spelled_asks, spelled_bind}
use Rattle.av1_plan.proofs.ReadFrames.{frame_is}
use Rattle.av1_plan.proofs.ReadReferences.{stored_are}
use Rattle.av1_plan.proofs.Spelled.{read_spells}
use Rattle.av1_plan.proofs.Versions.{frame_version}
use Rattle.av1_tiles.specs.declared.file.Front.{Front}
use Rattle.av1_tiles.specs.Bounds.{AreBounds, IsReadFront}
use Rattle.av1_tiles.specs.File.{front_value}
use Rattle.av1_tiles.specs.Grammar.{is_magic, version_of, bounds, FrontValue, front}
use Rattle.av1_tiles.proofs.Starts.{bounds_are}

-- the letters name the second or the third version of plans
named_version : (letters : ℕ) → (2 ≤ version_of letters) × (version_of letters ≤ 3)
named_version letters = go (letters == from_le_bytes w32 (codes "RTL2"))
  where
    go : (b : Bool) → (2 ≤ (if b then 3 else 2)) × ((if b then 3 else 2) ≤ 3)
    go true = (lit≤ tt, lit≤ tt)
    go false = (lit≤ tt, lit≤ tt)

record HasPieces (v : FrontValue) : Type 0 where
  version : ℕ
  least : 2 ≤ version
  most : version ≤ 3
  header : IsSpelled (frame version) v.header
  references : IsSpelled (references v.header) v.references
  columns : IsSpelled (bounds v.header.width) v.columns
  rows : IsSpelled (bounds v.header.height) v.rows

pieces : (v : FrontValue) → IsSpelled front v → HasPieces v
unfolding front
pieces v s =
    let (letters, _, s1) = spelled_asks (where_ four is_magic) _ v s in
    let (h, h_spelled, s2) = spelled_bind (frame (version_of letters)) _ v s1 in
    let (slots, slots_spelled, s3) = spelled_bind (references h) _ v s2 in
    let (columns, columns_spelled, s4) = spelled_bind (bounds h.width) _ v s3 in
    let (rows, rows_spelled, s5) = spelled_bind (bounds h.height) _ v s4 in
    let whole : HasPieces (record { header = h; references = slots; columns = columns; rows = rows }) =
    record {
      version = version_of letters;
      least = (named_version letters).0;
      most = (named_version letters).1;
      header = h_spelled;
      references = slots_spelled;
      columns = columns_spelled;
      rows = rows_spelled;
    } in
    subst HasPieces (spelled_done _ v s5) whole

pub front_frame : (v : FrontValue) → IsSpelled front v → IsReadFrame v.header
front_frame v s = let p = pieces v s in frame_is p.version v.header (omega (arith, p.least)) p.most p.header

-- the bounds of the columns and rows of tiles
pub record HasBounds (v : FrontValue) : Type 0 where
  pub columns : AreBounds v.header.width v.columns
  pub rows : AreBounds v.header.height v.rows

pub front_bounds : (v : FrontValue) → IsSpelled front v → HasBounds v
front_bounds v s =
    let p = pieces v s in
    let is = front_frame v s in
    record {
      columns = bounds_are v.header.width v.columns (omega (arith, is.shown_width.some)) p.columns;
      rows = bounds_are v.header.height v.rows (omega (arith, is.shown_height.some)) p.rows;
    }

front_is : (f : Front) → length f.references.items ≡ 8 → IsSpelled front (front_value f) → IsReadFront f
front_is f eight s =
    let p = pieces (front_value f) s in
    let is = front_frame (front_value f) s in
    let bounds = front_bounds (front_value f) s in
    record {
      frame = is;
      version = omega (arith, frame_version p.version p.header.values f.header p.header.spells, p.least);
      eight = eight;
      slots = stored_are f.header f.references.items eight p.references;
      columns = bounds.columns;
      rows = bounds.rows;
    }

pub read_front : (f : Front) (i j : Input) → AreBytes i.rest → vec_len f.references ≡ 8 → read front i ≡ Ok (front_value f, j) → IsReadFront f
read_front f i j fits eight e =
    let s = read_spells front i (front_value f) j fits e in
    front_is f (omega (arith, eight)) (record { values = s.0; spells = s.1 })

pub count_is : (n a b c d : ℕ) → n ≡ (a - 1) * (b - 1) → a ≡ c → b ≡ d → n ≡ (c - 1) * (d - 1)
count_is n a b c d n_is a_is b_is = rw (← a_is, ← b_is) n_is

pub few_tiles : (a b : ℕ) → a ≤ 33 → b ≤ 33 → (a - 1) * (b - 1) ≤ 1024
few_tiles a b la lb = omega (arith, first (a - 1) (b - 1) (omega (arith, la)), lb)
  where
    first : (a b : ℕ) → a ≤ 32 → a * b ≤ 32 * b
    first a b le = grind arith
