-- A plan without a next field needs nothing more.
use Rattle.std.proofs.Common.{◌≡◌, ℕ, Bool, true, false, ◌||◌, nat_lt, Option, Some, None, refl}
use Rattle.std.specs.Prelude.{is_some, if◌then◌else◌}
use Rattle.av1_plan.specs.declared.nodes.Part.{Part}
use Rattle.av1_plan.specs.declared.nodes.Part.TheVariants.{Node, Leaf}
use Rattle.av1_c.specs.NextFields.{next_field, part_field}
use Rattle.av1_c.specs.declared.build_next.NextField.{NextField}
use Rattle.av1_c.specs.declared.status.TheConstants.{NEXT_NOTHING, NEXT_REFERENCE}

pub nothing_next : (slot : ℕ) (first : Option Part) →
    (next_field slot (if nat_lt slot 8 then None else first)).kind ≡ NEXT_NOTHING → (nat_lt slot 8 || is_some first) ≡ false
nothing_next slot first = by (nat_lt slot 8) first
  where
    planes : NextField
    planes = record { slot = slot; kind = NEXT_REFERENCE; size = 0; x = 0; y = 0 }

    by : (before : Bool) (part : Option Part) → (if before then planes else part_field (if before then None else part)).kind ≡ NEXT_NOTHING →
        (before || is_some part) ≡ false
    by true part e = absurd cc
    by false None e = refl
    by false (Some (Node level x y)) e = absurd cc
    by false (Some (Leaf size x y)) e = absurd cc
