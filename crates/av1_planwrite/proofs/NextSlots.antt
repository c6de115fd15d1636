-- The next slot that carries planes.
use Rattle.std.proofs.Common.{◌≡◌, ℕ, suc, ◌+◌, ◌-◌, ◌<◌, ◌≤◌, Bool, true, false, if◌then◌else◌, refl, ap, ◌∙◌, arith}
use Rattle.av1_plan.specs.declared.header.Header.{Header}
use Rattle.av1_plan.specs.Geometry.{has_slot}
use Rattle.av1_planwrite.specs.Building.{slot_from, next_slot}

found_by : (b : Bool) (x y : ℕ) → b ≡ true → (if b then x else y) ≡ x
found_by true x y e = refl
found_by false x y e = absurd cc

passed_by : (b : Bool) (x y : ℕ) → b ≡ false → (if b then x else y) ≡ y
passed_by true x y e = absurd cc
passed_by false x y e = refl

from_here : (h : Header) (slot n : ℕ) → slot_from h slot (suc n) ≡ (if has_slot h slot then slot else slot_from h (slot + 1) n)
unfolding slot_from
from_here h slot n = refl

from_end : (h : Header) (slot : ℕ) → slot_from h slot 0 ≡ slot
unfolding slot_from
from_end h slot = refl

pub slot_found : (h : Header) (slot : ℕ) → slot < 8 → has_slot h slot ≡ true → next_slot h slot ≡ slot
slot_found h slot lt e =
    let n : 8 - slot ≡ suc (8 - (slot + 1)) = omega arith in
    ap (slot_from h slot) n ∙ from_here h slot (8 - (slot + 1)) ∙ found_by (has_slot h slot) slot (slot_from h (slot + 1) (8 - (slot + 1))) e

pub slot_passed : (h : Header) (slot : ℕ) → slot < 8 → has_slot h slot ≡ false → next_slot h slot ≡ next_slot h (slot + 1)
slot_passed h slot lt e =
    let n : 8 - slot ≡ suc (8 - (slot + 1)) = omega arith in
    ap (slot_from h slot) n ∙ from_here h slot (8 - (slot + 1)) ∙ passed_by (has_slot h slot) slot (slot_from h (slot + 1) (8 - (slot + 1))) e

pub no_slot_left : (h : Header) (slot : ℕ) → 8 ≤ slot → next_slot h slot ≡ slot
no_slot_left h slot le = let n : 8 - slot ≡ 0 = omega arith in ap (slot_from h slot) n ∙ from_end h slot

pub ruleset next_slots = (slot_found, slot_passed, no_slot_left)
