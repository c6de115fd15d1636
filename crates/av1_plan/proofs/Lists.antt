-- Lists that begin empty, and slots of planes.
use Rattle.std.proofs.Common.{◌≡◌, List, [], ◌∷◌, ◌++◌, Option, Ok, Err, refl}
use Rattle.std.proofs.lemmas.List.{map_push}
use Rattle.av1_plan.specs.declared.planes.SlotPlanes.{SlotPlanes}
use Rattle.av1_plan.specs.Plan.{slot_value, slot_values}
use Rattle.av1_plan.specs.Format.{Format, Input, Reading, on_ok, read, add}
use Rattle.av1_plan.proofs.Formats.{turns, add_asks, add_done}

same : {A : Type 0} (r : Reading (List A × Input)) → r ≡ on_ok r (λ p. Ok p)
same (Ok p) = refl
same (Err at) = refl

pub read_empty : {A : Type 0} (f : Format (List A)) (i : Input) → read f i ≡ add f ([], i)
unfolding add
read_empty f i = same (read f i)

pub slots_push : (slots : List (Option SlotPlanes)) (slot : Option SlotPlanes) → slot_values (slots ++ slot ∷ []) ≡ slot_values slots ++ slot_value slot ∷ []
slots_push slots slot = map_push slot_value slots slot

pub ruleset collects = (turns, add_asks, add_done, read_empty, slots_push)
