use Rattle.std.proofs.Common.{◌≡◌, ◌+◌, ◌*◌, ◌++◌, ◌<◌, ℕ, length, map, take, get_or}
use Rattle.std.specs.List.{flat_map}
use Rattle.av1_planwrite.specs.Given.{FitsTriple}
use Rattle.av1_planwrite.specs.Text.{pair, triple_text}
use Rattle.av1_c.specs.Leaves.{triple_of}
use Rattle.av1_c.specs.declared.leaf_numbers.Coefficient.{Coefficient}
use Rattle.av1_c.proofs.append_leaf.put_coefficients.Given as goal

abbrev pub invariant-loop-coefficient : goal.invariant-loop-coefficient
invariant-loop-coefficient l = record {
  place : l.end ≡ l.fn.at + (2 + 7 * l.coefficient-index);
  so_far : take l.end l.slice ≡ take l.fn.at l.fn.slice
      ++ (pair (length l.coefficients) ++ flat_map triple_text (map triple_of (take l.coefficient-index l.coefficients)));
  fit : (k : ℕ) (d : Coefficient) → k < l.coefficient-index → FitsTriple (triple_of (get_or l.coefficients k d));
}
