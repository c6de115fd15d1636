-- What the parser has so far: definitions for private contracts.
use Rattle.std.specs.Prelude.{◌≤◌, List, length}
use Rattle.av1_plan.specs.Format.{Input}
use Rattle.av1_plan.specs.Plan.{LeafValue, leaf_values, Follow}
use Rattle.av1_plan.specs.Reading.{input}
use Rattle.av1_plan.specs.declared.parser.Parser.{Parser}

-- the leaves so far, and the bytes that are left
abbrev pub state : Parser → List LeafValue × Input
state p = (leaf_values p.triples.items p.leaves.items, input p.reader)

-- the triples of the leaves follow one another, and there are no more leaves or triples than bytes that were read
pub record IsSound (p : Parser) : Type 0 where
  pub follow : Follow 0 p.leaves.items (length p.triples.items)
  pub room : length p.triples.items ≤ p.reader.at
  pub few : length p.leaves.items ≤ p.reader.at
