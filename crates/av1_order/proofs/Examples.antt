-- A frame of 8 by 8 samples, split down to 4 by 4.
use Rattle.std.proofs.Common.{◌≡◌, ℕ, true, false, [], ◌∷◌, length, get_or, refl, arith}
use Rattle.av1_avail.specs.Order.{next_before, is_in, is_earlier, is_before_in_block, interleaved}
use Rattle.std.proofs.lemmas.List.Elements.{All-from_recursion}
use Rattle.av1_plan.specs.Tree.{Tree, none, split, frame_leaves}
use Rattle.av1_order.specs.Steps.{Coding, Step, carries, IsTiled, steps_of, IsFrame}
use Rattle.av1_order.specs.Places.{told_before, frame_before}

unit : Coding
unit = record { is_inter = false; columns = 1; rows = 1 }

corner : Tree Coding 1
unfolding unit
corner = split (none unit) (none unit) (none unit) (none unit)

node_2 : Tree Coding 2
unfolding corner
node_2 = split corner corner corner corner

node_3 : Tree Coding 3
unfolding node_2
node_3 = split node_2 node_2 node_2 node_2

tree : Tree Coding 4
unfolding node_3
tree = split node_3 node_3 node_3 node_3

luma : length (steps_of 0 0 2 2 (tree ∷ [])) ≡ 4
unfolding tree
luma = refl

chroma : length (steps_of 1 1 2 2 (tree ∷ [])) ≡ 1
unfolding tree
chroma = refl

half : length (steps_of 1 0 2 2 (tree ∷ [])) ≡ 2
unfolding tree
half = refl

first : Step
unfolding tree
first = get_or (steps_of 0 0 2 2 (tree ∷ [])) 0 (record { block = record { x = 9; y = 9; columns = 9; rows = 9 }; right = 0; down = 0; columns = 0; rows = 0 })

third : Step
unfolding tree
third = get_or (steps_of 0 0 2 2 (tree ∷ [])) 2 first

right_of_third : told_before 0 0 third 1 0 ≡ true
unfolding third next_before is_in is_earlier is_before_in_block interleaved
right_of_third = refl

written_third : frame_before 0 0 (steps_of 0 0 2 2 (tree ∷ [])) 2 1 0 ≡ true
unfolding tree is_in
written_third = refl

left_of_second : frame_before 0 0 (steps_of 0 0 2 2 (tree ∷ [])) 1 0 1 ≡ false
unfolding tree is_in
left_of_second = refl

unit_tiles : (x y : ℕ) → IsTiled 1 0 (record { block = record { x = x; y = y; columns = 1; rows = 1 }; content = unit })
unfolding unit
unit_tiles x y = record { wide = omega arith; high = omega arith; across = refl; along = refl }

is_frame : IsFrame 1 0 2 2 (tree ∷ [])
unfolding tree
is_frame =
    record {
      halved_x = omega arith;
      halved_y = omega arith;
      some_width = omega arith;
      even_width = refl;
      even_height = refl;
      tiled =
          All-from_recursion (λ l. carries 1 0 l.block ≡ true → IsTiled 1 0 l) (frame_leaves 2 2 (tree ∷ []))
          ((λ e. unit_tiles 0 0), ((λ e. unit_tiles 1 0), ((λ e. unit_tiles 0 1), ((λ e. unit_tiles 1 1), tt))));
    }
