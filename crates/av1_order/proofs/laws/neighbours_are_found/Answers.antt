use Rattle.av1_order.proofs.Neighbours.{areas_are_cells, areas_tile, last_cells_lie_inside, leaves_find_neighbours}
use Rattle.av1_order.proofs.laws.neighbours_are_found.Goals as goal

pub returns-clause-cells : goal.returns-clause-cells
returns-clause-cells c = areas_are_cells

pub returns-clause-one : goal.returns-clause-one
returns-clause-one c = areas_tile

pub returns-clause-noted : goal.returns-clause-noted
returns-clause-noted c = leaves_find_neighbours

pub returns-clause-inside : goal.returns-clause-inside
returns-clause-inside c = last_cells_lie_inside
