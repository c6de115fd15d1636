use Rattle.std.proofs.lemmas.List.{length-replicate}
use Rattle.av1_inter.proofs.Rows.{copied_twice}
use Rattle.av1_inter.proofs.copies.copy_by_array.Goals as goal

pub returns : goal.returns
returns g c = copied_twice g.row.N _ _ _ _ _ c.requires.source_long (length-replicate _ _) c.copy_each.ensures c.copy_each-2.ensures
