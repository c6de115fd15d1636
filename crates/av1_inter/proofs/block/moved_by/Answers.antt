use Rattle.std.proofs.Common.{rules}
use Rattle.av1_inter.proofs.Table.{fraction_small}
use Rattle.av1_inter.proofs.block.moved_by.Goals as goal

pub returns-clause-small : goal.returns-clause-small
returns-clause-small c =
    (fraction_small c.args.col_frac _ (search rules) c.requires.col_frac, fraction_small c.args.row_frac _ (search rules) c.requires.row_frac)
