use Rattle.av1_lists.proofs.Lists.{length-by_index, get_or-by_index}
use Rattle.av1_lists.proofs.by_index_laws.Goals as goal

pub returns-clause-len : goal.returns-clause-len
returns-clause-len c = λ n f. length-by_index n f

pub returns-clause-item : goal.returns-clause-item
returns-clause-item c = λ n k f h. get_or-by_index n f k 0 h
