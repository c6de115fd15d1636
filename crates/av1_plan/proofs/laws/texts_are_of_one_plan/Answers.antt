use Rattle.av1_plan.specs.Grammar.{plan}
use Rattle.av1_plan.proofs.Spelled.{one_text}
use Rattle.av1_plan.proofs.laws.texts_are_of_one_plan.Goals as goal

pub returns : goal.returns
returns c = λ bytes p q t u. one_text plan bytes p q t u
