use Rattle.av1_dct.proofs.Turns.{product_is}
use Rattle.av1_itx.proofs.words.I32BlockWord.add_product.Goals as goal

pub returns : goal.returns
returns c = λ i h. product_is c.args.self c.args.weight c.args.o c.ranges.self c.ranges.weight c.ranges.o
