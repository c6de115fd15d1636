use Rattle.std.proofs.Common.{arith, ◌≡◌, ◌*◌, ◌^◌, ◌∙◌, sym}
use Rattle.av1_dct.proofs.Powers.{power_only}
use Rattle.av1_itx.proofs.columns.word_columns.Goals as goal

pub words_of-requires-clause-power : goal.words_of-requires-clause-power
words_of-requires-clause-power g c =
    power_only c.args.columns.now.power 1 (sym c.requires.columns.power ∙ (let e : c.args.columns.now.height ≡ 2 * 2 ^ 1 = omega arith in e))

pub words_of-requires-in-8-clause-power : goal.words_of-requires-in-8-clause-power
words_of-requires-in-8-clause-power g c =
    power_only c.args.columns.now.power 2 (sym c.requires.columns.power ∙ (let e : c.args.columns.now.height ≡ 2 * 2 ^ 2 = omega arith in e))

pub words_of-requires-in-16-clause-power : goal.words_of-requires-in-16-clause-power
words_of-requires-in-16-clause-power g c =
    power_only c.args.columns.now.power 3 (sym c.requires.columns.power ∙ (let e : c.args.columns.now.height ≡ 2 * 2 ^ 3 = omega arith in e))

pub words_of-requires-in-32-clause-power : goal.words_of-requires-in-32-clause-power
words_of-requires-in-32-clause-power g c =
    power_only c.args.columns.now.power 4 (sym c.requires.columns.power ∙ (let e : c.args.columns.now.height ≡ 2 * 2 ^ 4 = omega arith in e))

pub words_of-requires-in_default-clause-power : goal.words_of-requires-in_default-clause-power
words_of-requires-in_default-clause-power g c =
    power_only c.args.columns.now.power 5 (sym c.requires.columns.power ∙ (let e : c.args.columns.now.height ≡ 2 * 2 ^ 5 = omega arith in e))
