use Rattle.std.proofs.Common.{List, sym, ap, ◌∙◌, arith}
use Rattle.std.specs.List.{list_all}
use Rattle.std.proofs.lemmas.List.{take_all}
use Rattle.av1_c.specs.Builders.{is_part, part_of}
use Rattle.av1_c.specs.declared.builder.BuilderPart.{BuilderPart}
use Rattle.av1_c.proofs.Arrays.{all_read}
use Rattle.av1_c.proofs.builder.parts_numbers.Goals as goal

pub returns-clause-parts : goal.returns-clause-parts
returns-clause-parts c = let l = c.loop-i in sym (all_read part_of l.i l.numbers c.args.parts.now l.invariant.so_far (omega arith) (omega arith))

pub returns-clause-valid : goal.returns-clause-valid
returns-clause-valid c = let l = c.loop-i in sym (ap (λ (ns : List BuilderPart). list_all is_part ns) (take_all l.i l.numbers (omega arith)))
    ∙ l.invariant.valid
