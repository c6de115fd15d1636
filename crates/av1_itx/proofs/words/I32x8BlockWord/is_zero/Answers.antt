use Rattle.std.proofs.Common.{arith, ap, sym, ◌∙◌, get_or, pos, ℤ, List, of_z, w32}
use Rattle.std.proofs.lemmas.Bool.Decides.{Decides-int_eq}
use Rattle.std.proofs.lemmas.List.{get_or-replicate, length-map}
use Rattle.std.proofs.lemmas.Slice.Eq.{slice_eq-Decides}
use Rattle.av1_dct.proofs.LaneOperations.{lane_read, lanes_alike}
use Rattle.av1_itx.proofs.words.I32x8BlockWord.is_zero.Goals as goal

pub returns-clause-zeros : goal.returns-clause-zeros
returns-clause-zeros c = λ zero i h.
    let same = (slice_eq-Decides Decides-int_eq _ _ _ c.eq.ensures).0 zero in
    sym (lane_read 8 c.args.self i h (omega (arith, length-map c.args.self (of_z w32)))) ∙ ap (λ (zs : List ℤ). get_or zs i (pos 0)) same
    ∙ get_or-replicate 8 i (pos 0) (pos 0) h

pub returns-clause-told : goal.returns-clause-told
returns-clause-told c = λ zero.
    (slice_eq-Decides Decides-int_eq _ _ _ c.eq.ensures).1 (lanes_alike 8 c.args.self (pos 0) (omega (arith, length-map c.args.self (of_z w32))) zero)
