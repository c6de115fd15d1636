use Rattle.std.proofs.Common.{arith, ap, sym, ◌∙◌, get_or, pos, ℤ, List, of_z, w32}
use Rattle.std.proofs.lemmas.Bool.Decides.{Decides-int_eq}
use Rattle.std.proofs.lemmas.List.{get_or-replicate, length-map}
use Rattle.std.proofs.lemmas.Slice.Eq.{slice_eq-Decides}
use Rattle.av1_dct.proofs.LaneOperations.{lane_read}
use Rattle.av1_dct.proofs.narrow.is_zero.Goals as goal

pub returns : goal.returns
returns c = λ zero i h.
    let same = (slice_eq-Decides Decides-int_eq _ _ _ c.eq.ensures).0 zero in
    sym (lane_read 8 c.args.word i h (omega (arith, length-map c.args.word (of_z w32)))) ∙ ap (λ (zs : List ℤ). get_or zs i (pos 0)) same
    ∙ get_or-replicate 8 i (pos 0) (pos 0) h
