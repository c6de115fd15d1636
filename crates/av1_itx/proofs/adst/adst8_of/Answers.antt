use Rattle.std.proofs.Common.{ap, ◌∙◌, refl, sym, subst, List, ℤ}
use Rattle.std.proofs.lemmas.List.{length-map}
use Rattle.av1_dct.specs.Arithmetic.{AllFit}
use Rattle.av1_dct.specs.Word.{column}
use Rattle.av1_lists.specs.Lists.{by_index}
use Rattle.av1_itx.specs.Adst.{adst_in}
use Rattle.av1_itx.specs.declared.adst.TheConstants.{START_8}
use Rattle.av1_itx.proofs.Blocks.{block_round}
use Rattle.av1_itx.proofs.Order.{places_8}
use Rattle.av1_itx.proofs.Steps.{round-fits, no_rounds, rounds_more, more_is, turned_by-fits}
use Rattle.av1_itx.proofs.Turns.{turned_by}
use Rattle.av1_itx.proofs.Weights.{start_8, block_8, block_4}
use Rattle.av1_itx.proofs.WrittenWords.{by_length}
use Rattle.av1_itx.proofs.adst.adst8_of.Goals as goal

pub run_blocks-requires-clause-table : goal.run_blocks-requires-clause-table
run_blocks-requires-clause-table g c = block_8

pub run_blocks-requires-clause-fit : goal.run_blocks-requires-clause-fit
run_blocks-requires-clause-fit g c = λ i h. let P : List ℤ → Type 0 = λ zs. AllFit 20 zs
    in subst P (sym (c.turn_pairs.ensures i h)) (turned_by-fits START_8 _ _)

pub run_blocks-requires-2-clause-table : goal.run_blocks-requires-2-clause-table
run_blocks-requires-2-clause-table g c = block_4

pub run_blocks-requires-2-clause-fit : goal.run_blocks-requires-2-clause-fit
run_blocks-requires-2-clause-fit g c = λ i h. let P : List ℤ → Type 0 = λ zs. AllFit 20 zs
    in subst P (sym (c.run_blocks.ensures i h)) (round-fits c.args.range 4 _ _ (column g.W.Word.lane_of i c.turn_pairs.new.v) c.requires.range_in.1)

pub permute_out-requires-clause-table : goal.permute_out-requires-clause-table
permute_out-requires-clause-table g c = places_8

pub permute_out-requires-clause-fit : goal.permute_out-requires-clause-fit
permute_out-requires-clause-fit g c = λ i h. let P : List ℤ → Type 0 = λ zs. AllFit 20 zs
    in subst P (sym (c.run_blocks-2.ensures i h)) (round-fits c.args.range 2 _ _ (column g.W.Word.lane_of i c.run_blocks.new.v) c.requires.range_in.1)

pub returns : goal.returns
returns g c = λ i h.
    let lane = g.W.Word.lane_of in
    let range = c.args.range in
    let u = c.permute_in.new.v in
    let v0 = c.turn_pairs.new.v in
    let v1 = c.run_blocks.new.v in
    let v2 = c.run_blocks-2.new.v in
    let l0 = c.turn_pairs.auto.v ∙ c.permute_in.auto.v ∙ c.requires.work_len in
    let l1 = c.run_blocks.auto.v ∙ l0 in
    let r1 = rounds_more range 2 0 4 8 (column lane i v0) (column lane i v0) (column lane i v1) refl refl (no_rounds range 2 (column lane i v0))
    (c.run_blocks.ensures i h ∙ by_length lane i v0 (λ m. by_index m (block_round range 4 m (column lane i v0)))) (length-map v0 _ ∙ l0) in
    let r2 =
    rounds_more range 2 1 2 8 (column lane i v0) (column lane i v1) (column lane i v2) refl refl (r1)
    (c.run_blocks-2.ensures i h ∙ by_length lane i v1 (λ m. by_index m (block_round range 2 m (column lane i v1)))) (length-map v1 _ ∙ l1) in
    more_is range 2 8 START_8 (column lane i c.args.input.now) (column lane i u) (column lane i v0) (column lane i v2)
    (column lane i c.permute_out.new.output) refl start_8
    (c.permute_in.ensures i h ∙ ap (λ m. by_index m (adst_in m (column lane i c.args.input.now))) c.requires.work_len)
    (c.turn_pairs.ensures i h ∙ by_length lane i u (λ m. by_index m (turned_by START_8 (column lane i u)))) r2 (c.permute_out.ensures i h)
