use Rattle.std.proofs.Common.{arith, true, false, ℕ, ℤ, List, ◌≡◌, ◌==◌, ◌∙◌, cond, ap, sym, subst, pos, length, to_z, of_z, w32}
use Rattle.std.proofs.lemmas.Int.{ints}
use Rattle.std.specs.List.{All}
use Rattle.std.proofs.lemmas.List.{length-map, take_all}
use Rattle.av1_dct.specs.Arithmetic.{FitsBits}
use Rattle.av1_dct.specs.Word.{column, lane_of_vector}
use Rattle.av1_dct.proofs.Fits.{zero_fits}
use Rattle.av1_lists.specs.Lists.{by_index}
use Rattle.av1_lists.proofs.Lists.{by_index-all}
use Rattle.av1_itx.proofs.columns.run_single_groups.Goals as goal

pub cosine_lanes-requires-clause-fit : goal.cosine_lanes-requires-clause-fit
cosine_lanes-requires-clause-fit c = λ i h.
    let P : List ℤ → Type 0 = λ zs. All (FitsBits c.args.range) zs in
    let f = λ (r : ℕ). cond (r == 0) c.args.top (pos 0) in
    let line = c.fill_single.new.line in
    let len = c.fill_single.auto.line ∙ c.requires.line_len in
    let whole : to_z w32 (of_z w32 c.args.top) ≡ c.args.top = omega (arith, ints) in
    let is = take_all 4 (column lane_of_vector i line) (omega (arith, length-map line (λ x. lane_of_vector x i), len)) ∙ c.fill_single.ensures i h
    ∙ ap (λ v. by_index (length c.args.line.now) (λ r. cond (r == 0) v (pos 0))) whole
    ∙ ap (λ n. by_index n f) c.requires.line_len in
    subst P (sym is)
    (by_index-all (FitsBits c.args.range) 4 f
    (λ r l. elim (r == 0) as (λ b. FitsBits c.args.range (cond b c.args.top (pos 0))) [ true ↦ c.requires.fits | false ↦ zero_fits c.args.range ]))

pub loop-g-preserved : goal.loop-g-preserved
loop-g-preserved c = omega (arith, c.cosine_lanes.ensures.counts, c.loop-g.invariant)
