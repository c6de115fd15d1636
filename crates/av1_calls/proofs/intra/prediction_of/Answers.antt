use mir.Val.{SFits}
use Rattle.std.proofs.lemmas.Int.{to_z-of_z}
use Rattle.std.proofs.Common.{rules, w8, ◌≡◌, ◌≤◌, true, false, arith, tests, sym, subst, ◌∙◌, ap}
use Rattle.av1_intra.specs.declared.directional.DirectionalBlock.{DirectionalBlock}
use Rattle.av1_intra.proofs.ByMode.{side_small, tx_height_side, tx_width_side}
use Rattle.av1_blocks.specs.Transforms.{tx_height, tx_width}
use Rattle.av1_frame.specs.Areas.{AreRows}
use Rattle.av1_frame.specs.declared.plane_region.StoredArea.{StoredArea}
use Rattle.av1_calls.specs.Arguments.{rectangle}
use Rattle.av1_calls.specs.IntraBlocks.{IsIntraBlock, IsTurn, block_of, mode_in, variant_in}
use Rattle.av1_calls.proofs.Blocks.{denied}
use Rattle.av1_calls.proofs.IntraCalls.{long_for, outside_of}
use Rattle.av1_calls.proofs.intra.prediction_of.Goals as goal

pub are_long-requires : goal.are_long-requires
are_long-requires c =
    let size = c.in-Some.size in
    let is = c.prediction_in-prediction.ensures.block in
    record {
      width = subst (λ (k : DirectionalBlock). k.width ≤ 64) (sym is) (side_small (tx_width size) (tx_width_side size));
      height = subst (λ (k : DirectionalBlock). k.height ≤ 64) (sym is) (side_small (tx_height size) (tx_height_side size));
    }

pub returns-then-not-is_turn-clause-fault : goal.returns-then-not-is_turn-clause-fault
returns-then-not-is_turn-clause-fault c =
    let fits : SFits w8 c.args.block.angle_step = search rules in
    let untrue : c.is_turn.result ≡ false = grind (arith, tests, c.if-not-is_turn.true) in (
      c.in-Some.size,
      (
        sym c.from_number.ensures ∙ c.in-Some.is,
        λ turn. denied c.is_turn.result c.is_turn.ensures.is_true untrue
            (subst (IsTurn c.args.mode) (sym (to_z-of_z w8 c.args.block.angle_step fits)) turn),
      ),
    )

pub returns-then-not-is_depth_within-clause-fault : goal.returns-then-not-is_depth_within-clause-fault
returns-then-not-is_depth_within-clause-fault c =
    let fits : SFits w8 c.args.block.angle_step = search rules in
    let turn : c.is_turn.result ≡ true = grind (arith, tests, c.if-not-is_turn.false) in
    let untrue : c.is_depth_within.result ≡ false = grind (arith, tests, c.if-not-is_depth_within.true) in (
      c.in-Some.size,
      (
        sym c.from_number.ensures ∙ c.in-Some.is,
        (
          subst (IsTurn c.args.mode) (to_z-of_z w8 c.args.block.angle_step fits) (c.is_turn.ensures.true_is turn),
          denied c.is_depth_within.result c.is_depth_within.ensures.is_true untrue,
        ),
      ),
    )

pub returns-then-not-are_rows-clause-fault : goal.returns-then-not-are_rows-clause-fault
returns-then-not-are_rows-clause-fault c =
    let a = c.args in
    let size = c.in-Some.size in
    let fits : SFits w8 a.block.angle_step = search rules in
    let turn : c.is_turn.result ≡ true = grind (arith, tests, c.if-not-is_turn.false) in
    let depth : c.is_depth_within.result ≡ true = grind (arith, tests, c.if-not-is_depth_within.false) in
    let untrue : c.are_rows.result ≡ false = grind (arith, tests, c.if-not-are_rows.true) in (
      size,
      (
        sym c.from_number.ensures ∙ c.in-Some.is,
        (
          subst (IsTurn a.mode) (to_z-of_z w8 a.block.angle_step fits) (c.is_turn.ensures.true_is turn),
          (
            c.is_depth_within.ensures.true_is depth,
            outside_of a.at.stride a.at.x a.at.y a.counts.samples size c.prediction_in-prediction.result.area c.prediction_in-prediction.ensures.area
                (denied c.are_rows.result c.are_rows.ensures.is_true untrue),
          ),
        ),
      ),
    )

pub returns-then-not-are_long-clause-fault : goal.returns-then-not-are_long-clause-fault
returns-then-not-are_long-clause-fault c =
    let a = c.args in
    let has = a.counts in
    let e = c.prediction_in-prediction.ensures in
    let p = c.prediction_in-prediction.result in
    let size = c.in-Some.size in
    let m = mode_in a.block a.mode in
    let fits : SFits w8 a.block.angle_step = search rules in
    let turn : c.is_turn.result ≡ true = grind (arith, tests, c.if-not-is_turn.false) in
    let depth : c.is_depth_within.result ≡ true = grind (arith, tests, c.if-not-is_depth_within.false) in
    let rows : c.are_rows.result ≡ true = grind (arith, tests, c.if-not-are_rows.false) in
    let untrue : c.are_long.result ≡ false = grind (arith, tests, c.if-not-are_long.true) in (
      size,
      (
        sym c.from_number.ensures ∙ c.in-Some.is,
        (
          subst (IsTurn a.mode) (to_z-of_z w8 a.block.angle_step fits) (c.is_turn.ensures.true_is turn),
          (
            c.is_depth_within.ensures.true_is depth,
            (
              subst (λ (r : StoredArea). AreRows a.at.stride r has.samples) e.area (c.are_rows.ensures.true_is rows),
              λ sides.
                  denied c.are_long.result c.are_long.ensures.is_true untrue
                  (long_for p.block (block_of a.block m size) p.variant (variant_in a.block) p.mode m has.left has.above has.ac e.block e.variant e.mode sides),
            ),
          ),
        ),
      ),
    )

pub returns-clause-found : goal.returns-clause-found
returns-clause-found c =
    let a = c.args in
    let has = a.counts in
    let e = c.prediction_in-prediction.ensures in
    let p = c.prediction_in-prediction.result in
    let size = c.in-Some.size in
    let m = mode_in a.block a.mode in
    let fits : SFits w8 a.block.angle_step = search rules in
    let turn : c.is_turn.result ≡ true = grind (arith, tests, c.if-not-is_turn.false) in
    let depth : c.is_depth_within.result ≡ true = grind (arith, tests, c.if-not-is_depth_within.false) in
    let rows : c.are_rows.result ≡ true = grind (arith, tests, c.if-not-are_rows.false) in
    let long : c.are_long.result ≡ true = grind (arith, tests, c.if-not-are_long.false) in
    let asked =
    subst (IsIntraBlock a.bits a.block a.mode a.at.stride a.at.x a.at.y has.left has.above has.ac has.samples) (sym e.size) (record {
      sized = sym c.from_number.ensures ∙ c.in-Some.is;
      turn = subst (IsTurn a.mode) (to_z-of_z w8 a.block.angle_step fits) (c.is_turn.ensures.true_is turn);
      depth = c.is_depth_within.ensures.true_is depth;
      rows = subst (λ (r : StoredArea). AreRows a.at.stride r has.samples) e.area (c.are_rows.ensures.true_is rows);
      sides = long_for (block_of a.block m size) p.block (variant_in a.block) p.variant m p.mode has.left has.above has.ac (sym e.block) (sym e.variant)
          (sym e.mode)
          (c.are_long.ensures.true_is long);
    }) in
    record {
      asked = asked;
      mode_is = e.mode;
      variant_is = e.variant;
      block_is = e.block ∙ ap (block_of a.block m) (sym e.size);
      area_is = e.area ∙ ap (rectangle a.at.x a.at.y) (sym e.size);
    }
