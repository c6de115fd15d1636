use Rattle.std.proofs.Common.{◌≡◌, ◌≤◌, ◌*◌, ℕ, arith, refl, subst}
use Rattle.std.proofs.Math.Nat.{mul-le-mul_left}
use Rattle.av1_intra.specs.Scaffolding.{IsPut}
use Rattle.av1_intra.proofs.FilledStrips.{put_none, put_next}
use Rattle.av1_intra.proofs.strips.put_column.Goals as goal

pub loop-k-init : goal.loop-k-init
loop-k-init g c = put_none g.row.STEP c.args.place c.args.column c.args.strip.now

pub loop-k-preserved : goal.loop-k-preserved
loop-k-preserved g c =
    let k = c.loop-k.k in
    let few : g.row.STEP * k ≤ g.row.STEP * 7 = mul-le-mul_left g.row.STEP (omega arith) in
    let seven : g.row.STEP * 7 ≡ 7 * g.row.STEP = grind arith in
    put_next g.row.STEP c.args.place k c.args.column c.args.strip.now c.loop-k.strip _ c.requires.some
    (omega (arith, few, seven, c.requires.room, c.loop-k.invariant.long)) refl c.loop-k.invariant

pub returns : goal.returns
returns g c =
    let all : c.loop-k.k ≡ 8 = omega arith in
    subst (λ (k : ℕ). IsPut g.row.STEP c.args.place k c.args.column c.args.strip.now c.loop-k.strip) all c.loop-k.invariant
