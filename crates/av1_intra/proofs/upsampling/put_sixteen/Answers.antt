use Rattle.std.proofs.Common.{ℕ, ◌≡◌, ◌+◌, ◌*◌, ◌∙◌, arith, ap, get_or, set, refl, subst}
use Rattle.av1_intra.specs.Scaffolding.{IsPut}
use Rattle.av1_intra.proofs.FilledStrips.{put_none, put_next}
use Rattle.av1_intra.proofs.upsampling.put_sixteen.Goals as goal

pub loop-k-init : goal.loop-k-init
loop-k-init c = put_none 1 c.args.place c.args.values c.args.numbers.now

pub loop-k-preserved : goal.loop-k-preserved
loop-k-preserved c =
    let k = c.loop-k.k in
    let at_k : c.args.place + 1 * k ≡ c.args.place + k = omega arith in
    subst (λ (q : ℕ). IsPut 1 c.args.place (k + 1) c.args.values c.args.numbers.now (set c.loop-k.numbers q (get_or c.args.values k 0))) at_k
    (put_next 1 c.args.place k c.args.values c.args.numbers.now c.loop-k.numbers _ (omega arith) (omega (arith, c.requires, c.loop-k.invariant.long)) refl
    c.loop-k.invariant)

pub returns : goal.returns
returns c =
    let all : c.loop-k.k ≡ 16 = omega arith in
    subst (λ (k : ℕ). IsPut 1 c.args.place k c.args.values c.args.numbers.now c.loop-k.numbers) all c.loop-k.invariant
