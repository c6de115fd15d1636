use Rattle.std.proofs.Common.{arith, ◌≡◌, ◌∙◌, ap}
use Rattle.av1_itx.specs.Identity.{exact, scaled_with}
use Rattle.av1_itx.proofs.Small.{even_same}
use Rattle.av1_itx.proofs.identity.exactly_scaled.Goals as goal

pub returns-then-k-eq1 : goal.returns-then-k-eq1
unfolding scaled_with
returns-then-k-eq1 g c = λ i h.
    let e : 1 ≡ c.args.k = omega arith in
    c.by_root.ensures i h ∙ ap (λ n. scaled_with exact n (g.W.Word.lane_of c.args.z i)) e

pub returns-then-k-eq3 : goal.returns-then-k-eq3
unfolding scaled_with
returns-then-k-eq3 g c = λ i h.
    let e : 3 ≡ c.args.k = omega arith in
    c.by_two_roots.ensures i h ∙ ap (λ n. scaled_with exact n (g.W.Word.lane_of c.args.z i)) e

pub returns : goal.returns
returns g c = λ i h. c.scaled_of.ensures i h ∙ even_same c.args.k (g.W.Word.lane_of c.args.z i) (λ e. omega (arith, e)) (λ e. omega (arith, e))
