use Rattle.std.proofs.Common.{ℕ, ◌≡◌, ◌+◌, ◌-◌, ◌*◌, ◌/◌, ◌<◌, ◌∙◌, arith, ap, get_or, pos}
use Rattle.av1_frame.specs.Arithmetic.{clip}
use Rattle.av1_intra.specs.Sides.{entries}
use Rattle.av1_intra.specs.Scaffolding.{IsDoubled}
use Rattle.av1_intra.proofs.upsampling.put_doubled.Goals as goal

pub returns : goal.returns
returns c =
    let e = c.args.e in
    let old = entries c.args.numbers.now in
    let new = entries c.put_sixteen.new.numbers in
    let put = c.put_sixteen.ensures in
    let half = λ (x y z v : ℕ). clip c.args.bit_depth (pos ((9 * y + 9 * z + 8 - (x + v)) / 16)) in
    record {
      before = λ k l. put.others k (λ j _ q. absurd (omega (arith, l, q)));
      after = λ k l. put.others k (λ j m q. absurd (omega (arith, l, m, q)));
      halfway = λ j l.
          ap new (let q : 2 * (e + j) + 1 ≡ 2 * e + 1 + 1 * (2 * j) = omega arith in q) ∙ put.put (2 * j) (omega (arith, l)) ∙ c.in_turn.ensures.first j l
          ∙ c.halfway_eight-halfway.ensures j l
          ∙ ap (λ x. half x (get_or c.eight_at.result j 0) (get_or c.eight_at-next.result j 0) (get_or c.eight_at-2.result j 0)) (c.eight_before.ensures j l)
          ∙ ap (λ y. half (old (e + j - 1)) y (get_or c.eight_at-next.result j 0) (get_or c.eight_at-2.result j 0)) (c.eight_at.ensures j l)
          ∙ ap (λ z. half (old (e + j - 1)) (old (e + j)) z (get_or c.eight_at-2.result j 0))
          (c.eight_at-next.ensures j l ∙ ap old (let q : e + 1 + j ≡ e + j + 1 = omega arith in q))
          ∙ ap (half (old (e + j - 1)) (old (e + j)) (old (e + j + 1))) (c.eight_at-2.ensures j l ∙ ap old (let q : e + 2 + j ≡ e + j + 2 = omega arith in q));
      kept = λ j l.
          ap new (let q : 2 * (e + j) + 2 ≡ 2 * e + 1 + 1 * (2 * j + 1) = omega arith in q) ∙ put.put (2 * j + 1) (omega (arith, l))
          ∙ c.in_turn.ensures.second j l
          ∙ c.eight_at-next.ensures j l ∙ ap old (let q : e + 1 + j ≡ e + j + 1 = omega arith in q);
    }
