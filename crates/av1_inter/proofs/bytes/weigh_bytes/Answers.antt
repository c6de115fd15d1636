use Rattle.std.proofs.Common.{arith, rules, ◌≡◌, ◌∙◌, ◌-◌, ◌<◌, ◌*ℤ◌, ap, w16, FitsSigned}
use Rattle.std.proofs.lemmas.Int.{to_z-of_z}
use Rattle.av1_inter.specs.Motion.{entry, sum_to}
use Rattle.av1_inter.proofs.Halves.{bytes_fit, half_sum_known, short_product, short_product_stored, next_short_fits}
use Rattle.av1_inter.proofs.Sums.{next_is, sum_begins, sum_ends}
use Rattle.av1_inter.proofs.bytes.weigh_bytes.Goals as goal

pub loop-t-init : goal.loop-t-init
loop-t-init g c = sum_begins g.row.ZEROS c.args.halves.now (entry c.args.values) c.requires.few c.requires.zeros

pub overflow_mul-sum : goal.overflow_mul-sum
overflow_mul-sum g c =
    let t = c.loop-t.t in
    let inside : t < 8 = omega (arith, c.loop-t-test.true) in
    let f : FitsSigned w16 (entry c.args.halves.now t) = search rules in
    short_product c.args.halves.now 255 t (entry c.args.values t) (bytes_fit c.args.halves.now c.requires.filter)
    (omega arith) inside f (c.requires.within t inside)

pub overflow_add-sum : goal.overflow_add-sum
overflow_add-sum g c =
    let t = c.loop-t.t in
    let inside : t < 8 = omega (arith, c.loop-t-test.true) in
    let fit = bytes_fit c.args.halves.now c.requires.filter in
    let f : FitsSigned w16 (entry c.args.halves.now t) = search rules in
    next_short_fits c.args.halves.now (entry c.args.values) 255 t _ _ fit inside c.requires.within c.loop-t.invariant
    (short_product_stored c.args.halves.now 255 t (entry c.args.values t) fit (omega arith) inside f (c.requires.within t inside))

pub loop-t-preserved : goal.loop-t-preserved
loop-t-preserved g c =
    let t = c.loop-t.t in
    let inside : t < 8 = omega (arith, c.loop-t-test.true) in
    let fit = bytes_fit c.args.halves.now c.requires.filter in
    let f : FitsSigned w16 (entry c.args.halves.now t) = search rules in
    let p = short_product_stored c.args.halves.now 255 t (entry c.args.values t) fit (omega arith) inside f (c.requires.within t inside) in
    next_is (λ i. entry c.args.halves.now i *ℤ entry c.args.values i) t _ _ _
    (to_z-of_z w16 _ (next_short_fits c.args.halves.now (entry c.args.values) 255 t _ _ fit inside c.requires.within c.loop-t.invariant p))
    c.loop-t.invariant p

pub returns-clause-value : goal.returns-clause-value
returns-clause-value g c =
    let e : c.loop-t.t ≡ 8 - g.row.ZEROS = omega (arith, c.requires.few) in
    sum_ends g.row.ZEROS c.args.halves.now (entry c.args.values) _ c.requires.few c.requires.zeros
    (c.loop-t.invariant ∙ ap (λ n. sum_to n (λ t. entry c.args.halves.now t *ℤ entry c.args.values t)) e)

pub returns-clause-within : goal.returns-clause-within
returns-clause-within g c =
    let e : c.loop-t.t ≡ 8 - g.row.ZEROS = omega (arith, c.requires.few) in
    half_sum_known c.args.halves.now (entry c.args.values) _ c.requires.filter c.requires.within
    (sum_ends g.row.ZEROS c.args.halves.now (entry c.args.values) _ c.requires.few c.requires.zeros
    (c.loop-t.invariant ∙ ap (λ n. sum_to n (λ t. entry c.args.halves.now t *ℤ entry c.args.values t)) e))
