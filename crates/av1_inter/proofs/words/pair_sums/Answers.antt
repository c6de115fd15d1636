use Rattle.std.proofs.Common.{rules, ◌≡◌, length}
use Rattle.av1_inter.proofs.PairSums.{pairs_are, weight_word_fits, word_fits}
use Rattle.av1_inter.proofs.words.pair_sums.Goals as goal

pub overflow_cast-low : goal.overflow_cast-low
overflow_cast-low c =
    let s = word_fits c.args.first c.args.second in
    let w = weight_word_fits c.args.weight c.requires.weight in
    let o = weight_word_fits c.args.other c.requires.other in
    (s 0, (s 8, (s 1, (s 9, (s 2, (s 10, (s 3, (s 11, (w, (o, (w, (o, (w, (o, (w, (o, tt))))))))))))))))

pub overflow_cast-high : goal.overflow_cast-high
overflow_cast-high c =
    let s = word_fits c.args.first c.args.second in
    let w = weight_word_fits c.args.weight c.requires.weight in
    let o = weight_word_fits c.args.other c.requires.other in
    (s 4, (s 12, (s 5, (s 13, (s 6, (s 14, (s 7, (s 15, (w, (o, (w, (o, (w, (o, (w, (o, tt))))))))))))))))

pub returns : goal.returns
returns c =
    let n : length c.args.first ≡ 8 = search rules in
    pairs_are 8 (λ i. i) c.args.weight c.args.other c.args.first c.args.second n (λ i h. h) c.requires.weight c.requires.other c.requires.first
    c.requires.second
