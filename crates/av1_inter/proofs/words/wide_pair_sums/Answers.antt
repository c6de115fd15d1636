use Rattle.std.proofs.Common.{rules, ◌≡◌, length}
use Rattle.av1_inter.specs.Scaffolding.{crossed}
use Rattle.av1_inter.proofs.Crossed.{crossed_below}
use Rattle.av1_inter.proofs.PairSums.{pairs_are, weight_word_fits, word_fits}
use Rattle.av1_inter.proofs.words.wide_pair_sums.Goals as goal

pub overflow_cast-near : goal.overflow_cast-near
overflow_cast-near c =
    let s = word_fits c.args.first c.args.second in
    let w = weight_word_fits c.args.weight c.requires.weight in
    let o = weight_word_fits c.args.other c.requires.other in (
      s 0,
      (
        s 16,
        (
          s 1,
          (
            s 17,
            (
              s 2,
              (
                s 18,
                (
                  s 3,
                  (
                    s 19,
                    (
                      s 8,
                      (
                        s 24,
                        (
                          s 9,
                          (
                            s 25,
                            (
                              s 10,
                              (
                                s 26,
                                (
                                  s 11,
                                  (
                                    s 27,
                                    (
                                      w,
                                      (
                                        o,
                                        (
                                          w,
                                          (
                                            o,
                                            (
                                              w,
                                              (
                                                o,
                                                (
                                                  w,
                                                  (
                                                    o,
                                                    (
                                                      w,
                                                      (
                                                        o,
                                                        (w, (o, (w, (o, (w, (o, tt)))))),
                                                      ),
                                                    ),
                                                  ),
                                                ),
                                              ),
                                            ),
                                          ),
                                        ),
                                      ),
                                    ),
                                  ),
                                ),
                              ),
                            ),
                          ),
                        ),
                      ),
                    ),
                  ),
                ),
              ),
            ),
          ),
        ),
      ),
    )

pub overflow_cast-far : goal.overflow_cast-far
overflow_cast-far c =
    let s = word_fits c.args.first c.args.second in
    let w = weight_word_fits c.args.weight c.requires.weight in
    let o = weight_word_fits c.args.other c.requires.other in (
      s 4,
      (
        s 20,
        (
          s 5,
          (
            s 21,
            (
              s 6,
              (
                s 22,
                (
                  s 7,
                  (
                    s 23,
                    (
                      s 12,
                      (
                        s 28,
                        (
                          s 13,
                          (
                            s 29,
                            (
                              s 14,
                              (
                                s 30,
                                (
                                  s 15,
                                  (
                                    s 31,
                                    (
                                      w,
                                      (
                                        o,
                                        (
                                          w,
                                          (
                                            o,
                                            (
                                              w,
                                              (
                                                o,
                                                (
                                                  w,
                                                  (
                                                    o,
                                                    (
                                                      w,
                                                      (
                                                        o,
                                                        (w, (o, (w, (o, (w, (o, tt)))))),
                                                      ),
                                                    ),
                                                  ),
                                                ),
                                              ),
                                            ),
                                          ),
                                        ),
                                      ),
                                    ),
                                  ),
                                ),
                              ),
                            ),
                          ),
                        ),
                      ),
                    ),
                  ),
                ),
              ),
            ),
          ),
        ),
      ),
    )

pub returns : goal.returns
returns c =
    let n : length c.args.first ≡ 16 = search rules in
    pairs_are 16 crossed c.args.weight c.args.other c.args.first c.args.second n crossed_below c.requires.weight c.requires.other c.requires.first
    c.requires.second
