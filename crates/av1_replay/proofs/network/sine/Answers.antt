use Rattle.std.proofs.Common.{arith}
use Rattle.av1_replay.proofs.Fitting.{front_fits}
use Rattle.av1_replay.proofs.network.sine.Goals as goal

pub av1_iadst4-requires-clause-fit : goal.av1_iadst4-requires-clause-fit
av1_iadst4-requires-clause-fit c = front_fits c.args.range 20 4 c.args.input.now c.requires.most c.requires.fit

pub av1_iadst8-requires-clause-fit : goal.av1_iadst8-requires-clause-fit
av1_iadst8-requires-clause-fit c = front_fits c.args.range c.args.range 8 c.args.input.now (omega arith) c.requires.fit

pub av1_iadst16-requires-clause-fit : goal.av1_iadst16-requires-clause-fit
av1_iadst16-requires-clause-fit c = front_fits c.args.range c.args.range 16 c.args.input.now (omega arith) c.requires.fit

pub av1_iflipadst4-requires-clause-fit : goal.av1_iflipadst4-requires-clause-fit
av1_iflipadst4-requires-clause-fit c = front_fits c.args.range 20 4 c.args.input.now c.requires.most c.requires.fit

pub av1_iflipadst8-requires-clause-fit : goal.av1_iflipadst8-requires-clause-fit
av1_iflipadst8-requires-clause-fit c = front_fits c.args.range c.args.range 8 c.args.input.now (omega arith) c.requires.fit

pub av1_iflipadst16-requires-clause-fit : goal.av1_iflipadst16-requires-clause-fit
av1_iflipadst16-requires-clause-fit c = front_fits c.args.range c.args.range 16 c.args.input.now (omega arith) c.requires.fit
