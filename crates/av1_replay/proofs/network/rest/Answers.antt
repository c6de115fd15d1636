use Rattle.std.proofs.Common.{arith}
use Rattle.av1_replay.proofs.Fitting.{front_fits}
use Rattle.av1_replay.proofs.network.rest.Goals as goal

pub av1_iidentity4-requires-clause-fit : goal.av1_iidentity4-requires-clause-fit
av1_iidentity4-requires-clause-fit c = front_fits c.args.range 20 4 c.args.input.now c.requires.most c.requires.fit

pub av1_iidentity8-requires-clause-fit : goal.av1_iidentity8-requires-clause-fit
av1_iidentity8-requires-clause-fit c = front_fits c.args.range 20 8 c.args.input.now c.requires.most c.requires.fit

pub av1_iidentity16-requires-clause-fit : goal.av1_iidentity16-requires-clause-fit
av1_iidentity16-requires-clause-fit c = front_fits c.args.range 20 16 c.args.input.now c.requires.most c.requires.fit

pub av1_iidentity32-requires-clause-fit : goal.av1_iidentity32-requires-clause-fit
av1_iidentity32-requires-clause-fit c = front_fits c.args.range 20 32 c.args.input.now c.requires.most c.requires.fit

pub av1_iwht4-requires-clause-fit : goal.av1_iwht4-requires-clause-fit
av1_iwht4-requires-clause-fit c = front_fits c.args.range 29 4 c.args.input.now (omega (arith, c.requires.most)) c.requires.fit
