use Rattle.std.proofs.Common.{◌≡◌, ◌∙◌, refl, rules, subst, sym}
use Rattle.av1_calls.specs.Arguments.{argument_status}
use Rattle.av1_calls.specs.CflPads.{IsLumaFault}
use Rattle.av1_calls.specs.declared.argument.BadArgument.{BadArgument}
use Rattle.av1_calls.specs.declared.argument.BadArgument.TheVariants as bad
use Rattle.av1_calls.proofs.Blocks.{one_argument}
use Rattle.av1_calls.proofs.CflPads.{not_refused}
use Rattle.av1_calls.proofs.cfl_block.tilg_cfl_block_of.Goals as goal

pub returns-in-Err : goal.returns-in-Err
returns-in-Err c =
    let fault = c.in-Err.ensures.fault in
    let is = λ (other : BadArgument) (e : c.status.result ≡ argument_status other). one_argument c.in-Err.fault other (sym c.status.ensures ∙ e) in
    let Told = IsLumaFault c.args.luma.now in
    record {
      done = search rules;
      asked = λ luma transform chroma sampled sizes seen.
          absurd (not_refused c.args.luma.now luma transform chroma c.in-Err.fault sampled sizes seen fault);
      sampling = λ e. subst Told (is bad.Sampling e) fault;
      size = λ e. subst Told (is bad.Size e) fault;
      pad = λ e. subst Told (is bad.Pad e) fault;
      kept = λ _. refl;
      known = search rules;
    }
