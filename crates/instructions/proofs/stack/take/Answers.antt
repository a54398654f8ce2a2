use Rattle.instructions.proofs.Waiting.{refused_keeps}
use Rattle.instructions.proofs.stack.take.Goals as goal

pub returns : goal.returns
returns g c =
    record {
      value = c.take.ensures.value;
      after = refused_keeps c.args.kind (g.H.Host.means c.args.host.now) _ _ c.take.ensures.value c.take.ensures.after;
    }
