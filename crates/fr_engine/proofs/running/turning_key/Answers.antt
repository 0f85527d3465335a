use Rattle.std.proofs.Common.{◌∙◌, sym, ap}
use Rattle.fr_way.specs.Frame.{is_watch}
use Rattle.fr_engine.proofs.Dealing.{watch_stored}
use Rattle.fr_engine.proofs.running.turning_key.Goals as goal

pub keeps_key-requires-clause-result : goal.keeps_key-requires-clause-result
keeps_key-requires-clause-result g c =
    let s = c.requires.key.0 in (
      s,
      c.requires.key.1.result (ap is_watch (c.node.ensures s).kind
          ∙ watch_stored s c.args.id.0 c.node.result.now.kind (sym c.is_watch.ensures ∙ c.if-not-is_watch.false)),
    )
