use Rattle.std.proofs.Common.{rules}
use Rattle.std.proofs.lemmas.List.Sorted.{answers_always}
use Rattle.fr_core.proofs.Halved.{searched_there, searched_nowhere}
use Rattle.fr_core.proofs.inputs.find.Goals as goal

pub returns-in-Ok : goal.returns-in-Ok
returns-in-Ok c = searched_there c.args.source c.args.entries.now c.requires c.in-Ok.at c.index-entries-at.result c.in-Ok.ensures.bound
    (c.in-Ok.ensures.position (λ e. e.source.0) (answers_always _ _ _ (λ f a r g called. search rules)))

pub returns-in-Err : goal.returns-in-Err
returns-in-Err c = searched_nowhere c.args.source c.args.entries.now c.requires c.in-Err.field-0
    (c.in-Err.ensures.position (λ e. e.source.0) (answers_always _ _ _ (λ f a r g called. search rules)))
