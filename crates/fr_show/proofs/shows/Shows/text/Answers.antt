use Rattle.std.proofs.Common.{◌≡◌, ◌∙◌, ap, List, ℕ, Option, map}
use Rattle.fr_meaning.specs.Texts.{Shown}
use Rattle.fr_show.specs.Shows.{plain_text, value_at, kept_at}
use Rattle.fr_show.proofs.Keeping.{kept_is}
use Rattle.fr_show.proofs.shows.Shows.text.Goals as goal

pub returns-clause-after : goal.returns-clause-after
returns-clause-after c =
    let numbers = c.args.numbers.now in
    let before : c.self.inside.shows.items ≡ c.args.self.now = cc in
    c.keep_all.ensures
    ∙ ap (λ (texts : List (Option (List ℕ))). kept_at c.self.inside.shows.items numbers texts) (c.deref_mut.ensures.value ∙ c.in_ok-printed.ensures.texts)
    ∙ ap (λ (shows : List Shown). kept_at shows numbers (map (λ n. plain_text (value_at c.args.values.now n)) numbers)) before
    ∙ kept_is c.args.time c.args.self.now c.args.values.now numbers c.requires.one_each c.requires.all
