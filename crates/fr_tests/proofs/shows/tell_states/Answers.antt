use Rattle.std.proofs.Common.{◌≡◌, ◌∙◌, length}
use Rattle.fr_show.proofs.Numbered.{all_are_printed}
use Rattle.fr_tests.proofs.shows.tell_states.Goals as goal

pub text-requires : goal.text-requires
text-requires c =
    let same : length c.args.states.now ≡ length c.args.shows.now = c.if-states-len.false ∙ c.len.ensures in
    record {
      one_each = same;
      all = all_are_printed c.args.time c.args.shows.now c.args.states.now (length c.args.states.now) c.deref.result.now same (c.deref.ensures.value ∙ c.in-Ok.ensures);
    }
