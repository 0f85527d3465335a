use Rattle.std.proofs.Common.{◌≡◌, ◌+◌, true, false}
use Rattle.fr_eras.specs.Lives.{eras_in}
use Rattle.fr_eras.specs.Heights.{IsAbove, IsKept, IsResult}
use Rattle.fr_eras.specs.Rising.{nothing}
use Rattle.fr_eras.proofs.Only.{only_live}
use Rattle.fr_eras.proofs.Rising.{advance_then, goes_on_then, keeps_then, wants_then}
use Rattle.fr_eras.proofs.raise.raise_above.Goals as goal

never : {A : Type 0} → false ≡ true → A
never e = cc

pub returns-in_err-raise_readers-clause-in_room : goal.returns-in_err-raise_readers-clause-in_room
returns-in_err-raise_readers-clause-in_room g c = λ base only r has. never (c.in_err-raise_readers.ensures.in_room base only r has)

pub raise_members-requires-clause-live : goal.raise_members-requires-clause-live
raise_members-requires-clause-live g c = λ member h. only_live c.args.store.now c.raise_readers.new.store member c.raise_readers.ensures.keeps.only (c.requires.live (c.args.lower.0 + 1) member h)

pub raise_members-requires-clause-goes_on : goal.raise_members-requires-clause-goes_on
raise_members-requires-clause-goes_on g c =
    goes_on_then (eras_in c.args.links.now.lists) c.args.lower.0 (λ base. IsAbove base (eras_in c.args.links.now.lists) c.args.lower.0) (λ base. IsKept base (eras_in c.args.links.now.lists) c.args.lower.0) c.args.store.now c.raise_readers.new.store (g.A.Agenda.queued c.args.agenda.now) (g.A.Agenda.queued c.raise_readers.new.agenda) c.args.work.now.nodes c.raise_readers.new.work.nodes c.requires.goes_on c.raise_readers.ensures.keeps.only
    c.in_ok-raise_readers.ensures.advances

pub returns-in_err-raise_members-clause-keeps : goal.returns-in_err-raise_members-clause-keeps
returns-in_err-raise_members-clause-keeps g c = keeps_then c.args.store.now c.raise_readers.new.store c.raise_members.new.store (g.A.Agenda.room c.args.agenda.now) (g.A.Agenda.room c.raise_readers.new.agenda) (g.A.Agenda.room c.raise_members.new.agenda) c.args.work.now c.raise_readers.new.work c.raise_members.new.work c.raise_readers.ensures.keeps c.raise_members.ensures.keeps

pub returns-in_err-raise_members-clause-in_room : goal.returns-in_err-raise_members-clause-in_room
returns-in_err-raise_members-clause-in_room g c =
    wants_then (eras_in c.args.links.now.lists) c.args.lower.0 (λ base. IsAbove base (eras_in c.args.links.now.lists) c.args.lower.0) (λ base. IsKept base (eras_in c.args.links.now.lists) c.args.lower.0) c.args.store.now c.raise_readers.new.store (g.A.Agenda.queued c.args.agenda.now) (g.A.Agenda.queued c.raise_readers.new.agenda) (g.A.Agenda.room c.args.agenda.now) (g.A.Agenda.room c.raise_readers.new.agenda) c.args.work.now c.raise_readers.new.work _ c.raise_readers.ensures.keeps
    c.in_ok-raise_readers.ensures.advances (λ base only r has. never (c.in_err-raise_members.ensures.in_room base only r has))

pub raise_result-requires-clause-goes_on : goal.raise_result-requires-clause-goes_on
raise_result-requires-clause-goes_on g c =
    goes_on_then (eras_in c.args.links.now.lists) c.args.lower.0 (λ base. IsAbove base (eras_in c.args.links.now.lists) c.args.lower.0) (λ base. IsResult base (eras_in c.args.links.now.lists) c.args.lower.0) c.args.store.now c.raise_members.new.store (g.A.Agenda.queued c.args.agenda.now) (g.A.Agenda.queued c.raise_members.new.agenda) c.args.work.now.nodes c.raise_members.new.work.nodes c.requires.goes_on (keeps_then c.args.store.now c.raise_readers.new.store c.raise_members.new.store (g.A.Agenda.room c.args.agenda.now) (g.A.Agenda.room c.raise_readers.new.agenda) (g.A.Agenda.room c.raise_members.new.agenda) c.args.work.now c.raise_readers.new.work c.raise_members.new.work c.raise_readers.ensures.keeps c.raise_members.ensures.keeps).only
    (advance_then (eras_in c.args.links.now.lists) c.args.lower.0 (λ base. IsAbove base (eras_in c.args.links.now.lists) c.args.lower.0) (λ base. IsKept base (eras_in c.args.links.now.lists) c.args.lower.0) (λ base. IsResult base (eras_in c.args.links.now.lists) c.args.lower.0) c.args.store.now c.raise_readers.new.store c.raise_members.new.store (g.A.Agenda.queued c.args.agenda.now) (g.A.Agenda.queued c.raise_readers.new.agenda) (g.A.Agenda.queued c.raise_members.new.agenda) c.args.work.now.nodes c.raise_readers.new.work.nodes c.raise_members.new.work.nodes
    c.raise_readers.ensures.keeps.only c.raise_members.ensures.keeps.only c.in_ok-raise_readers.ensures.advances c.in_ok-raise_members.ensures.advances)

pub returns-in_err-raise_result-clause-in_room : goal.returns-in_err-raise_result-clause-in_room
returns-in_err-raise_result-clause-in_room g c =
    wants_then (eras_in c.args.links.now.lists) c.args.lower.0 (λ base. IsAbove base (eras_in c.args.links.now.lists) c.args.lower.0) (λ base. IsResult base (eras_in c.args.links.now.lists) c.args.lower.0) c.args.store.now c.raise_members.new.store (g.A.Agenda.queued c.args.agenda.now) (g.A.Agenda.queued c.raise_members.new.agenda) (g.A.Agenda.room c.args.agenda.now) (g.A.Agenda.room c.raise_members.new.agenda) c.args.work.now c.raise_members.new.work _ (keeps_then c.args.store.now c.raise_readers.new.store c.raise_members.new.store (g.A.Agenda.room c.args.agenda.now) (g.A.Agenda.room c.raise_readers.new.agenda) (g.A.Agenda.room c.raise_members.new.agenda) c.args.work.now c.raise_readers.new.work c.raise_members.new.work c.raise_readers.ensures.keeps c.raise_members.ensures.keeps)
    (advance_then (eras_in c.args.links.now.lists) c.args.lower.0 (λ base. IsAbove base (eras_in c.args.links.now.lists) c.args.lower.0) (λ base. IsKept base (eras_in c.args.links.now.lists) c.args.lower.0) (λ base. IsResult base (eras_in c.args.links.now.lists) c.args.lower.0) c.args.store.now c.raise_readers.new.store c.raise_members.new.store (g.A.Agenda.queued c.args.agenda.now) (g.A.Agenda.queued c.raise_readers.new.agenda) (g.A.Agenda.queued c.raise_members.new.agenda) c.args.work.now.nodes c.raise_readers.new.work.nodes c.raise_members.new.work.nodes
    c.raise_readers.ensures.keeps.only c.raise_members.ensures.keeps.only c.in_ok-raise_readers.ensures.advances c.in_ok-raise_members.ensures.advances) (λ base only r has. never (c.in_err-raise_result.ensures.in_room base only r has))

pub returns-clause-advances : goal.returns-clause-advances
returns-clause-advances g c =
    advance_then (eras_in c.args.links.now.lists) c.args.lower.0 (λ base. IsAbove base (eras_in c.args.links.now.lists) c.args.lower.0) (λ base. IsResult base (eras_in c.args.links.now.lists) c.args.lower.0) nothing c.args.store.now c.raise_members.new.store c.raise_result.new.store (g.A.Agenda.queued c.args.agenda.now) (g.A.Agenda.queued c.raise_members.new.agenda) (g.A.Agenda.queued c.raise_result.new.agenda) c.args.work.now.nodes c.raise_members.new.work.nodes c.raise_result.new.work.nodes
    (keeps_then c.args.store.now c.raise_readers.new.store c.raise_members.new.store (g.A.Agenda.room c.args.agenda.now) (g.A.Agenda.room c.raise_readers.new.agenda) (g.A.Agenda.room c.raise_members.new.agenda) c.args.work.now c.raise_readers.new.work c.raise_members.new.work c.raise_readers.ensures.keeps c.raise_members.ensures.keeps).only c.raise_result.ensures.keeps.only
    (advance_then (eras_in c.args.links.now.lists) c.args.lower.0 (λ base. IsAbove base (eras_in c.args.links.now.lists) c.args.lower.0) (λ base. IsKept base (eras_in c.args.links.now.lists) c.args.lower.0) (λ base. IsResult base (eras_in c.args.links.now.lists) c.args.lower.0) c.args.store.now c.raise_readers.new.store c.raise_members.new.store (g.A.Agenda.queued c.args.agenda.now) (g.A.Agenda.queued c.raise_readers.new.agenda) (g.A.Agenda.queued c.raise_members.new.agenda) c.args.work.now.nodes c.raise_readers.new.work.nodes c.raise_members.new.work.nodes
    c.raise_readers.ensures.keeps.only c.raise_members.ensures.keeps.only c.in_ok-raise_readers.ensures.advances c.in_ok-raise_members.ensures.advances) c.in_ok-raise_result.ensures.advances
