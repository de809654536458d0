use Rattle.c25_tasks.proofs.Answering.{does_link}
use Rattle.c25_tasks.proofs.linking.link.Goals as goal

pub returns : goal.returns
returns g c =
    does_link _ c.args.task.now c.notes_under-notes.result _ _ _ c.linked-answer.result _ _ _ c.without_definitions-sources.ensures c.deref-2.ensures.value c.notes_under-notes.ensures c.deref.ensures.value c.linked-answer.ensures c.write_linked.ensures
