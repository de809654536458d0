use Rattle.c25_moving.proofs.Refusing.{no_code_page, no_order, no_style}
use Rattle.c25_moving.proofs.moving.asked.Goals as goal

pub returns-in-Err-clause-refused : goal.returns-in-Err-clause-refused
returns-in-Err-clause-refused c = λ held. no_style held c.args.task.now c.in-Err.refusal c.ending_of.result c.ending_of.ensures c.in-Err.ensures.refused

pub returns-in-Err-order_asked-clause-refused : goal.returns-in-Err-order_asked-clause-refused
returns-in-Err-order_asked-clause-refused c = λ held.
    no_order held c.args.task.now c.in-Err-order_asked.refusal c.ending_of-in-Err-order_asked.result c.ending_of-in-Err-order_asked.ensures c.in-Err-order_asked.ensures.refused

pub returns-in-Err-code_page_asked-clause-refused : goal.returns-in-Err-code_page_asked-clause-refused
returns-in-Err-code_page_asked-clause-refused c = λ held.
    no_code_page held c.args.task.now c.in-Err-code_page_asked.refusal c.ending_of-in-Err-code_page_asked.result c.ending_of-in-Err-code_page_asked.ensures c.in-Err-code_page_asked.ensures.refused
