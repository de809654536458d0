use Rattle.c25_pages.proofs.Savings.{low_test, page_test}
use Rattle.c25_pages.proofs.written.may_be.Goals as goal

pub returns-in-None : goal.returns-in-None
returns-in-None c = λ dp on e. low_test dp c.args.low c.args.after c.args.word e

pub returns-in-Some : goal.returns-in-Some
returns-in-Some c = λ dp on e. page_test c.in-Some.page dp c.args.low c.args.after c.args.word (on c.in-Some.page c.in-Some.is) e
