use Rattle.c25_suppositions.proofs.Kept.{keeps_before, keeps_checked, left_is_code}
use Rattle.c25_suppositions.proofs.laws.checked_runs_keep_to_their_pages.Goals as goal

pub returns-clause-pages : goal.returns-clause-pages
returns-clause-pages c = λ ss kn signals n s inductive from image o j t failed fails checked.
    keeps_checked ss kn signals s (c.image_runs_as_statements.ensures.runs ss s image)
    (record {
      pages = λ address page surely m u lines reached supposed lets at. c.words_keep_to_their_pages.ensures.pages ss kn signals 0 s address page inductive surely m u lines from image reached supposed lets at;
      operands = λ address word i surely direct m u lines reached supposed lets at. c.direct_operands_reach_their_words.ensures.words ss kn signals 0 s address word i inductive surely direct m u lines from image reached supposed lets at;
    })
    (λ e f m first second. c.words_end_once.ensures signals 0 m s e f first second) n o j t failed fails checked

pub returns-clause-code : goal.returns-clause-code
returns-clause-code c = λ ss kn signals n s inductive closed from image at stop j t failed fails checked.
    left_is_code ss kn signals s (λ m i r u runs supposed. c.words_keep_to_their_pages.ensures.code ss kn signals 0 s inductive closed m i r u from image runs supposed) n at stop j t failed fails checked

pub returns-clause-before : goal.returns-clause-before
returns-clause-before c = λ ss kn signals n s inductive from image breach j t failed fails checked.
    keeps_before ss kn signals s (c.image_runs_as_statements.ensures.runs ss s image)
    (record {
      pages = λ address page surely m v lines reached supposed lets at. c.words_keep_to_their_pages.ensures.pages ss kn signals 0 s address page inductive surely m v lines from image reached supposed lets at;
      operands = λ address word i surely direct m v lines reached supposed lets at. c.direct_operands_reach_their_words.ensures.words ss kn signals 0 s address word i inductive surely direct m v lines from image reached supposed lets at;
    })
    j checked.0.before
