use Rattle.std.proofs.Common.{◌≡◌, ◌∙◌, None}
use Rattle.c25_symbols.specs.View.{named, place_of}
use Rattle.c25_symbols.proofs.Next.{first_new}
use Rattle.c25_symbols.proofs.parts.keep_first.Goals as goal

pub returns-in_ok-insert-in-None : goal.returns-in_ok-insert-in-None
returns-in_ok-insert-in-None c = λ name.
    let none : named c.args.found.now c.as_str-name.result.now ≡ None = cc (c.get.ensures.value, c.copied.ensures, c.in-None.is) in
    c.in_ok-insert-in-None.ensures.updates.0 (record { ref_ptr = (0, 0); now = name })
    ∙ first_new name c.as_str-name.result.now (place_of c.args.section.now) (named c.args.found.now) c.first_part.result c.as_str-name.ensures.value none c.first_part.ensures
