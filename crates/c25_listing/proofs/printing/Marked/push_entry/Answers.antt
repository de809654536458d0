use Rattle.std.proofs.Common.{◌≡◌, ◌-◌, ◌++◌, Result, Ok, Err, OnOk, refl, ap, ◌∙◌, arith}
use Rattle.std.specs.String.{string_bytes}
use Rattle.c25_meaning_assembly.specs.Listing.{number_column, word_line}
use Rattle.c25_module.specs.View.{contents}
use Rattle.c25_listing.specs.View.{entry_of}
use Rattle.c25_listing.proofs.Columns.{entry_words}
use Rattle.c25_listing.proofs.printing.Marked.push_entry.Goals as goal

-- what follows from a fact that holds where a call succeeded
then : {A E P Q : Type 0} (r : Result A E) → (P → Q) → OnOk r P → OnOk r Q
then (Ok x) f p = f p
then (Err e) f p = p

pub returns : goal.returns
returns c =
    let m = contents c.args.self.now.parts.now in
    let e = entry_of c.args.entry.now in
    let h = c.in_ok-push_word_line.ensures in
    let out = string_bytes c.args.out.now in
    let number : string_bytes c.push_number.new.out ≡ number_column e.line = c.in_ok-push_number.ensures ∙ ap (λ l. l ++ number_column e.line) c.requires in
    let first = h.0 ∙ ap (λ l. out ++ word_line m e.section e.offset l c.as_str-text.result.now) number ∙ ap (λ t. out ++ word_line m e.section e.offset (number_column e.line) t) c.as_str-text.ensures.value in
    then c.push_further.result
    (λ further. (entry_words m e (c.args.entry.now.count - 1) out (string_bytes c.push_word_line.new.out) (string_bytes c.push_further.new.out) refl (omega arith) first further.0, further.1))
    c.push_further.ensures
