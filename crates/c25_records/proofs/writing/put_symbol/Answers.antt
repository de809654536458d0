use Rattle.std.proofs.Common.{ℕ, List, ◌++◌, Result, Ok, Err, OnOk, ap, ◌∙◌, arith}
use Rattle.c25_meaning_objects.specs.Records.{symbol_payload}
use Rattle.c25_module.specs.View.{symbol_data}
use Rattle.c25_records.proofs.Lengths.{length-symbol, entry-written}
use Rattle.c25_records.proofs.writing.put_symbol.Goals as goal

-- what follows of what holds where a call went well
then : {A E P Q : Type 0} (r : Result A E) → (P → Q) → OnOk r P → OnOk r Q
then (Ok x) f p = f p
then (Err e) f p = p

pub returns : goal.returns
returns c =
    let payload : List ℕ = symbol_payload (symbol_data c.args.symbol.now) in
    let written = entry-written c.args.out.now.items 3 _ payload (omega (arith, length-symbol (symbol_data c.args.symbol.now))) in
    then c.put_symbol_payload.result (λ was. was ∙ ap (λ (t : List ℕ). t ++ payload) c.in_ok-put_head.ensures ∙ written) c.put_symbol_payload.ensures
