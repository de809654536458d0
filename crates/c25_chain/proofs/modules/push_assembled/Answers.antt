use Rattle.std.proofs.Common.{◌++◌, List, [], ◌∷◌, ℕ, Result, Ok, Err, OnOk, map, ap, ◌∙◌, string_bytes}
use Rattle.std.proofs.lemmas.List.{map_push}
use Rattle.c25_meaning_objects.specs.Module.{Contents}
use Rattle.c25_chain.proofs.modules.push_assembled.Goals as goal

-- what follows from two facts of an answer
both : {T E P Q S : Type 0} (r : Result T E) → (P → Q → S) → OnOk r P → OnOk r Q → OnOk r S
both (Ok x) follows p q = follows p q
both (Err e) follows p q = p

pub returns : goal.returns
returns c =
    let before = c.args.all.now in
    both c.push.result (λ modules listings. λ i. record {
      modules = (modules ∙ ap (λ (m : Contents). before.modules.items ++ m ∷ []) c.in_ok-read.ensures) i;
      listings = (ap (map string_bytes) listings ∙ map_push string_bytes before.listings.items c.in_ok-text.text ∙ ap (λ (t : List ℕ). map string_bytes before.listings.items ++ t ∷ []) c.in_ok-text.ensures) i;
    }) c.push.ensures.modules c.push.ensures.listings
