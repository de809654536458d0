use Rattle.std.proofs.Common.{List, [], ◌∷◌, ◌++◌, ℕ, not, sym, ap, subst, ◌∙◌, arith}
use Rattle.std.specs.Prelude.{string_bytes}
use Rattle.c25_module.specs.View.{files_data}
use Rattle.c25_records.specs.Names.{HasFiles}
use Rattle.c25_records.proofs.Names.{HasFiles-push, file_given, not_text}
use Rattle.c25_records.proofs.named_payloads.file_after.Goals as goal

pub returns-in-Err-clause-given : goal.returns-in-Err-clause-given
returns-in-Err-clause-given c = rw (not_text c.args.bytes.now c.in-Err.ensures.cases.0)

pub returns-clause-given : goal.returns-clause-given
returns-clause-given c =
    file_given (files_data c.args.before.now) c.args.bytes.now c.in-Ok.name.now (string_bytes c.in_ok-from_str.field-0) c.in-Ok.ensures.cases.0 c.in_ok-from_str.ensures.ok c.in-Ok.ensures.cases.1 (omega (arith, c.if-bytes.false))
    (ap not (sym (c.requires c.in-Ok.name)) ∙ sym c.in_ok-insert.ensures.added ∙ c.if-not-branch.false)

pub returns-clause-named : goal.returns-clause-named
returns-clause-named c =
    subst (λ (f : List ℕ). HasFiles (λ k. k.now) c.insert.new.self (files_data c.args.before.now ++ f ∷ [])) (sym c.in_ok-from_str.ensures.ok)
    (HasFiles-push (λ k. k.now) c.args.names.now c.insert.new.self (files_data c.args.before.now) c.in-Ok.name c.requires c.in_ok-insert.ensures.updates)
