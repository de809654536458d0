use Rattle.std.proofs.Common.{ℕ, List, String, ap, ◌∙◌, subst, set, IsSome}
use Rattle.std.specs.declared.alloc.Global.{Global}
use Rattle.std.specs.Map.{lookup}
use Rattle.std.specs.Str.{bytes_eq}
use Rattle.std.specs.String.{string_bytes}
use Rattle.c25_meaning_language.specs.Texts.{with_name}
use Rattle.c25_substitution.specs.Pairs.{IsFirstOf, pairs}
use Rattle.c25_substitution.proofs.Pairs.{text_set, is_known}
use Rattle.c25_substitution.proofs.parameters.Arguments.set.Goals as goal

pub returns-in-Some-clause-ok : goal.returns-in-Some-clause-ok
returns-in-Some-clause-ok c =
    let es = c.self.inside.entries.items in
    let name = c.args.name.now in
    let place : ℕ = c.in-Some.place in
    let first : IsFirstOf name es place = subst (λ (xs : List (String Global × String Global)). IsFirstOf name xs place) c.as_slice.ensures.value c.in-Some.ensures in
    ap (λ (e : String Global × String Global). pairs (set es place (e.0, c.args.text))) c.index_mut.ensures.value
    ∙ text_set name es place c.index_mut.result.now c.args.text first.within first.none_before (first.named c.index_mut.result.now)
    ∙ ap (λ xs. with_name xs name (string_bytes c.args.text)) c.self.view_is

pub returns-in-Some-clause-known : goal.returns-in-Some-clause-known
returns-in-Some-clause-known c =
    let es = c.self.inside.entries.items in
    let name = c.args.name.now in
    let place : ℕ = c.in-Some.place in
    let first : IsFirstOf name es place = subst (λ (xs : List (String Global × String Global)). IsFirstOf name xs place) c.as_slice.ensures.value c.in-Some.ensures in
    subst (λ xs. IsSome (lookup (bytes_eq name) xs)) c.self.view_is (is_known name es place c.index_mut.result.now first.within (first.named c.index_mut.result.now))
