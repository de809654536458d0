use Rattle.std.proofs.Common.{◌≡◌, List, [], ap, sym, ◌∙◌, Err, is_some, false}
use Rattle.std.proofs.lemmas.List.{take_all}
use Rattle.c25_meaning_linking.specs.Linking.{first_again, refused_with}
use Rattle.c25_meaning_linking.specs.Words.{definition_of}
use Rattle.c25_meaning_linking.specs.declared.link_fault.LinkFault.TheVariants.{DefinedTwice}
use Rattle.c25_link.specs.View.{definitions_view, names_of}
use Rattle.c25_link.specs.declared.definitions.Definition.{Definition}
use Rattle.c25_place.specs.View.{named}
use Rattle.c25_link.proofs.Named.{twice, once, found_next}
use Rattle.c25_link.proofs.definitions.by_name.Goals as goal

pub returns-then-is_some-clause-checked : goal.returns-then-is_some-clause-checked
returns-then-is_some-clause-checked c =
    let is = c.loop-definition.invariant in
    ap (refused_with DefinedTwice)
    (twice c.args.list.now (named c.loop-definition.found) c.loop-definition.definition-index c.definition-item.result c.as_str-name.result.now c.loop-definition-test.true c.definition-item.is c.as_str-name.ensures.value is.0 is.1
    (ap is_some (sym c.in_ok-insert.ensures.old) ∙ sym c.if-is_some.ensures))
    ∙ ap Err (sym c.in_ok-refusal.ensures)

pub loop-definition-preserved : goal.loop-definition-preserved
loop-definition-preserved c =
    let is = c.loop-definition.invariant in
    let fresh : is_some (named c.loop-definition.found c.as_str-name.result.now) ≡ false = ap is_some (sym c.in_ok-insert.ensures.old) ∙ sym c.if-is_some.ensures in (
      once c.args.list.now (named c.loop-definition.found) c.loop-definition.definition-index c.definition-item.result c.as_str-name.result.now c.loop-definition-test.true c.definition-item.is c.as_str-name.ensures.value is.0 is.1 fresh,
      λ name. found_next c.args.list.now (named c.loop-definition.found) c.loop-definition.definition-index c.definition-item.result c.as_str-name.result.now name _ c.loop-definition-test.true c.definition-item.is c.as_str-name.ensures.value is.1 fresh
          (c.in_ok-insert.ensures.updates.0 (record { ref_ptr = (0, 0); now = name })),
    )

pub returns-clause-checked : goal.returns-clause-checked
returns-clause-checked c =
    let whole = take_all c.loop-definition.definition-index c.args.list.now c.loop-definition-test.false in
    ap (refused_with DefinedTwice) (sym (ap (λ (ds : List Definition). first_again [] (names_of (definitions_view ds))) whole) ∙ c.loop-definition.invariant.0)

pub returns-clause-found : goal.returns-clause-found
returns-clause-found c = λ name.
    c.loop-definition.invariant.1 name
    ∙ ap (λ (ds : List Definition). definition_of name (definitions_view ds)) (take_all c.loop-definition.definition-index c.args.list.now c.loop-definition-test.false)
