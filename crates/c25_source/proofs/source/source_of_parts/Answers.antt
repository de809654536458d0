use Rattle.std.proofs.Common.{◌≤◌, List, length, subst}
use Rattle.c25_layout.specs.declared.layout.Part.{Part}
use Rattle.c25_source.specs.Answer.{IsOneTooMany}
use Rattle.c25_source.proofs.source.source_of_parts.Goals as goal

pub returns-in-Some : goal.returns-in-Some
returns-in-Some c =
    record {
      parts = c.args.parts.items;
      are = c.requires.are;
      many = subst (λ (ps : List Part). IsOneTooMany ps c.in-Some.address) c.deref.ensures.value c.in-Some.ensures.many;
    }

pub few_source-requires-clause-few : goal.few_source-requires-clause-few
few_source-requires-clause-few c = subst (λ (ps : List Part). length ps ≤ 254) c.deref.ensures.value c.in-None.ensures.few
