use Rattle.std.proofs.Common.{◌≡◌, ◌+◌, ◌≤◌, ap, sym, subst, ◌∙◌, cond, Some, arith}
use Rattle.std.specs.Prelude.{IfSome}
use Rattle.std.specs.Option.{option_map}
use Rattle.std.specs.Str.{bytes_eq}
use Rattle.c25_meaning_objects.specs.Module.{body_size}
use Rattle.c25_module.specs.View.{section_data}
use Rattle.c25_place.specs.View.{named}
use Rattle.c25_link.specs.Bases.{next_part}
use Rattle.c25_link.specs.declared.bases.PartBase.{PartBase}
use Rattle.c25_link.proofs.Based.{own_part, own_within, own_run_within, never_none, next_own, next_more}
use Rattle.c25_link.proofs.bases.NextParts.take.Goals as goal

pub returns-in_ok-insert-in-Some-clause-next : goal.returns-in_ok-insert-in-Some-clause-next
returns-in_ok-insert-in-Some-clause-next c = λ places ss p knows has name.
    let s = section_data c.args.section.now in
    let part : c.in-Some.part ≡ next_part ss p = own_part places ss s p c.in-Some.part c.as_str-name.result.now _ has c.as_str-name.ensures.value (knows c.as_str-name.result.now) (c.in-Some.ensures ∙ c.get.ensures.value) in
    let after : PartBase = record { page = c.in-Some.part.page; base = c.saturating_add.result; run = c.moved.result } in
    let page : after.page ≡ (next_part ss p).page = ap (λ (b : PartBase). b.page) part in
    let base : after.base ≡ (next_part ss p).base + body_size s.body = omega (arith, ap (λ (b : PartBase). b.base) part, own_within places ss s p has, c.body_size-words.ensures, c.saturating_add.ensures) in
    let words : c.body_size-words.result ≡ body_size s.body = c.body_size-words.ensures in
    let room : IfSome c.in-Some.part.run (λ a. a + c.body_size-words.result ≤ 65536) =
    subst (λ (b : PartBase). IfSome b.run (λ a. a + c.body_size-words.result ≤ 65536)) (sym part) (subst (λ n. IfSome (next_part ss p).run (λ a. a + n ≤ 65536)) (sym words) (own_run_within places ss s p has)) in
    let run : after.run ≡ option_map (λ a. a + body_size s.body) (next_part ss p).run = c.moved.ensures room ∙ (λ i. option_map (λ a. a + words i) (part i).run) in
    c.in_ok-insert-in-Some.ensures.updates.0 (record { ref_ptr = (0, 0); now = name })
    ∙ ap (λ n. cond (bytes_eq n name) (Some after) (named c.args.self.now.found name)) c.as_str-name.ensures.value
    ∙ next_more name places ss s p (named c.args.self.now.found name) after has (knows name) (next_own ss s places p after has page base run)

pub returns-in_ok-insert-in-Some-clause-part : goal.returns-in_ok-insert-in-Some-clause-part
returns-in_ok-insert-in-Some-clause-part c = λ places ss p knows has.
    own_part places ss (section_data c.args.section.now) p c.in-Some.part c.as_str-name.result.now _ has c.as_str-name.ensures.value (knows c.as_str-name.result.now) (c.in-Some.ensures ∙ c.get.ensures.value)

pub returns-in-None-clause-part : goal.returns-in-None-clause-part
returns-in-None-clause-part c = λ places ss p knows has.
    absurd (never_none places ss (section_data c.args.section.now) p c.as_str-name.result.now _ has c.as_str-name.ensures.value (knows c.as_str-name.result.now) (c.in-None.ensures ∙ c.get.ensures.value))
