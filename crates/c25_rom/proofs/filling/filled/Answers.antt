use Rattle.std.proofs.Common.{◌≡◌, ℕ, List, set, sym, subst, ◌∙◌}
use Rattle.std.specs.Map.Iter.{deref_pair}
use Rattle.std.specs.Prelude.{replicate}
use Rattle.std.specs.FinMap as words
use Rattle.std.proofs.lemmas.Map.Iter.{rest_more, rest_all}
use Rattle.c25_rom.proofs.Filled.{IsFilled, filled_none, filled_more, filled_all}
use Rattle.c25_rom.proofs.filling.filled.Goals as goal

pub loop-address-init : goal.loop-address-init
loop-address-init c =
    let left = c.into_iter-address-iterator.ensures.into_iter_gives ∙ c.iter-address-items.ensures.entries in
    let filled : c.in_ok-rom.rom.items ≡ replicate c.args.size c.args.fill = c.in_ok-rom.ensures.items_if_clones_equal (λ y same. same) in
    subst (λ (es : List (ℕ × ℕ)). IsFilled c.args.words.now c.args.size c.args.fill es c.in_ok-rom.rom.items) (sym left)
    (subst (λ (rom : List ℕ). IsFilled c.args.words.now c.args.size c.args.fill (words.entries c.args.words.now) rom) (sym filled)
    (filled_none c.args.words.now c.args.size c.args.fill c.requires))

pub loop-address-preserved : goal.loop-address-preserved
loop-address-preserved c =
    let took = rest_more deref_pair c.loop-address.address-iterator c.next.new.self c.next.result (c.in-Some.address, c.in-Some.word) c.in-Some.is c.next.ensures.steps in
    subst (λ (a : ℕ). IsFilled c.args.words.now c.args.size c.args.fill c.next.new.self (set c.loop-address.rom.items a c.in-Some.word.now)) (sym c.from.ensures)
    (filled_more c.args.words.now c.args.size c.args.fill (c.in-Some.address.now, c.in-Some.word.now) c.next.new.self c.loop-address.address-iterator c.loop-address.rom.items took c.loop-address.invariant)

pub returns : goal.returns
returns c =
    let none = rest_all deref_pair c.loop-address.address-iterator c.next.new.self c.next.result c.in-None.is c.next.ensures.steps in
    filled_all c.args.words.now c.args.size c.args.fill c.loop-address.address-iterator c.loop-address.rom.items none c.loop-address.invariant
