use Rattle.std.proofs.Common.{◌≡◌, ◌<◌, ◌≤◌, true, false, length, get_or, List, ap, sym, ◌∙◌, arith}
use Rattle.c25_meaning_objects.specs.declared.object.ModuleMark.{ModuleMark}
use Rattle.c25_module.specs.View.{contents}
use Rattle.c25_link.specs.Misfits.{has_word, line_in}
use Rattle.c25_link.proofs.Misplaced.{found_beside, none_beside, none_beside_any}
use Rattle.c25_link.proofs.misfits.instruction_line.Goals as goal

-- what an index past the end would read
abbrev nothing : ModuleMark
nothing = record { section = 0; offset = 0; size = 0 }

pub returns-then-has_word : goal.returns-then-has_word
returns-then-has_word c =
    let m = contents c.args.owner.now in
    let r = c.args.relocation.now in
    let same = c.deref-mark-items.ensures.value in
    let i = c.loop-index.index in
    let lt : i < length m.marks = omega (arith, c.loop-index-test.true, ap length same) in
    let passes : has_word r (get_or m.marks i nothing) ≡ true = ap (λ (xs : List ModuleMark). has_word r (get_or xs i nothing)) (sym same) ∙ sym c.has_word.ensures ∙ c.if-has_word.true in
    c.line_at.ensures ∙ found_beside (has_word r) (line_in m) m.marks m.lines i nothing lt c.loop-index.invariant passes

pub loop-index-preserved : goal.loop-index-preserved
loop-index-preserved c =
    let m = contents c.args.owner.now in
    let r = c.args.relocation.now in
    let same = c.deref-mark-items.ensures.value in
    let i = c.loop-index.index in
    let lt : i < length m.marks = omega (arith, c.loop-index-test.true, ap length same) in
    let fails : has_word r (get_or m.marks i nothing) ≡ false = ap (λ (xs : List ModuleMark). has_word r (get_or xs i nothing)) (sym same) ∙ sym c.has_word.ensures ∙ c.if-has_word.false in
    none_beside (has_word r) (line_in m) m.marks m.lines i nothing lt c.loop-index.invariant fails

pub returns : goal.returns
returns c =
    let m = contents c.args.owner.now in
    let le : length m.marks ≤ c.loop-index.index = omega (arith, c.loop-index-test.false, ap length c.deref-mark-items.ensures.value) in
    none_beside_any (has_word c.args.relocation.now) (line_in m) m.marks m.lines c.loop-index.index le c.loop-index.invariant
