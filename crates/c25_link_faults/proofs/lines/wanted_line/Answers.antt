use Rattle.std.proofs.Common.{◌≡◌, ◌<◌, ◌≤◌, true, false, length, get_or, List, ap, sym, ◌∙◌, arith}
use Rattle.c25_meaning_objects.specs.declared.object.ModuleMark.{ModuleMark}
use Rattle.c25_module.specs.View.{contents}
use Rattle.c25_link.specs.Misfits.{line_in}
use Rattle.c25_link_faults.specs.Sites.{is_wanted}
use Rattle.c25_link_faults.proofs.Beside.{found_beside, none_beside, none_beside_any}
use Rattle.c25_link_faults.proofs.lines.wanted_line.Goals as goal

-- what an index past the end would read
abbrev nothing : ModuleMark
nothing = record { section = 0; offset = 0; size = 0 }

pub returns-then-is_wanted : goal.returns-then-is_wanted
returns-then-is_wanted c =
    let m = contents c.args.owner.now in
    let w = c.args.wanted.now in
    let same = c.deref-mark-items.ensures.value in
    let i = c.loop-index.index in
    let lt : i < length m.marks = omega (arith, c.loop-index-test.true, ap length same) in
    let passes : is_wanted w (get_or m.marks i nothing) ≡ true = ap (λ (xs : List ModuleMark). is_wanted w (get_or xs i nothing)) (sym same) ∙ sym c.is_wanted.ensures ∙ c.if-is_wanted.true in
    c.line_at.ensures ∙ found_beside (is_wanted w) (line_in m) m.marks m.lines i nothing lt c.loop-index.invariant passes

pub loop-index-preserved : goal.loop-index-preserved
loop-index-preserved c =
    let m = contents c.args.owner.now in
    let w = c.args.wanted.now in
    let same = c.deref-mark-items.ensures.value in
    let i = c.loop-index.index in
    let lt : i < length m.marks = omega (arith, c.loop-index-test.true, ap length same) in
    let fails : is_wanted w (get_or m.marks i nothing) ≡ false = ap (λ (xs : List ModuleMark). is_wanted w (get_or xs i nothing)) (sym same) ∙ sym c.is_wanted.ensures ∙ c.if-is_wanted.false in
    none_beside (is_wanted w) (line_in m) m.marks m.lines i nothing lt c.loop-index.invariant fails

pub returns : goal.returns
returns c =
    let m = contents c.args.owner.now in
    let le : length m.marks ≤ c.loop-index.index = omega (arith, c.loop-index-test.false, ap length c.deref-mark-items.ensures.value) in
    none_beside_any (is_wanted c.args.wanted.now) (line_in m) m.marks m.lines c.loop-index.index le c.loop-index.invariant
