use Rattle.std.proofs.Common.{◌≡◌, ◌≤◌, length, map, rules, subst, sym, ap, ◌∙◌}
use Rattle.c25_meaning_assembly.specs.Emission.{Lines, lines_in, names_with}
use Rattle.c25_phases.specs.View.{item_of}
use Rattle.c25_phases.proofs.Unmoved.{lines_stay}
use Rattle.c25_phases.proofs.second_phase.SecondPhase.take_parts.Goals as goal

pub module_with-requires : goal.module_with-requires
module_with-requires c =
    let old = c.args.self.now in
    let taken : c.replace-sections.result ≡ c.emit.new.self.sections = search rules in
    let stay = lines_stay (names_with old.symbols.entries old.declared) (map item_of old.items.items) old.sections c.emit.new.self.sections c.in_ok-emit.ensures.told in
    subst (λ (l : Lines). length l.files ≤ 65535) (sym (ap lines_in taken ∙ stay)) c.requires.files
