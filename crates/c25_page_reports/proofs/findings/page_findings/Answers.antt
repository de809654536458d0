use Rattle.std.proofs.Common.{◌≡◌, List, ap, string_bytes, subst, sym, ◌∙◌}
use Rattle.std.specs.Prelude.{IfOk}
use Rattle.c25_map.specs.View.{map_data}
use Rattle.c25_meaning_linking.specs.MapText.{MapData}
use Rattle.c25_meaning_linking.specs.Place.{Place}
use Rattle.c25_symbols.specs.View.{places_of, places_view}
use Rattle.c25_symbols.proofs.Next.{places_seen}
use Rattle.c25_page_reports.specs.Findings.{ArePageFindings, places_in}
use Rattle.c25_page_reports.specs.Operands.{HasSymbols, page_operands}
use Rattle.c25_page_reports.specs.declared.operands.PageOperand.{PageOperand}
use Rattle.c25_page_reports.proofs.Named.{has_symbols}
use Rattle.c25_page_reports.proofs.findings.page_findings.Goals as goal

pub returns-in_default : goal.returns-in_default
returns-in_default c = λ command is. c.unfollowed.ensures (page_operands c.args.absolutes.now c.args.modules.now (places_in c.args.image.now)) c.args.image.now

pub returns : goal.returns
returns c = λ command is.
    let absolutes = c.args.absolutes.now in
    let modules = c.args.modules.now in
    let image = c.args.image.now in
    let map = c.map-map.result.now in
    let has : HasSymbols modules (map_data map) = subst (λ (d : MapData). HasSymbols modules d) (sym c.map-map.ensures) (has_symbols modules command image is) in
    let places : places_view map.sections.items ≡ places_in image = places_seen map ∙ ap places_of c.map-map.ensures in
    let operands = c.deref-5.ensures.value ∙ c.in_ok-operands.ensures has ∙ ap (λ (ps : List Place). page_operands absolutes modules ps) places in
    subst (λ (os : List PageOperand). IfOk c.findings_by.result (λ found. ArePageFindings c.args.all os image found.warnings.items (string_bytes found.facts))) operands c.findings_by.ensures
