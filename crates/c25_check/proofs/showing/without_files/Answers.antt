use Rattle.std.proofs.Common.{◌∙◌, ap, map, rules}
use Rattle.std.proofs.lemmas.Fn.{filter_same}
use Rattle.c25_check.proofs.Shown.{map_filter}
use Rattle.c25_check.specs.Showing.{is_elsewhere}
use Rattle.c25_warnings.specs.View.{link_warnings_view, warning_of, warnings_view}
use Rattle.c25_check.proofs.showing.without_files.Goals as goal

pub returns : goal.returns
returns c =
    let files = map (λ file. file.now) c.args.files.now in
    let kept = filter_same _ (λ w. is_elsewhere files (warning_of w)) _ (λ x b f' called. search rules) _ _ c.retain.ensures.filtered in
    ap (λ lines. record { of_lines = lines; of_sections = link_warnings_view c.args.warnings.of_sections.items }) (ap warnings_view kept ∙ map_filter warning_of (is_elsewhere files) c.args.warnings.of_lines.items)
