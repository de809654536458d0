-- How many words sections of a name have, and the sections at addresses, one more at a time.
use Rattle.std.proofs.Common.{◌≡◌, ℕ, ◌+◌, ◌<◌, List, [], ◌∷◌, ◌++◌, length, get_or, map, take, refl, sym, ap, ◌∙◌}
use Rattle.std.specs.List.{sum_by}
use Rattle.std.proofs.lemmas.List.{append_assoc, append-nil}
use Rattle.std.proofs.lemmas.List.Sums.{sum_by-append, sum_by_push}
use Rattle.c25_cmd.specs.View.{placing_of, placings_of}
use Rattle.c25_cmd.specs.declared.command.Placing.{Placing}
use Rattle.c25_meaning_linking.specs.Command.{PlacingData}
use Rattle.c25_meaning_linking.specs.Place.{all_sections, size_for, size_of_parts}
use Rattle.c25_meaning_objects.specs.Module.{Contents}
use Rattle.c25_module.specs.View.{section_data, sections_data}
use Rattle.c25_module.specs.declared.parts.Section.{Section}
use Rattle.c25_place.proofs.Listed.{mapped_more}
use Rattle.c25_link_faults.specs.Overlaps.{SpanData, listed_span, spans}
use Rattle.c25_link_faults.proofs.More.{modules_next}

-- the words of the sections of a module
pub section_more : (name : List ℕ) (ss : List Section) (i : ℕ) (s : Section) → i < length ss → s ≡ get_or ss i s
    → sum_by (size_for name) (sections_data (take (i + 1) ss)) ≡ sum_by (size_for name) (sections_data (take i ss)) + size_for name (section_data s)
section_more name ss i s lt is =
    ap (sum_by (size_for name)) (mapped_more section_data ss i s lt)
    ∙ sum_by_push (size_for name) (sections_data (take i ss)) (section_data (get_or ss i s))
    ∙ ap (λ (x : Section). sum_by (size_for name) (sections_data (take i ss)) + size_for name (section_data x)) (sym is)

-- the words of the sections of all modules
pub module_more : (name : List ℕ) (modules : List Contents) (i : ℕ) (m : Contents) → i < length modules → m ≡ get_or modules i m
    → size_of_parts name (take (i + 1) modules) ≡ size_of_parts name (take i modules) + sum_by (size_for name) m.sections
module_more name modules i m lt is =
    ap (sum_by (size_for name)) (modules_next modules i m lt is) ∙ sum_by-append (size_for name) (all_sections (take i modules)) m.sections

-- the sections at addresses
flat : (modules : List Contents) (ps qs : List PlacingData) → spans modules (ps ++ qs) ≡ spans modules ps ++ spans modules qs
flat modules [] qs = refl
flat modules (p ∷ ps) qs = ap (λ (xs : List SpanData). listed_span modules p ++ xs) (flat modules ps qs) ∙ sym (append_assoc (listed_span modules p) (spans modules ps) (spans modules qs))

pub span_more : (modules : List Contents) (ps : List Placing) (i : ℕ) (p : Placing) → i < length ps → p ≡ get_or ps i p
    → spans modules (placings_of (take (i + 1) ps)) ≡ spans modules (placings_of (take i ps)) ++ listed_span modules (placing_of p)
span_more modules ps i p lt is =
    ap (spans modules) (mapped_more placing_of ps i p lt)
    ∙ flat modules (placings_of (take i ps)) (placing_of (get_or ps i p) ∷ [])
    ∙ ap (λ (xs : List SpanData). spans modules (placings_of (take i ps)) ++ xs) (append-nil (listed_span modules (placing_of (get_or ps i p))))
    ∙ ap (λ (x : Placing). spans modules (placings_of (take i ps)) ++ listed_span modules (placing_of x)) (sym is)
