-- Where sessions begin.
use Rattle.std.proofs.Common.{◌≡◌, ◌∙◌, ℕ, List, [], Option, None, ap, subst}
use Rattle.std.proofs.KnownBytes.{prepend_known-nil}
use Rattle.std.specs.Io.KnownBytes.{prepend_known}
use Rattle.std.specs.Prelude.{◌==◌, if◌then◌else◌}
use Rattle.std.specs.Io.Buffered.{reader_buffer, reader_capacity, reader_inner, reader_remaining}
use Rattle.std.specs.declared.io.buffered.BufReader.{BufReader}
use Rattle.c25_map.specs.View.{map_data}
use Rattle.c25_map.specs.declared.map.Map.{Map}
use Rattle.c25_map.specs.declared.map.OutputSection.{OutputSection}
use Rattle.c25_meaning_linking.specs.MapText.{MapData}
use Rattle.c25_meaning_objects.specs.Module.{Contents}
use Rattle.c25_meaning_processor.specs.Signals.{signals_of}
use Rattle.c25_meaning_processor.specs.State.{State}
use Rattle.c25_meaning_processor.specs.WordStep.{WordStep}
use Rattle.c25_meaning_processor.specs.declared.schedule.ScheduleEntry.{ScheduleEntry}
use Rattle.c25_prompt.specs.Conversing.{Converses, standing}
use Rattle.c25_prompt.specs.Displays.{DisplayData, no_displays}
use Rattle.c25_prompt.specs.Session.{SessionPoint, first_session}
use Rattle.c25_prompt.specs.declared.ignored.Ignored.{Ignored}
use Rattle.c25_prompt_lines.specs.Addresses.{ProgramData}
use Rattle.c25_prompting.specs.Prompting.{Talks}
use Rattle.c25_symbols.proofs.Next.{places_seen}
use Rattle.c25_symbols.specs.Symbols.{all_symbols}
use Rattle.c25_symbols.specs.View.{entries_view, places_of, places_view}
use Rattle.c25_symbols.specs.declared.entries.SymbolEntry.{SymbolEntry}

-- ---- readers

-- what a reader has that has read nothing ahead
pub nothing_ahead : {T A : Type 0} (remaining : T → Option (List ℕ)) (r : BufReader T A) (x : T) → reader_inner r ≡ x → reader_buffer r ≡ [] → reader_capacity r ≡ 8192 → reader_remaining remaining r ≡ remaining x
nothing_ahead remaining r x inner empty capacity =
    ap (λ (n : ℕ). if n == 0 then None else prepend_known (reader_buffer r) (remaining (reader_inner r))) capacity
    ∙ ap (λ (bs : List ℕ). prepend_known bs (remaining (reader_inner r))) empty
    ∙ prepend_known-nil (remaining (reader_inner r))
    ∙ ap remaining inner

-- ---- points

abbrev pub point_with : (steps : ℕ) → State → (breaks once watches : List ℕ) → List Ignored → DisplayData → SessionPoint
point_with steps s breaks once watches ignored displays =
    record { point = record { at = record { steps = steps; state = s; breaks = breaks }; once = once; watches = watches; ignored = ignored }; displays = displays }

pub at_first : (steps : ℕ) (s first : State) (breaks once watches : List ℕ) (ignored : List Ignored) (displays : DisplayData) → steps ≡ 0 → s ≡ first → breaks ≡ [] → once ≡ [] → watches ≡ [] → ignored ≡ []
    → displays ≡ no_displays → point_with steps s breaks once watches ignored displays ≡ first_session first
at_first steps s first breaks once watches ignored displays none begins no_breaks no_once no_watches no_counts nothing =
    ap (λ (k : ℕ). point_with k s breaks once watches ignored displays) none
    ∙ ap (λ (x : State). point_with 0 x breaks once watches ignored displays) begins
    ∙ ap (λ (x : List ℕ). point_with 0 first x once watches ignored displays) no_breaks
    ∙ ap (λ (x : List ℕ). point_with 0 first [] x watches ignored displays) no_once
    ∙ ap (λ (x : List ℕ). point_with 0 first [] [] x ignored displays) no_watches
    ∙ ap (λ (x : List Ignored). point_with 0 first [] [] [] x displays) no_counts
    ∙ ap (λ (x : DisplayData). point_with 0 first [] [] [] [] x) nothing

-- a conversation from a point on that is the first of a program
pub begun : (es fs : List ScheduleEntry) (program shown : ProgramData) (first s : State) (input remaining before left after : Option (List ℕ)) (p q : SessionPoint)
    → fs ≡ es → shown ≡ program → s ≡ first → remaining ≡ input → p ≡ first_session first
    → Converses WordStep (signals_of fs) shown s (standing remaining before p) (standing left after q) → Talks WordStep (signals_of es) program first input before after
begun es fs program shown first s input remaining before left after p q entries same begins reader point talks =
    let of_entries = subst (λ (x : List ScheduleEntry). Converses WordStep (signals_of x) shown s (standing remaining before p) (standing left after q)) entries talks in
    let of_program = subst (λ (x : ProgramData). Converses WordStep (signals_of es) x s (standing remaining before p) (standing left after q)) same of_entries in
    let of_first = subst (λ (x : State). Converses WordStep (signals_of es) program x (standing remaining before p) (standing left after q)) begins of_program in
    let of_reader = subst (λ (x : Option (List ℕ)). Converses WordStep (signals_of es) program first (standing x before p) (standing left after q)) reader of_first in
    (left, q, subst (λ (x : SessionPoint). Converses WordStep (signals_of es) program first (standing input before x) (standing left after q)) point of_reader)

-- ---- symbols

-- the symbols of modules at the places of a map
pub names_symbols : (shown symbols : List SymbolEntry) (ms modules : List Contents) (sources : List (List ℕ)) (sections : List OutputSection) (m : Map) (described : MapData)
    → shown ≡ symbols → ms ≡ modules → sections ≡ m.sections.items → map_data m ≡ described → entries_view symbols ≡ all_symbols ms sources (places_view sections)
    → entries_view shown ≡ all_symbols modules sources (places_of described)
names_symbols shown symbols ms modules sources sections m described of_symbols of_modules of_sections of_map are =
    ap entries_view of_symbols ∙ are
    ∙ ap (λ (x : List Contents). all_symbols x sources (places_view sections)) of_modules
    ∙ ap (λ (x : List OutputSection). all_symbols modules sources (places_view x)) of_sections
    ∙ ap (all_symbols modules sources) (places_seen m)
    ∙ ap (λ (d : MapData). all_symbols modules sources (places_of d)) of_map
