-- The notes of fronts.
use Rattle.std.proofs.Common.{◌≡◌, ◌∙◌, ap, inl, subst, sym, ℕ, List, map}
use Rattle.std.specs.Prelude.{String}
use Rattle.std.specs.declared.alloc.Global.{Global}
use Rattle.c25_chain.specs.declared.fault.ChainFault.{ChainFault}
use Rattle.c25_disk.specs.Held.{Held}
use Rattle.c25_disk.specs.Refusals.{Refuses}
use Rattle.c25_explain.specs.Notes.{AreNotesFor, IsNoted}
use Rattle.c25_explain.specs.declared.named.NamedFiles.{NamedFiles}
use Rattle.c25_explain.specs.declared.notes.Notes.{Notes}
use Rattle.c25_explain.specs.declared.notes.Notes.TheVariants.{After}
use Rattle.c25_fronts.specs.Fronts.{front_name, fronted, fronts}
use Rattle.c25_meaning_expansion.specs.Files.{Files}
use Rattle.c25_options.specs.Task.{texts_of}
use Rattle.c25_options.specs.declared.task.FaultOptions.{FaultOptions}
use Rattle.c25_source_notes.specs.Lines.{shown_text}
use Rattle.c25_source_notes.specs.Notes.{IsNoteOfFronts}

-- what is shown of the note of fronts is the note of their sources
pub of_fronts : (refuses : Refuses) (held : Held) (notes shown : Notes) (options : FaultOptions) (named : NamedFiles) (definitions : List (List ℕ)) (made : Files) (names : List (List ℕ)) (fault : ChainFault (String Global)) (text seen note : List ℕ)
    → notes ≡ After options named → made ≡ fronts definitions (texts_of named.sources.now) → names ≡ map front_name (texts_of named.sources.now)
    → AreNotesFor options named.files named.script names (texts_of named.objects.now) shown → IsNoted refuses (fronted made held) shown fault text → seen ≡ text → note ≡ shown_text (texts_of named.sources.now) seen
    → IsNoteOfFronts refuses held notes definitions fault note
of_fronts refuses held notes shown options named definitions made names fault text seen note is of_made of_names asked noted same told =
    let sources = texts_of named.sources.now in
    let of_sources = subst (λ (ns : List (List ℕ)). AreNotesFor options named.files named.script ns (texts_of named.objects.now) shown) of_names asked in
    let of_fronts = subst (λ (fs : Files). IsNoted refuses (fronted fs held) shown fault text) of_made noted in
    subst (λ (n : Notes). IsNoteOfFronts refuses held n definitions fault note) (sym is) (inl (shown, of_sources, text, of_fronts, told ∙ ap (shown_text sources) same))
