-- A note that shows a reason which the disk says shows some reason.
use Rattle.std.proofs.Common.{◌==◌, inl, inr, ℕ, Bool, true, false, List, Option, Some, None, length}
use Rattle.std.specs.Prelude.{String}
use Rattle.std.specs.declared.alloc.Global.{Global}
use Rattle.c25_chain.specs.declared.fault.ChainFault.{ChainFault}
use Rattle.c25_disk.specs.Held.{Held}
use Rattle.c25_disk.specs.Refusals.{Refuses, any_reason}
use Rattle.c25_explain.specs.Notes.{IsExplainedBy, IsExplanation, IsNoted, IsUnread, IsWhy, place_of, unread_name}
use Rattle.c25_explain.specs.Refusals.{of_refusal}
use Rattle.c25_explain.specs.declared.fault.AnyFault.{AnyFault}
use Rattle.c25_explain.specs.declared.named.NamedFiles.{NamedFiles}
use Rattle.c25_explain.specs.declared.note.Shown.{Shown}
use Rattle.c25_explain.specs.declared.note.Shown.TheVariants as shown
use Rattle.c25_explain.specs.declared.note.Unread.{Unread}
use Rattle.c25_explain.specs.declared.note.Unread.TheVariants.{NotOpened, Refused, TooLong, NotRead, ObjectFile, NotUtf8}
use Rattle.c25_explain.specs.declared.notes.Notes.{Notes}
use Rattle.c25_explain.specs.declared.notes.Notes.TheVariants.{Nothing, After}
use Rattle.c25_fronts.specs.Fronts.{fronted, fronts}
use Rattle.c25_inputs.specs.Files.{source_names}
use Rattle.c25_options.specs.Task.{texts_of}
use Rattle.c25_source_notes.specs.Notes.{IsNoteUnder, IsSourceNote, sources_in}
use Rattle.c25_source_notes.specs.declared.notes.SourceNotes.{SourceNotes}
use Rattle.c25_source_notes.specs.declared.notes.SourceNotes.TheVariants.{Plain, Reading}

why_weaker : (refuses : Refuses) (held : Held) (file : List ℕ) (why : Unread) → IsWhy refuses held file (Some why) → IsWhy any_reason held file (Some why)
why_weaker refuses held file NotOpened is = is
why_weaker refuses held file (Refused why) is = tt
why_weaker refuses held file TooLong is = is
why_weaker refuses held file NotRead is = is
why_weaker refuses held file ObjectFile is = is
why_weaker refuses held file (NotUtf8 line) is = is

unread_weaker : (refuses : Refuses) (held : Held) (file : List ℕ) (shows : Shown) → IsUnread refuses held file shows → IsUnread any_reason held file shows
unread_weaker refuses held file shown.Nothing is = is
unread_weaker refuses held file (shown.Line of_file number text) is = is
unread_weaker refuses held file (shown.Unread of_file why) (same, is) = (same, why_weaker refuses held file why is)

explained_weaker : (refuses : Refuses) (held : Held) (place : Option (List ℕ × ℕ)) (unread : Option (List ℕ)) (behind : List ℕ) (fault : AnyFault) (note : List ℕ)
    → IsExplainedBy refuses held place unread behind fault note → IsExplainedBy any_reason held place unread behind fault note
explained_weaker refuses held (Some place) unread behind fault note is = is
explained_weaker refuses held None (Some file) behind fault note (shows, why, is) = (shows, unread_weaker refuses held file shows why, is)
explained_weaker refuses held None None behind fault note is = is

explanation_weaker : (refuses : Refuses) (held : Held) (explain : Bool) (named : NamedFiles) (fault : ChainFault (String Global)) (text : List ℕ)
    → IsExplanation refuses held explain named fault text → IsExplanation any_reason held explain named fault text
explanation_weaker refuses held true named fault text (inl (behind, shows, is)) =
    inl (behind, shows, explained_weaker refuses held (place_of named fault) (unread_name fault) behind (of_refusal fault) text is)
explanation_weaker refuses held true named fault text (inr none) = inr none
explanation_weaker refuses held false named fault text none = none

noted_weaker : (refuses : Refuses) (held : Held) (notes : Notes) (fault : ChainFault (String Global)) (note : List ℕ) → IsNoted refuses held notes fault note → IsNoted any_reason held notes fault note
noted_weaker refuses held Nothing fault note none = none
noted_weaker refuses held (After options named) fault note (inl (explanation, others, is, listed, same)) =
    inl (explanation, others, explanation_weaker refuses held options.explain named fault explanation is, listed, same)
noted_weaker refuses held (After options named) fault note (inr none) = inr none

under_weaker : (none : Bool) (refuses : Refuses) (held : Held) (notes : Notes) (definitions : List (List ℕ)) (fault : ChainFault (String Global)) (note : List ℕ)
    → IsNoteUnder none refuses held notes definitions fault note → IsNoteUnder none any_reason held notes definitions fault note
under_weaker true refuses held notes definitions fault note is = noted_weaker refuses held notes fault note is
under_weaker false refuses held notes definitions fault note (inl (shown, of_fronts, text, is, same)) =
    inl (shown, of_fronts, text, noted_weaker refuses (fronted (fronts definitions (sources_in notes)) held) shown fault text is, same)
under_weaker false refuses held notes definitions fault note (inr none) = inr none

pub source_note_weaker : (refuses : Refuses) (held : Held) (notes : SourceNotes) (fault : ChainFault (String Global)) (note : List ℕ)
    → IsSourceNote refuses held notes fault note → IsSourceNote any_reason held notes fault note
source_note_weaker refuses held (Plain notes) fault note is = noted_weaker refuses held notes fault note is
source_note_weaker refuses held (Reading notes given) fault note (plain, under, shown) =
    let definitions = texts_of given.definitions.now in
    (plain, under_weaker (length definitions == 0) refuses held notes definitions fault plain under, shown)
