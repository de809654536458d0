-- The note of a file that cannot be read.
use Rattle.std.proofs.Common.{ℕ, List, Option, Some, None, string_bytes}
use Rattle.std.specs.Prelude.{IfOk, Result, Ok, Err, String}
use Rattle.std.specs.declared.alloc.Global.{Global}
use Rattle.c25_disk.specs.Held.{Held, IsAllOf}
use Rattle.c25_disk.specs.Refusals.{Refuses}
use Rattle.c25_explain.specs.Note.{IsNoteOf}
use Rattle.c25_explain.specs.declared.fault.AnyFault.{AnyFault}
use Rattle.c25_explain.specs.declared.note.Shown.{Shown}
use Rattle.c25_meaning_common.specs.declared.no_memory.NoMemory.{NoMemory}
use Rattle.c25_explain.specs.Notes.{IsExplainedUnread, IsUnread, IsWhy, IsWhyNoText}
use Rattle.c25_explain.specs.declared.note.Unread.{Unread}
use Rattle.c25_explain.specs.declared.note.Unread.TheVariants.{NotOpened, Refused, TooLong, NotRead, ObjectFile, NotUtf8}

-- what keeps the bytes of a file from being a text is why it cannot be read
pub why_of_bytes : (refuses : Refuses) (held : Held) (file bytes : List ℕ) (why : Option Unread) → IsAllOf (held file) bytes → IsWhyNoText bytes why → IsWhy refuses held file why
why_of_bytes refuses held file bytes None all is = tt
why_of_bytes refuses held file bytes (Some NotOpened) all is = absurd is
why_of_bytes refuses held file bytes (Some (Refused why)) all is = absurd is
why_of_bytes refuses held file bytes (Some TooLong) all is = absurd is
why_of_bytes refuses held file bytes (Some NotRead) all is = absurd is
why_of_bytes refuses held file bytes (Some ObjectFile) all is = (bytes, all, is)
why_of_bytes refuses held file bytes (Some (NotUtf8 line)) all is = (bytes, all, is)

pub unread : (refuses : Refuses) (held : Held) (file behind : List ℕ) (fault : AnyFault) (shows : Shown) (note : Result (String Global) NoMemory)
    → IsUnread refuses held file shows → IfOk note (λ n. IsNoteOf fault shows behind (string_bytes n)) → IfOk note (λ n. IsExplainedUnread refuses held file behind fault (string_bytes n))
unread refuses held file behind fault shows (Ok n) why explained = (shows, why, explained)
unread refuses held file behind fault shows (Err error) why explained = tt
