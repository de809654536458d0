-- A listing, entry by entry.
use Rattle.std.proofs.Common.{◌≡◌, ℕ, ◌+◌, ◌<◌, List, ◌++◌, drop, get_or, length, ap, sym, ◌∙◌}
use Rattle.std.proofs.lemmas.List.{append_assoc, drop_more}
use Rattle.c25_meaning_assembly.specs.Listing.{entry_text, listing_text}
use Rattle.c25_meaning_objects.specs.Module.{Contents}
use Rattle.c25_listing.specs.View.{entries_of, entry_of}
use Rattle.c25_listing.specs.declared.listing.Entry.{Entry}

-- the printed lines of one entry more come after those of the entries before it
pub entry_more : (m : Contents) (entries : List Entry) (i : ℕ) (d : Entry) (before after all : List ℕ) → i < length entries → after ≡ before ++ entry_text m (entry_of (get_or entries i d))
    → before ++ listing_text m (entries_of (drop i entries)) ≡ all → after ++ listing_text m (entries_of (drop (i + 1) entries)) ≡ all
entry_more m entries i d before after all lt is told =
    ap (λ l. l ++ listing_text m (entries_of (drop (i + 1) entries))) is
    ∙ append_assoc before (entry_text m (entry_of (get_or entries i d))) (listing_text m (entries_of (drop (i + 1) entries)))
    ∙ ap (λ es. before ++ listing_text m (entries_of es)) (sym (drop_more entries i d lt))
    ∙ told
