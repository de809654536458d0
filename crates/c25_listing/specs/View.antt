-- What a listing's entries stand for.
use Rattle.std.specs.Prelude.{List, map}
use Rattle.std.specs.Cow.{cow_str_bytes}
use Rattle.c25_meaning_assembly.specs.Listing as listing
use Rattle.c25_listing.specs.declared.listing.Entry.{Entry}

-- a line of the listing
abbrev pub entry_of : Entry → listing.Entry
entry_of e = record { line = e.line; text = cow_str_bytes e.text; section = e.section; offset = e.offset; count = e.count }

-- the lines of the listing
abbrev pub entries_of : List Entry → List listing.Entry
entries_of es = map entry_of es
