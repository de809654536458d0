use Rattle.std.proofs.Common.{◌≡◌, ◌++◌, [], drop}
use Rattle.std.specs.String.{string_bytes}
use Rattle.c25_meaning_assembly.specs.Listing.{listing_text}
use Rattle.c25_module.specs.View.{contents}
use Rattle.c25_listing.specs.View.{entries_of}
use Rattle.c25_listing.proofs.listing.Listing.text.Given as goal

abbrev pub invariant-loop-entry : goal.invariant-loop-entry
invariant-loop-entry l = record {
  told : string_bytes l.out ++ listing_text l.self.module (entries_of (drop l.entry-index l.entry-items)) ≡ listing_text l.self.module (entries_of l.entry-items);
  empty : string_bytes l.line ≡ [];
  words : contents l.words.parts.now ≡ l.self.module;
}
