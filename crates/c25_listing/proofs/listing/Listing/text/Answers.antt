use Rattle.std.proofs.Common.{◌++◌, ap, ◌∙◌, arith}
use Rattle.std.proofs.lemmas.Grind.{common_steps}
use Rattle.std.specs.String.{string_bytes}
use Rattle.c25_meaning_assembly.specs.Listing.{entry_text}
use Rattle.c25_meaning_objects.specs.Module.{Contents}
use Rattle.c25_listing.specs.View.{entry_of}
use Rattle.c25_listing.specs.declared.listing.Entry.{Entry}
use Rattle.c25_listing.proofs.Entries.{entry_more}
use Rattle.c25_listing.proofs.listing.Listing.text.Goals as goal

pub loop-entry-preserved : goal.loop-entry-preserved
loop-entry-preserved c =
    let m = c.args.self.now.module in
    let h = c.in_ok-push_entry.ensures in
    let out = string_bytes c.loop-entry.out in
    record {
      told = entry_more m c.deref-entry-items.result.now c.loop-entry.entry-index _ out _ _ c.loop-entry-test.true
          (h.0 ∙ ap (λ (k : Contents). out ++ entry_text k (entry_of c.entry-item.result)) c.loop-entry.invariant.words ∙ ap (λ (e : Entry). out ++ entry_text m (entry_of e)) c.entry-item.is)
          c.loop-entry.invariant.told;
      empty = h.1;
      words = c.loop-entry.invariant.words;
    }

pub returns : goal.returns
returns c = grind (arith, common_steps)
