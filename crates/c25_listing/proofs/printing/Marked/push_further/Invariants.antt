use Rattle.std.proofs.Common.{◌≡◌, ◌+◌, ◌-◌, ◌++◌, []}
use Rattle.std.specs.String.{string_bytes}
use Rattle.c25_meaning_assembly.specs.Listing.{further}
use Rattle.c25_module.specs.View.{contents}
use Rattle.c25_listing.proofs.printing.Marked.push_further.Given as goal

abbrev pub invariant-loop-index : goal.invariant-loop-index
invariant-loop-index l = record {
  told : string_bytes l.out ++ further (contents l.self.parts.now) l.section (l.offset + l.index) (l.count - l.index) ≡ string_bytes l.initial.out ++ further (contents l.self.parts.now) l.section l.offset l.count;
  empty : string_bytes l.line ≡ [];
}
