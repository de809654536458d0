use Rattle.std.proofs.Common.{◌≡◌, ◌+◌, ◌++◌, [], codes, ap, ◌∙◌, arith}
use Rattle.std.specs.String.{string_bytes}
use Rattle.c25_meaning_assembly.specs.Listing.{word_line, blanks}
use Rattle.c25_module.specs.View.{contents}
use Rattle.c25_listing.proofs.Columns.{further_more}
use Rattle.c25_listing.proofs.printing.Marked.push_further.Goals as goal

pub loop-index-preserved : goal.loop-index-preserved
loop-index-preserved c =
    let m = contents c.args.self.now.parts.now in
    let h = c.in_ok-push_word_line.ensures in
    let out = string_bytes c.loop-index.out in
    let behind : string_bytes c.push_str.new.self ≡ blanks 6 = c.in_ok-push_str.ensures.bytes ∙ ap (λ l. l ++ codes "      ") c.loop-index.invariant.empty in
    record {
      told = further_more m c.args.section c.args.offset c.args.count c.loop-index.index out (string_bytes c.push_word_line.new.out) _ (omega arith)
          (h.0 ∙ ap (λ l. out ++ word_line m c.args.section (c.args.offset + c.loop-index.index) l []) behind) c.loop-index.invariant.told;
      empty = h.1;
    }
