-- the lines so far, and then what is left
use Rattle.std.proofs.Common.{◌≡◌, ◌+◌, ◌++◌, drop, map, string_bytes}
use Rattle.c25_prompt_texts.specs.SourceLines.{numbered}
use Rattle.c25_prompt_texts.proofs.source_lines.push_numbered.Given as goal

abbrev pub invariant-loop-line : goal.invariant-loop-line
invariant-loop-line l =
    record {
      number : l.number ≡ l.first + l.line-index;
      lines :
          string_bytes l.text ++ numbered l.current l.number (map (λ line. line.now) (drop l.line-index l.lines))
          ≡ string_bytes l.fn.text ++ numbered l.current l.first (map (λ line. line.now) l.lines);
    }
