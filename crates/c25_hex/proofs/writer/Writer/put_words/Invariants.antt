use Rattle.std.proofs.Common.{◌≡◌, ◌++◌, string_bytes}
use Rattle.c25_hex.specs.HexText.{text_of, lines_on, stretches_on}
use Rattle.c25_hex.specs.View.{stretch_of}
use Rattle.c25_hex.proofs.writer.Writer.put_words.Given as goal

abbrev pub invariant-loop-address : goal.invariant-loop-address
invariant-loop-address l =
    string_bytes l.self.text ++ text_of (lines_on l.self.has_base (stretches_on (stretch_of l.stretch) l.address-iterator))
    ≡ string_bytes l.fn.self.text ++ text_of (lines_on l.fn.self.has_base (stretches_on (stretch_of l.fn.first) l.fn.rest))
