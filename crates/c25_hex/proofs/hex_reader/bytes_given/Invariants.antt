use Rattle.std.proofs.Common.{◌≡◌, length, drop}
use Rattle.std.specs.Str.Lines.{lines}
use Rattle.c25_hex.specs.Hex.{after_lines, bytes_given}
use Rattle.c25_hex.specs.View.{hex_state}
use Rattle.c25_hex.proofs.hex_reader.bytes_given.Given as goal

abbrev pub invariant-loop-line : goal.invariant-loop-line
invariant-loop-line l = record {
  counted : l.number ≡ length l.yielded;
  told : after_lines l.number (hex_state l.reader) (drop l.number (lines l.text)) ≡ bytes_given l.text;
}
