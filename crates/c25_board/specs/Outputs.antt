-- What a list of outputs holds.
use Rattle.std.specs.Prelude.{ℕ, List}
use Rattle.c25_board.specs.declared.ports.ListSink.{ListSink}

-- the outputs, each a port and a word, oldest first
abbrev pub outputs_of : ListSink → List (ℕ × ℕ)
outputs_of sink = sink.words.items
