-- Texts of samples: on each line a port, 0 to 15, and a word of four hexadecimal digits (this project's own).
use Rattle.std.specs.Prelude.{ℕ, ◌==◌, List, [], ◌∷◌, filter, map, None, option_map, option_and_then, Result}
use Rattle.c25_meaning_processor.specs.declared.sample.Sample.{Sample}
use Rattle.c25_meaning_common.specs.Digits.{decimal_of, hexadecimal_of}
use Rattle.c25_meaning_common.specs.Items.{ItemOf, items_of}

-- the sample of a line, if its two parts are a port and a word
abbrev pub sample_of : ItemOf Sample
sample_of before (port ∷ word ∷ []) =
    option_and_then (λ p. option_map (λ w. record { port = p; word = w }) (hexadecimal_of 4 word)) (decimal_of 15 port)
sample_of before _ = None

-- the samples of a text, or the number of its first faulty line
abbrev pub samples_of : List ℕ → Result (List Sample) ℕ
samples_of = items_of sample_of

-- the words that each port reads, in order
abbrev pub samples_at : List Sample → ℕ → List ℕ
samples_at samples port = map (λ s. s.word) (filter (λ s. s.port == port) samples)
