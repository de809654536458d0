-- What the names that an expander knows stand for.
use Rattle.c25_meaning_expansion.specs.Expansion as exp
use Rattle.c25_macro.specs.declared.dictionary.Dictionary.{Dictionary}

-- the dictionary of the definition: macros, substitution symbols, open expansions, and how many expansions
-- there were
abbrev pub dictionary_of : Dictionary → exp.Dictionary
dictionary_of d = record { macros = d.macros; texts = d.texts; expansions = d.expansions; count = d.count }
