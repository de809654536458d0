-- What the code's types stand for among the definitions' data.
use Rattle.std.specs.Prelude.{List, [], ◌∷◌, map, string_bytes, Option, Some, None, option_map}
use Rattle.c25_meaning_linking.specs.CommandTokens as lexed
use Rattle.c25_meaning_linking.specs.Command as meant
use Rattle.c25_meaning_common.specs.Digits as meaning
use Rattle.c25_cmd.specs.declared.token.Token.{Token}
use Rattle.c25_cmd.specs.declared.words.Numeral.{Numeral}
use Rattle.c25_cmd.specs.declared.command.MemoryRange.{MemoryRange}
use Rattle.c25_cmd.specs.declared.command.Target.{Target}
use Rattle.c25_cmd.specs.declared.command.Target.TheVariants as target
use Rattle.c25_cmd.specs.declared.command.Placing.{Placing}
use Rattle.c25_cmd.specs.declared.command.Command.{Command}

-- a token, its text by its bytes
abbrev pub token_of : Token → lexed.Token
token_of t = record { kind = t.kind; place = t.place; text = string_bytes t.text }

-- tokens, as the definitions have them
abbrev pub tokens_of : List Token → List lexed.Token
tokens_of = map token_of

-- the base and the digits of a number's word
abbrev pub numeral_of : Numeral → meaning.Numeral
numeral_of n = record { base = n.base; digits = n.digits.now }

-- a range of MEMORY; the definitions call its length its size
abbrev pub range_of : MemoryRange → meant.RangeData
range_of r = record { page = r.page; name = string_bytes r.name; origin = r.origin; size = r.length }

-- the ranges of MEMORY, as the definitions have them
abbrev pub ranges_of : List MemoryRange → List meant.RangeData
ranges_of = map range_of

-- where a section is to stand
abbrev pub target_of : Target → meant.TargetData
target_of target.Anywhere = meant.Anywhere
target_of (target.InRange name) = meant.InRange (string_bytes name)
target_of (target.At n) = meant.At n

-- what a command says of one section
abbrev pub placing_of : Placing → meant.PlacingData
placing_of p = record { name = string_bytes p.name; target = target_of p.target; page = p.page; run = p.run }

-- the sections of SECTIONS, as the definitions have them
abbrev pub placings_of : List Placing → List meant.PlacingData
placings_of = map placing_of

-- a command, as the definitions have it
abbrev pub command_data : Command → meant.CommandData
command_data c = record {
  entry = option_map (λ s. string_bytes s) c.entry;
  memory = option_map (λ v. ranges_of v.items) c.memory;
  sections = option_map (λ v. placings_of v.items) c.sections;
}

-- the token that was found, if one was
abbrev pub option_tokens : Option Token → List lexed.Token
option_tokens None = []
option_tokens (Some t) = token_of t ∷ []
