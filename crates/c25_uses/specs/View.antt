-- What the types of this crate stand for.
use Rattle.std.specs.Option.{option_map}
use Rattle.c25_uses.specs.Uses as uses
use Rattle.c25_uses.specs.declared.uses.Defined.{Defined}

-- the symbols that a line defines
abbrev pub defined_of : Defined → uses.Defined
defined_of d = record { label = option_map (λ t. t.now) d.label; value = option_map (λ t. t.now) d.value; place = option_map (λ t. t.now) d.place }
