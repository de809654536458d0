-- How the chain's structs stand for the definitions' data.
use Rattle.std.specs.Prelude.{map}
use Rattle.std.specs.String.{string_bytes}
use Rattle.c25_chain.specs.Modules as meant
use Rattle.c25_chain.specs.declared.modules.Modules.{Modules}

-- the modules of sources
abbrev pub modules_view : Modules → meant.Modules
modules_view m = record { modules = m.modules.items; listings = map string_bytes m.listings.items }
