-- The expansion that an expander stands for.
use Rattle.c25_macro.specs.Expander.{Expansion}
use Rattle.c25_macro.specs.Stages.{stage_of}
use Rattle.c25_macro.specs.declared.expander.Expander.{Expander}

-- an expander stands for the expansion of its module, as far as it has come
abbrev pub expansion_of : Expander → Expansion
expansion_of e = record { files = e.files.now; name = e.name.now; stage = stage_of e.files.now e.name.now e.stage }
