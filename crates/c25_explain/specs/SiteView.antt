-- What a module does with a name, as clauses see it.
use Rattle.c25_explain.specs.Details.{Deed, Defines, Keeps, Uses}
use Rattle.c25_explain.specs.declared.named_sites.Deed as code
use Rattle.c25_explain.specs.declared.named_sites.Deed.TheVariants as deed

-- what a module does
abbrev pub deed_of : code.Deed → Deed
deed_of deed.Uses = Uses
deed_of deed.Defines = Defines
deed_of deed.Keeps = Keeps
