-- Where the items of a module stand, and the indexes of a section.
use Rattle.std.specs.Prelude.{ℕ, ℤ, pos, negsuc, ◌==◌, if◌then◌else◌, List, [], Option, Some, None}
use Rattle.std.specs.List.{slice_get}
use Rattle.std.specs.String.{string_bytes}
use Rattle.c25_meaning_objects.specs.declared.object.ModuleMark.{ModuleMark}
use Rattle.c25_meaning_objects.specs.declared.object.Relocation.{Relocation}
use Rattle.c25_module.specs.declared.parts.Symbol.{Symbol}
use Rattle.c25_dis.specs.Index.{IsIndexOf}
use Rattle.c25_dis.specs.Sections.{counts_from, label_line}
use Rattle.c25_dis.specs.declared.index.IndexEntry.{IndexEntry}
use Rattle.c25_dis.specs.declared.section.Places.{Places}

-- the place of an offset; there is none before the first word
abbrev pub offset_place : ℤ → Option ℕ
offset_place (pos n) = Some n
offset_place (negsuc n) = None

-- where a symbol stands in the section of a number, if it does
abbrev pub symbol_place : Symbol → ℕ → Option ℕ
symbol_place y section = if counts_from section y.kind then offset_place y.value else None

-- where an instruction stands in the section of a number, if it does
abbrev pub mark_place : ModuleMark → ℕ → Option ℕ
mark_place x section = if x.section == section then Some x.offset else None

-- where a relocated field stands in the section of a number, if it does
abbrev pub relocation_place : Relocation → ℕ → Option ℕ
relocation_place r section = if r.section == section then Some r.offset else None

-- each list of a module is indexed
pub record AreIndexed (p : Places) : Type 0 where
  pub symbols : IsIndexOf (λ y. symbol_place y p.section) p.parts.now.symbols.items p.symbols.items
  pub marks : IsIndexOf (λ x. mark_place x p.section) p.parts.now.marks.items p.marks.items
  pub relocations : IsIndexOf (λ r. relocation_place r p.section) p.parts.now.relocations.items p.relocations.items

-- the line of a symbol, if there is one
abbrev pub label_in : ℕ → Option Symbol → List ℕ
label_in place None = []
label_in place (Some y) = label_line place (string_bytes y.name)

-- the line of the symbol of a number
abbrev pub label_by : List Symbol → ℕ → IndexEntry → List ℕ
label_by symbols place x = label_in place (slice_get symbols x.number)
