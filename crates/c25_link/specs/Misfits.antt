-- What is reported of a field that does not take its value.
use Rattle.std.specs.Prelude.{◌≡◌, ℕ, ◌+◌, ◌==◌, ◌&&◌, ℤ, Bool, nat_le, nat_lt, List, find, Option, Result, Ok, Err, String, ◌⊎◌}
use Rattle.std.specs.List.{zip}
use Rattle.std.specs.Option.{option_map}
use Rattle.std.specs.declared.alloc.Global.{Global}
use Rattle.c25_meaning_linking.specs.Command.{CommandData}
use Rattle.c25_meaning_common.specs.declared.failure.Failure.{Failure}
use Rattle.c25_meaning_common.specs.declared.failure.Failure.TheVariants.{NoMemory, Fault}
use Rattle.c25_meaning_common.specs.declared.placed.Placed.{Placed}
use Rattle.c25_meaning_linking.specs.Linking.{IsRefusedPlace, Use, base_name, names_checked, spills, uses}
use Rattle.c25_meaning_linking.specs.Words.{file_name, relocated_value, section_base, section_name}
use Rattle.c25_meaning_objects.specs.Module.{Contents}
use Rattle.c25_meaning_objects.specs.declared.object.LineMark.{LineMark}
use Rattle.c25_meaning_objects.specs.declared.object.ModuleMark.{ModuleMark}
use Rattle.c25_meaning_objects.specs.declared.object.Relocation.{Relocation}
use Rattle.c25_meaning_objects.specs.declared.object.RelocationBase.{RelocationBase}
use Rattle.c25_meaning_linking.specs.GoodMap.{IsGoodMap}
use Rattle.c25_meaning_linking.specs.Place.{Place}
use Rattle.c25_meaning_linking.specs.declared.link_fault.LinkFault.{LinkFault}
use Rattle.c25_place.specs.View.{refusal_of}
use Rattle.c25_link.specs.declared.misfits.Misfit.{Misfit}
use Rattle.c25_meaning_common.specs.declared.placed.FileLine.{FileLine}
use denote.Ref.{Bor}

-- ---- the line of the instruction

-- whether the instruction of a mark has the word of a relocation
abbrev pub has_word : Relocation → ModuleMark → Bool
has_word r mark = mark.section == r.section && nat_le mark.offset r.offset && nat_lt r.offset (mark.offset + mark.size)

-- the file's name and the line's number, by the line's record in its module
abbrev pub line_in : Contents → LineMark → List ℕ × ℕ
line_in m told = (file_name m told.file, told.line)

-- the file and the line of the instruction that has the word of a relocation, where there is one that has a
-- line
abbrev pub instruction_line : Contents → Relocation → Option (List ℕ × ℕ)
instruction_line m r = option_map (λ told. line_in m told.1) (find (λ told. has_word r told.0) (zip m.marks m.lines))

-- ---- fields

-- a field: its module's number, its word's section and address as it is loaded, what it counts from and the name of that, the
-- addend, the value, and the line of its instruction
pub record MisfitData : Type 0 where
  pub number : ℕ
  pub section : List ℕ
  pub address : ℕ
  pub base : RelocationBase
  pub name : List ℕ
  pub addend : ℤ
  pub value : ℤ
  pub line : Option (List ℕ × ℕ)

-- the misfit of a relocation
abbrev pub misfit_of : List Contents → List Place → Use → MisfitData
misfit_of modules places u = record {
  number = u.number;
  section = section_name u.owner u.relocation.section;
  address = section_base modules places u.number u.owner u.relocation.section + u.relocation.offset;
  base = u.relocation.base;
  name = base_name u.owner u.relocation.base;
  addend = u.relocation.addend;
  value = relocated_value modules places u.number u.owner u.relocation;
  line = instruction_line u.owner u.relocation;
}

-- the first field that does not take its value
abbrev pub first_misfit : List Contents → List Place → Option MisfitData
first_misfit modules places = option_map (misfit_of modules places) (find (spills modules places) (uses modules))

-- ---- how the code has it

-- a line of a file, as clauses see it
abbrev pub line_of : FileLine (Bor (List ℕ)) → List ℕ × ℕ
line_of l = (l.file.now, l.line)

-- a misfit, as clauses see it
abbrev pub misfit_data : Misfit → MisfitData
misfit_data f = record {
  number = f.number;
  section = f.section.now;
  address = f.address;
  base = f.base;
  name = f.base_name.now;
  addend = f.addend;
  value = f.value;
  line = option_map line_of f.line;
}

-- the first field that does not take its value, or the fault that linking finds before it looks at fields
abbrev pub FindsMisfit : List Contents → CommandData → Result (Option Misfit) (Failure (Placed (String Global) LinkFault)) → Type 0
FindsMisfit modules command (Ok found) = (places : List Place) × (names_checked modules command.entry ≡ Ok tt) × IsGoodMap modules command places
    × (option_map misfit_data found ≡ first_misfit modules places)
FindsMisfit modules command (Err (NoMemory n)) = Unit {0}
FindsMisfit modules command (Err (Fault f)) = (names_checked modules command.entry ≡ Err (refusal_of f)) ⊎ IsRefusedPlace modules command (refusal_of f)
