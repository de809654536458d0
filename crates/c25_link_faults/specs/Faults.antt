-- All faults of modules that are linked under a command: the first one, and those of names and ranges that do
-- not come from another fault.
use Rattle.std.specs.Prelude.{◌≡◌, ◌==◌, ◌&&◌, ℕ, Bool, not, List, [], ◌∷◌, ◌++◌, map, filter, Option, Some, None, if◌then◌else◌}
use Rattle.std.specs.List.{list_any}
use Rattle.std.specs.Str.{bytes_eq}
use Rattle.c25_meaning_common.specs.declared.placed.Placed.{Placed}
use Rattle.c25_meaning_linking.specs.Command.{CommandData, RangeData}
use Rattle.c25_meaning_linking.specs.GoodMap.{Request, is_among, is_usable, new_names, page_for, placings_for, ranges_for, requests}
use Rattle.c25_meaning_linking.specs.LinkFaults.{link_number}
use Rattle.c25_meaning_linking.specs.Linking.{ImageData, IsProgram, IsRefusal, Use, base_name, defined_names, is_unresolved, missing_entry, uses}
use Rattle.c25_meaning_linking.specs.Words.{definitions}
use Rattle.c25_meaning_linking.specs.declared.link_fault.LinkFault.{LinkFault}
use Rattle.c25_meaning_linking.specs.declared.link_fault.LinkFault.TheVariants.{DefinedTwice, NoEntry, NoRange, Unresolved}
use Rattle.c25_meaning_objects.specs.Module.{Contents}

-- ---- names: 71, 70, 76

-- the names that are also among the names before them
abbrev pub names_again : (before names : List (List ℕ)) → List (List ℕ)
names_again before [] = []
names_again before (name ∷ names) = if is_among name before then name ∷ names_again (name ∷ before) names else names_again (name ∷ before) names

-- the names that modules define more than once, each once, in the order of the second definitions
abbrev pub defined_twice : List Contents → List (List ℕ)
defined_twice modules = new_names [] (names_again [] (defined_names modules))

-- the name that a relocation counts from
abbrev pub used_name : Use → List ℕ
used_name u = base_name u.owner u.relocation.base

-- the names that relocations count from and no module defines, each once, in the order of first use
abbrev pub unresolved : List Contents → List (List ℕ)
unresolved modules = new_names [] (map used_name (filter (is_unresolved (definitions modules)) (uses modules)))

-- the name of the entry, if no module defines it
abbrev pub no_entry : List Contents → Option (List ℕ) → List (List ℕ)
no_entry modules entry = elim (missing_entry (definitions modules) entry) [ None ↦ [] | Some name ↦ name ∷ [] ]

-- ---- ranges: 72

-- whether no range is one that a section may be placed in
abbrev pub lacks_range : List RangeData → Request → Bool
lacks_range ranges r = not (list_any (is_usable r.target (page_for ranges r)) ranges)

-- the sections without a range, in the order of placement
abbrev pub without_range : List Contents → CommandData → List (List ℕ)
without_range modules command = map (λ r. r.name) (filter (lacks_range (ranges_for command)) (requests modules (placings_for command)))

-- ---- all faults

-- this fault at each name
abbrev pub each_with : LinkFault → List (List ℕ) → List (Placed (List ℕ) LinkFault)
each_with fault names = map (λ name. record { place = name; fault = fault }) names

-- the faults of names
abbrev pub name_faults : List Contents → Option (List ℕ) → List (Placed (List ℕ) LinkFault)
name_faults modules entry = each_with DefinedTwice (defined_twice modules) ++ each_with Unresolved (unresolved modules) ++ each_with NoEntry (no_entry modules entry)

-- the faults of names and ranges, none of which comes from another fault
abbrev pub independent : List Contents → CommandData → List (Placed (List ℕ) LinkFault)
independent modules command = name_faults modules command.entry ++ each_with NoRange (without_range modules command)

-- whether two faults have different numbers or names
abbrev pub is_other : Placed (List ℕ) LinkFault → Placed (List ℕ) LinkFault → Bool
is_other f g = not (link_number f.fault == link_number g.fault && bytes_eq f.place g.place)

-- all faults of modules under a command: none where they have a program, else the first one, and after it all
-- others of names and ranges
abbrev pub AreLinkFaults : List Contents → CommandData → List (Placed (List ℕ) LinkFault) → Type 0
AreLinkFaults modules command [] = (image : ImageData) × IsProgram modules command image
AreLinkFaults modules command (f ∷ faults) = IsRefusal modules command f × (faults ≡ filter (is_other f) (independent modules command))
