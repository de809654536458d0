-- The statements of sources by their sheets are those by the values of their operands.
use Rattle.std.proofs.Common.{◌≡◌, ℕ, ◌+◌, List, [], ◌∷◌, ◌++◌, length, map, Result, Ok, Err, refl, sym, ap, ◌∙◌, subst}
use Rattle.std.specs.List.{AllByRecursion, flat_map}
use Rattle.std.proofs.lemmas.List.{map-append}
use Rattle.c25_meaning_assembly.specs.Addresses.{OperandValues, relocations_of, operand_values, words_of}
use Rattle.c25_meaning_assembly.specs.Emission.{all_names, finished, module_with, names_with, symbol_of, table_at}
use Rattle.c25_meaning_language.specs.ExpansionFault.{ExpansionFault}
use Rattle.c25_meaning_expansion.specs.ExpansionRuns.{start_of}
use Rattle.c25_meaning_expansion.specs.Files.{Files}
use Rattle.c25_meaning_assembly.specs.InstructionStatements.{instructions_of}
use Rattle.c25_meaning_objects.specs.Module.{Contents}
use Rattle.c25_meaning_assembly.specs.ModuleOfSource.{Assembled, LinesSoFar, assembled, completed, passed_from}
use Rattle.c25_meaning_linking.specs.Place.{Place}
use Rattle.c25_meaning_common.specs.Results.{◌>>=◌}
use Rattle.c25_meaning_assembly.specs.Sections.{Content, Definitions, Exported, PendingItem, Operands, Progress, Words, Zeros}
use Rattle.c25_meaning_language.specs.Statement.{insn_of}
use Rattle.c25_meaning_language.specs.Tree.{Tree}
use Rattle.c25_meaning_linking.specs.Words.{section_base, section_name, section_page, section_run, section_runs_elsewhere}
use Rattle.c25_meaning_assembly.specs.declared.assembly.Target.TheVariants as target
use Rattle.c25_meaning_language.specs.declared.statement.FaultKind.{FaultKind}
use Rattle.c25_meaning_language.specs.declared.statement.Form.{Form}
use Rattle.c25_module_laws.proofs.Emitted.{Give, Made, filled_from, made_by}
use Rattle.c25_module_laws.proofs.Kept.{IsInside}
use Rattle.c25_module_laws.proofs.KeptLines.{IsMade, source_made}
use Rattle.c25_module_laws.proofs.ModulesOfSources.{finished_is}
use Rattle.c25_module_laws.proofs.ResultSteps.{bound}
use Rattle.c25_module_laws.proofs.Spoken.{IsSymbol}
use Rattle.c25_laws.proofs.StatementItems.{all_said, said_by, said_in, with_operands}
use Rattle.c25_module_laws.proofs.Valued.{IsGoodValue}
use Rattle.c25_laws.specs.ModuleStatements.{instructions_in}
use Rattle.c25_laws.proofs.NamesUnder.{name_kind, name_means}
use Rattle.c25_laws.proofs.ValuesFilled.{sheet_comes}
use Rattle.c25_laws.proofs.SheetStatements as sheets
use Rattle.c25_laws.proofs.SheetStatements.{module_statements, operand_numbers, placed_statement, sheet_statements, statements_by, statements_in}
use Rattle.c25_laws.specs.ProgramStatements.{AreModulesOf, all_statements, item_statements, line_statements, lines_in, numbers_under, statements_from, without_fault}

-- ---- items

module _ (modules : List Contents) (places : List Place) (number : ℕ) (m : Contents) (n : ℕ) (names : Definitions) (declared exported : List (List ℕ))
    (symbols : m.symbols ≡ map (symbol_of exported) (names_with names declared)) (good : AllByRecursion (λ e. IsSymbol e.0 × IsGoodValue (IsInside n) e.1) names) where
  -- the numbers of a statement's operands under the map
  pub numbers_are : (i : PendingItem) (f : Form) (trees : List Tree) (s : OperandValues) → operand_values (target.Instruction f) (table_at (names_with names declared) i.section i.offset) trees ≡ Ok s
      → operand_numbers modules places number m (record { section = i.section; offset = i.offset; form = f; sheet = s }) ≡ numbers_under modules places number m names i.section i.offset (target.Instruction f) trees
  numbers_are i f trees s is =
      sheet_comes modules places number m names (names_with names declared) i.section i.offset (target.Instruction f)
      (name_means modules places number m n names declared exported symbols good) (name_kind modules places number m n names declared exported symbols good) trees s is

  one_item : (i : PendingItem) (c : Content) (made : Made) → made_by (names_with names declared) i c ≡ Ok made
      → item_statements modules places number m names i c ≡ module_statements modules places number m (said_by (names_with names declared) i c)
  one_item i (Operands (target.Instruction f) trees) made e = on (operand_values (target.Instruction f) (table_at (names_with names declared) i.section i.offset) trees) refl e
    where
      on : (r : Result OperandValues FaultKind) → operand_values (target.Instruction f) (table_at (names_with names declared) i.section i.offset) trees ≡ r
          → (r >>= λ s. Ok (record { section = i.section; offset = i.offset; words = words_of (target.Instruction f) s.numbers; relocations = relocations_of (target.Instruction f) i.section i.offset s.addresses })) ≡ Ok made
          → item_statements modules places number m names i (Operands (target.Instruction f) trees) ≡ module_statements modules places number m (with_operands i f r)
      on (Ok s) is e =
          ap (λ ns. record {
            section = section_name m i.section;
            page = section_page places m i.section;
            load = section_base modules places number m i.section + i.offset;
            run = section_run modules places number m i.section + i.offset;
            elsewhere = section_runs_elsewhere places m i.section;
            insn = insn_of f ns;
          } ∷ []) (sym (numbers_are i f trees s is))
      on (Err f) is e = absurd (cc)
  one_item i (Operands (target.Data w) trees) made e = refl
  one_item i (Words words) made e = refl
  one_item i (Zeros count) made e = refl
  one_item i (Exported exported) made e = refl

  pub items_say : (is : List PendingItem) (ms : List Made) → Give (names_with names declared) is ms
      → flat_map (λ i. item_statements modules places number m names i i.content) is ≡ module_statements modules places number m (said_in (names_with names declared) is)
  items_say [] [] give = refl
  items_say [] (x ∷ ms) give = absurd give
  items_say (i ∷ is) [] give = absurd give
  items_say (i ∷ is) (x ∷ ms) give =
      (λ j. one_item i i.content x give.0 j ++ items_say is ms give.1 j)
      ∙ sym (map-append (placed_statement modules places number m) (said_by (names_with names declared) i i.content) (said_in (names_with names declared) is))

-- ---- sources

-- what a module was made of
pub record ComesFrom (files : Files) (name : List ℕ) (m : Contents) : Type 0 where
  pub progress : Progress
  pub made : List Made
  pub lines_are : lines_in files name ≡ progress
  pub kept : IsMade progress
  pub give : Give (all_names progress) progress.items made
  pub module_is : m ≡ module_with (filled_from 0 progress.sections made) (all_names progress) progress.exported
  pub statements : statements_in files name ≡ said_in (all_names progress) progress.items

pub comes_from : (files : Files) (name : List ℕ) (a : Assembled) → assembled files name ≡ Ok a → ComesFrom files name a.contents
unfolding assembled
comes_from files name a e =
    let b = bound (passed_from files name (start_of files name)) (λ b. completed b) a e in
    let p = (b.0).progress in
    let c = bound (finished p) (λ m. Ok (record { contents = m; entries = (b.0).entries })) a b.2 in
    let out : Assembled = record { contents = c.0; entries = (b.0).entries } in
    let same : out ≡ a = let last = c.2 in cc in
    let f = finished_is p c.0 c.1 in
    let lines : instructions_in files name ≡ Ok (said_in (all_names p) p.items) =
    ap (λ (r : Result LinesSoFar ExpansionFault). r >>= λ (x : LinesSoFar). instructions_of x.progress) b.1 ∙ all_said (all_names p) p.items f.0 [] (f.1).give in
    record {
      progress = p;
      made = f.0;
      lines_are = ap (λ (r : Result LinesSoFar ExpansionFault). without_fault (r >>= λ (x : LinesSoFar). Ok x.progress)) b.1;
      kept = source_made files name (start_of files name) b.0 b.1;
      give = (f.1).give;
      module_is = sym (ap (λ (x : Assembled). x.contents) same) ∙ (f.1).module_is;
      statements = ap sheets.without_fault lines;
    }

module _ (modules : List Contents) (places : List Place) (files : Files) where
  pub source_says : (number : ℕ) (name : List ℕ) (m : Contents) → ComesFrom files name m → line_statements modules places number m (lines_in files name) ≡ module_statements modules places number m (statements_in files name)
  source_says number name m h =
      let p = h.progress in
      ap (line_statements modules places number m) h.lines_are
      ∙ items_say modules places number m (length p.sections) p.names p.declared p.exported (ap (λ (m : Contents). m.symbols) h.module_is) ((h.kept).kept).names.symbols p.items h.made h.give
      ∙ ap (module_statements modules places number m) (sym h.statements)

  sources_say : (number : ℕ) (names : List (List ℕ)) (ms : List Contents) → AreModulesOf files names ms
      → statements_from modules places number ms (map (lines_in files) names) ≡ statements_by modules places number ms (map (statements_in files) names)
  sources_say number [] [] h = refl
  sources_say number [] (m ∷ ms) h = absurd h
  sources_say number (name ∷ names) [] h = absurd h
  sources_say number (name ∷ names) (m ∷ ms) h =
      let a = h.0 in
      let from : ComesFrom files name m = subst (ComesFrom files name) a.2 (comes_from files name a.0 a.1) in
      λ j. source_says number name m from j ++ sources_say (number + 1) names ms h.1 j

-- the statements by the values of their operands are those by sheets
pub statements_are : (files : Files) (names : List (List ℕ)) (modules : List Contents) (places : List Place) → AreModulesOf files names modules
    → all_statements files names modules places ≡ sheet_statements files names modules places
statements_are files names modules places h = sources_say modules places files 0 names modules h
