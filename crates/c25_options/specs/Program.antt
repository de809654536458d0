-- The program as a command of `clap`, whose definitions `subcommand_of` and `fault_of` say how a command
-- reads its arguments.
use Rattle.std.specs.Prelude.{◌≡◌, ℕ, true, false, pos, List, [], ◌∷◌, ◌++◌, Some, codes}
use Rattle.clap.specs.Lexer.{usize_max}
use Rattle.clap.specs.Words.{App, Rule, Shape, Text, new_rule, shape_of}
use Rattle.clap.specs.Simple.{new_shape}
use Rattle.clap.specs.declared.builder.action.ArgAction.TheVariants.{Append, SetTrue}
use Rattle.clap.specs.declared.builder.command.Command.{Command}
use Rattle.clap.specs.declared.builder.command.Command.TheViews.{out-Command}
use Rattle.clap.specs.declared.builder.value_parser.ValueParser.TheVariants as parser

-- the flag `--name`
abbrev pub flag_rule : Text → Rule
flag_rule name = record (new_rule name) { long = Some name; action = Some SetTrue }

-- the flag `--interactive` or `-i`
abbrev pub interactive_rule : Rule
interactive_rule = record (flag_rule (codes "interactive")) { short = Some 105 }

-- the option `--name VALUE`
abbrev pub option_rule : Text → Rule
option_rule name = record (new_rule name) { long = Some name; value_names = 1 }

-- the required option `--name VALUE`
abbrev pub needed_rule : Text → Rule
needed_rule name = record (option_rule name) { required = true }

-- the required option `--name VALUE` or `-o VALUE`
abbrev pub output_rule : Text → Rule
output_rule name = record (needed_rule name) { short = Some 111 }

-- the option `--name VALUE` or `-o VALUE`, which may be left out
abbrev pub optional_output_rule : Text → Rule
optional_output_rule name = record (option_rule name) { short = Some 111 }

-- the option `--name VALUE` or `-l VALUE`, for the letter l; it may be given several times
abbrev pub repeated_rule : Text → ℕ → Rule
repeated_rule name letter = record (option_rule name) { short = Some letter; action = Some Append }

-- the option `--steps N`, N from 0 to 4,294,967,295
abbrev pub steps_rule : Rule
steps_rule = record (option_rule (codes "steps")) { parser = Some (parser.Signed (pos 0) (pos 4294967295)) }

-- the option `--blank N`, N from 0 to 4,294,967,295
abbrev pub blank_rule : Rule
blank_rule = record (option_rule (codes "blank")) { parser = Some (parser.Signed (pos 0) (pos 4294967295)) }

-- one operand, which may be left out
abbrev pub optional_rule : Text → Rule
optional_rule name = record (new_rule name) { value_names = 1 }

-- one required operand
abbrev pub operand_rule : Text → Rule
operand_rule name = record (optional_rule name) { required = true }

-- one operand or more
abbrev pub operands_rule : Text → Rule
operands_rule name = record (operand_rule name) { range = Some (record { start_inclusive = 1; end_inclusive = usize_max }) }

-- operands, which may be left out
abbrev pub optional_operands_rule : Text → Rule
optional_operands_rule name = record (optional_rule name) { range = Some (record { start_inclusive = 1; end_inclusive = usize_max }) }

-- a subcommand of this name with these arguments
abbrev pub shape_with : Text → List Rule → Shape
shape_with name rules = record (new_shape name) { rules = rules }

-- a subcommand with one more argument after its others
abbrev pub added : Shape → Rule → Shape
added shape rule = record shape { rules = shape.rules ++ rule ∷ [] }

-- .. [--explain]
abbrev pub with_explain : Shape → Shape
with_explain shape = added shape (flag_rule (codes "explain"))

-- .. [--explain] [--all]
abbrev pub with_fault_options : Shape → Shape
with_fault_options shape = added (with_explain shape) (flag_rule (codes "all"))

-- .. SOURCE..
abbrev pub with_sources : Shape → Shape
with_sources shape = added shape (operands_rule (codes "source"))

-- .. [SOURCE..]
abbrev pub with_optional_sources : Shape → Shape
with_optional_sources shape = added shape (optional_operands_rule (codes "source"))

-- .. [--command F] [--samples F] [--schedule F]
abbrev pub with_run_files : Shape → Shape
with_run_files shape = added (added (added shape (option_rule (codes "command"))) (option_rule (codes "samples"))) (option_rule (codes "schedule"))

-- .. [--regs] [--when] [--counts F] [--counts-list F]
abbrev pub with_run_results : Shape → Shape
with_run_results shape = added (added (added (added shape (flag_rule (codes "regs"))) (flag_rule (codes "when"))) (option_rule (codes "counts"))) (option_rule (codes "counts-list"))

-- .. [-D NAME[=VALUE]].. [-I FOLDER]..
abbrev pub with_source_options : Shape → Shape
with_source_options shape = added (added shape (repeated_rule (codes "define") 68)) (repeated_rule (codes "include") 73)

-- .. [--rom SIZE] [--fill WORD]
abbrev pub with_rom_options : Shape → Shape
with_rom_options shape = added (added shape (option_rule (codes "rom"))) (option_rule (codes "fill"))

-- .. [--high F] [--low F] [--binary] [--low-first] [--blank N] [--hints F]
abbrev pub with_image_options : Shape → Shape
with_image_options shape = added (added (added (added (added (added shape (option_rule (codes "high"))) (option_rule (codes "low"))) (flag_rule (codes "binary"))) (flag_rule (codes "low-first"))) blank_rule) (option_rule (codes "hints"))

-- .. [--image F] and the options of an image
abbrev pub with_image : Shape → Shape
with_image shape = with_image_options (added shape (option_rule (codes "image")))

-- .. [--style STYLE] [--long-order ORDER] [--from CODEPAGE] [--ignore-case]
abbrev pub with_old_options : Shape → Shape
with_old_options shape =
    added (added (added (added shape (option_rule (codes "style"))) (option_rule (codes "long-order"))) (option_rule (codes "from"))) (flag_rule (codes "ignore-case"))

-- asm SOURCE --obj F [--list F] [-D NAME[=VALUE]].. [-I FOLDER].. [--explain] [--all]; here and below `-o` may be written for `--obj` and for `--out`
abbrev pub asm_shape : Shape
asm_shape = with_fault_options (with_source_options (shape_with (codes "asm") (operand_rule (codes "source") ∷ output_rule (codes "obj") ∷ option_rule (codes "list") ∷ [])))

-- link COMMAND OBJECT.. --out B [--explain] [--all]
abbrev pub link_shape : Shape
link_shape = with_fault_options (shape_with (codes "link") (operand_rule (codes "command") ∷ operands_rule (codes "object") ∷ output_rule (codes "out") ∷ []))

-- build SOURCE.. --out B [--command F] [--symbols F] [--rom SIZE] [--fill WORD] [-D NAME[=VALUE]].. [-I FOLDER].. [--explain] [--all]
abbrev pub build_shape : Shape
build_shape = with_fault_options (with_source_options (with_rom_options (shape_with (codes "build") (operands_rule (codes "source") ∷ output_rule (codes "out") ∷ option_rule (codes "command") ∷ option_rule (codes "symbols") ∷ []))))

-- run [SOURCE..] [--steps N] [--regs] [--when] [--counts F] [--counts-list F] [--command F] [--samples F] [--schedule F] [--image F] and the
-- options of an image [-D NAME[=VALUE]].. [-I FOLDER].. [--explain] [--all]
abbrev pub run_shape : Shape
run_shape = with_fault_options (with_source_options (with_image (with_run_files (with_run_results (shape_with (codes "run") (optional_operands_rule (codes "source") ∷ steps_rule ∷ []))))))

-- debug [SOURCE..] [--script F] [--interactive] [--command F] [--samples F] [--schedule F] [--image F] and the options of an image
-- [-D NAME[=VALUE]].. [-I FOLDER].. [--explain] [--all]; here `-i` may be written for `--interactive`
abbrev pub debug_shape : Shape
debug_shape = with_fault_options (with_source_options (with_image (with_run_files (shape_with (codes "debug") (optional_operands_rule (codes "source") ∷ option_rule (codes "script") ∷ interactive_rule ∷ [])))))

-- explain [WORD]
abbrev pub explain_shape : Shape
explain_shape = shape_with (codes "explain") (optional_rule (codes "fault") ∷ [])

-- dis [FILE] [--from ADDRESS] [--source] [--high F] [--low F] [--binary] [--low-first] [--blank N] [--hints F] [--out B] [--explain]
abbrev pub dis_shape : Shape
dis_shape = with_explain (added (with_image_options (shape_with (codes "dis") (optional_rule (codes "file") ∷ option_rule (codes "from") ∷ flag_rule (codes "source") ∷ []))) (optional_output_rule (codes "out")))

-- check SOURCE.. [--command F] [--pages] [-D NAME[=VALUE]].. [-I FOLDER].. [--explain] [--all]
abbrev pub check_shape : Shape
check_shape = with_fault_options (with_source_options (shape_with (codes "check") (operands_rule (codes "source") ∷ option_rule (codes "command") ∷ flag_rule (codes "pages") ∷ [])))

-- move OLD.. --out FOLDER [--command F] [--style STYLE] [--long-order ORDER] [--from CODEPAGE] [--ignore-case] [--hex F] [--quiet]
abbrev pub move_shape : Shape
move_shape =
    added (added (with_old_options (shape_with (codes "move") (operands_rule (codes "source") ∷ output_rule (codes "out") ∷ option_rule (codes "command") ∷ [])))
    (option_rule (codes "hex"))) (flag_rule (codes "quiet"))

-- the program before it has its subcommands: it has a version, a subcommand is required, and there is no
-- subcommand `help`
abbrev pub bare_program : App
bare_program = record {
  top = record (new_shape (codes "c25")) { has_version = true; subcommand_required = true; disable_help_subcommand = true };
  subs = [];
}

-- the program with all its subcommands
abbrev pub program : App
program = record {
  top = record bare_program.top { is_leaf = false };
  subs = asm_shape ∷ link_shape ∷ build_shape ∷ run_shape ∷ debug_shape ∷ explain_shape ∷ dis_shape ∷ check_shape ∷ move_shape ∷ [];
}

-- the command is a subcommand of this shape
pub record IsSubcommand (shape : Shape) (command : Command) : Type 0 where
  pub is : shape_of command ≡ shape
  pub local : (out-Command command).has_globals ≡ false
