use Rattle.std.proofs.Common.{◌∙◌, List, Option, ap, map, string_bytes, subst, sym}
use Rattle.clap.specs.Words.{App, Row, Text, is_simple, subcommand_of, takes}
use Rattle.clap.specs.Faults.{fault_of, is_simple_and_free}
use Rattle.c25_options.specs.Complete.{IsFoundComplete}
use Rattle.c25_options.specs.Task.{IsAskedBy, ReadsFound}
use Rattle.c25_options.specs.Together.{found_error}
use Rattle.c25_options.proofs.Complete.{complete}
use Rattle.c25_options.proofs.Found.{reads, refuses, short}
use Rattle.c25_options.proofs.read.read_by.Goals as goal

pub found_task-requires : goal.found_task-requires
found_task-requires c =
    let is = c.requires in
    let words = map string_bytes c.args.arguments.now in
    let found = (c.in-Ok.ensures.matches (ap is_simple is)).1 ∙ ap (λ (a : App). subcommand_of a words) is in
    let none = ap (λ (a : App). fault_of a words) (sym is) ∙ c.in-Ok.ensures.kinds (ap is_simple_and_free is) in
    subst IsFoundComplete (sym found) (complete words none)

pub returns-in-Ok-clause-read : goal.returns-in-Ok-clause-read
returns-in-Ok-clause-read c =
    let is = c.requires in
    let words = map string_bytes c.args.arguments.now in
    let found = (c.in-Ok.ensures.matches (ap is_simple is)).1 ∙ ap (λ (a : App). subcommand_of a words) is in
    let none = ap (λ (a : App). fault_of a words) (sym is) ∙ c.in-Ok.ensures.kinds (ap is_simple_and_free is) in
    reads words _ none (subst (λ (o : Option (Text × List Row)). ReadsFound (found_error o) (IsAskedBy o) c.found_task.result) found c.found_task.ensures)

pub returns-in-Ok-clause-takes : goal.returns-in-Ok-clause-takes
returns-in-Ok-clause-takes c =
    let is = c.requires in
    let words = map string_bytes c.args.arguments.now in
    let found = (c.in-Ok.ensures.matches (ap is_simple is)).1 ∙ ap (λ (a : App). subcommand_of a words) is in
    λ taken none. short _ _ _ (ap found_error found ∙ none) c.found_task.ensures

pub returns-in-Err-clause-read : goal.returns-in-Err-clause-read
returns-in-Err-clause-read c =
    let is = c.requires in
    let words = map string_bytes c.args.arguments.now in
    refuses words c.in-Err.error _ (ap (λ (a : App). fault_of a words) is) (c.in-Err.ensures.kinds (ap is_simple_and_free is))

pub returns-in-Err-clause-takes : goal.returns-in-Err-clause-takes
returns-in-Err-clause-takes c =
    let is = c.requires in
    let words = map string_bytes c.args.arguments.now in
    λ taken none. c.in-Err.ensures.passes (ap (λ (a : App). takes a words) is ∙ taken)
