-- Words without a fault name a subcommand, and have what it must have.
use Rattle.std.proofs.Common.{◌≡◌, ◌&&◌, ◌||◌, ℕ, Bool, cond, codes, true, false, not, refl, sym, ap, subst, arith, drop, length, map, List, [], ◌∷◌, Option, Some, None, is_some, unwrap_or, true≢false}
use Rattle.std.specs.List.{AllByRecursion, find, list_all, list_any, slice_index_or}
use Rattle.std.specs.Option.{option_map, option_map_or}
use Rattle.clap.specs.Walk.{Row, Rule, Text, answers_to, finished, nothing_held, rows_after, settled, walk, walk_from}
use Rattle.clap.specs.Simple.{Shape, built, entered, help_shape, label_of, names_of, rows_at, subcommand_of}
use Rattle.clap.specs.Facts.{parser_of_value}
use Rattle.clap.specs.Faults.{check_fault, defaults_fault, entered_fault, fault_of, level_fault, settle_fault, walk_fault}
use Rattle.clap.specs.Takes.{is_given}
use Rattle.clap.specs.declared.builder.value_parser.ValueParser.{ValueParser}
use Rattle.clap.specs.declared.error.kind.ErrorKind.TheVariants as kind
use Rattle.c25_options.specs.Complete.{IsComplete, IsFoundComplete}
use Rattle.c25_options.specs.Program.{program}
use Rattle.c25_options.proofs.Rows.{AreFine, IsSound, all_sound, default_fine, flag_fine, given_there, is_sound, number_fine, parser_in, use_fine}
use Rattle.c25_options.proofs.Walks.{KeepsDefault, level_keeps, none_of_both}

-- what holds of each holds of the one that is found
found_each : {X : Type 0} (P : X → Type 0) (p : X → Bool) (xs : List X) (x : X) → AllByRecursion P xs → find p xs ≡ Some x → P x
found_each P p [] x each e = absurd (true≢false (sym (ap is_some e)))
found_each P p (y ∷ ys) x each e = go (p y) (found_each P p ys x each.1) e
  where
    go : (b : Bool) → (find p ys ≡ Some x → P x) → cond b (Some y) (find p ys) ≡ Some x → P x
    go true rest e = subst P (ap (λ o. unwrap_or o y) e) each.0
    go false rest e = rest e

-- ---- one subcommand

abbrev IsNeededThere : List Row → Rule → Type 0
IsNeededThere rows a = a.required ≡ true → is_given a.id rows ≡ true

-- where no argument is missing, each that must be there was given
none_missing : (rows : List Row) (rules : List Rule) → list_any (λ a. a.required && not (is_given a.id rows)) rules ≡ false → AllByRecursion (IsNeededThere rows) rules
none_missing rows [] e = tt
none_missing rows (a ∷ rules) e = (first a.required (is_given a.id rows) e, none_missing rows rules (second (a.required && not (is_given a.id rows)) _ e))
  where
    second : (b c : Bool) → (b || c) ≡ false → c ≡ false
    second true c e = absurd (true≢false e)
    second false c e = e

    first : (needed given : Bool) → ((needed && not given) || list_any (λ a. a.required && not (is_given a.id rows)) rules) ≡ false → needed ≡ true → given ≡ true
    first needed true e is = refl
    first true false e is = absurd (true≢false e)
    first false false e is = is

-- the last checks find no argument missing
check_passes : (b : Bool) → cond b (kind.MissingRequiredArgument ∷ []) [] ≡ [] → b ≡ false
check_passes false e = refl
check_passes true e =
    let none : length (kind.MissingRequiredArgument ∷ []) ≡ 0 = ap length e in
    absurd (omega arith)

abbrev parser_at : Shape → Text → ValueParser
parser_at s = parser_in s.rules

-- a subcommand that has no fault has fine rows, where its arguments are sound
fine_rows : (s : Shape) → list_all (is_sound (parser_at s)) s.rules ≡ true → map (λ a. parser_of_value a.parser) s.rules ≡ map (λ a. parser_at s a.id) s.rules
    → (words : List Text) → level_fault s [] nothing_held words false [] ≡ []
    → AreFine (parser_at s) (rows_after s.rules [] words) × (check_fault s (rows_after s.rules [] words) false ≡ [])
fine_rows s test own words e =
    let sound = all_sound (parser_at s) s.rules test own in
    level_keeps s (AreFine (parser_at s))
    (λ p a is values rows e fine. use_fine (parser_at s) s.args_override_self a (found_each (IsSound (parser_at s)) p s.rules a sound is) values rows e fine)
    words (defaults_fine s.rules sound) e tt
  where
    defaults_fine : (rules : List Rule) → AllByRecursion (IsSound (parser_at s)) rules → AllByRecursion (KeepsDefault (AreFine (parser_at s))) rules
    defaults_fine [] each = tt
    defaults_fine (a ∷ rules) each = (default_fine (parser_at s) a each.0, defaults_fine rules each.1)

-- ---- the subcommands

abbrev IsEach : Shape → Type 0
IsEach s = (words : List Text) → level_fault s [] nothing_held words false [] ≡ [] → IsComplete s.name (rows_after s.rules [] words)

abbrev sub : ℕ → Shape
sub k = slice_index_or (built program).subs k help_shape

asm_each : IsEach (sub 0)
asm_each words e =
    let kept = fine_rows (sub 0) refl refl words e in
    let rows = rows_after (sub 0).rules [] words in
    let found = none_missing rows (sub 0).rules (check_passes _ kept.1) in
    record {
      named = refl;
      asm = λ is. (given_there (parser_at (sub 0)) (codes "source") rows kept.0 (found.0 refl), given_there (parser_at (sub 0)) (codes "obj") rows kept.0 (found.1.0 refl), flag_fine (parser_at (sub 0)) (codes "explain") refl rows kept.0, flag_fine (parser_at (sub 0)) (codes "all") refl rows kept.0);
      link = λ is. absurd (true≢false (sym is));
      build = λ is. absurd (true≢false (sym is));
      run = λ is. absurd (true≢false (sym is));
      debug = λ is. absurd (true≢false (sym is));
      dis = λ is. absurd (true≢false (sym is));
      check = λ is. absurd (true≢false (sym is));
      moving = λ is. absurd (true≢false (sym is));
    }

link_each : IsEach (sub 1)
link_each words e =
    let kept = fine_rows (sub 1) refl refl words e in
    let rows = rows_after (sub 1).rules [] words in
    let found = none_missing rows (sub 1).rules (check_passes _ kept.1) in
    record {
      named = refl;
      asm = λ is. absurd (true≢false (sym is));
      link = λ is. (given_there (parser_at (sub 1)) (codes "command") rows kept.0 (found.0 refl), given_there (parser_at (sub 1)) (codes "object") rows kept.0 (found.1.0 refl), given_there (parser_at (sub 1)) (codes "out") rows kept.0 (found.1.1.0 refl), flag_fine (parser_at (sub 1)) (codes "explain") refl rows kept.0, flag_fine (parser_at (sub 1)) (codes "all") refl rows kept.0);
      build = λ is. absurd (true≢false (sym is));
      run = λ is. absurd (true≢false (sym is));
      debug = λ is. absurd (true≢false (sym is));
      dis = λ is. absurd (true≢false (sym is));
      check = λ is. absurd (true≢false (sym is));
      moving = λ is. absurd (true≢false (sym is));
    }

build_each : IsEach (sub 2)
build_each words e =
    let kept = fine_rows (sub 2) refl refl words e in
    let rows = rows_after (sub 2).rules [] words in
    let found = none_missing rows (sub 2).rules (check_passes _ kept.1) in
    record {
      named = refl;
      asm = λ is. absurd (true≢false (sym is));
      link = λ is. absurd (true≢false (sym is));
      build = λ is. (given_there (parser_at (sub 2)) (codes "source") rows kept.0 (found.0 refl), given_there (parser_at (sub 2)) (codes "out") rows kept.0 (found.1.0 refl), flag_fine (parser_at (sub 2)) (codes "explain") refl rows kept.0, flag_fine (parser_at (sub 2)) (codes "all") refl rows kept.0);
      run = λ is. absurd (true≢false (sym is));
      debug = λ is. absurd (true≢false (sym is));
      dis = λ is. absurd (true≢false (sym is));
      check = λ is. absurd (true≢false (sym is));
      moving = λ is. absurd (true≢false (sym is));
    }

run_each : IsEach (sub 3)
run_each words e =
    let kept = fine_rows (sub 3) refl refl words e in
    let rows = rows_after (sub 3).rules [] words in
    record {
      named = refl;
      asm = λ is. absurd (true≢false (sym is));
      link = λ is. absurd (true≢false (sym is));
      build = λ is. absurd (true≢false (sym is));
      run = λ is. ((flag_fine (parser_at (sub 3)) (codes "binary") refl rows kept.0, flag_fine (parser_at (sub 3)) (codes "low-first") refl rows kept.0, number_fine (parser_at (sub 3)) (codes "blank") 4294967295 32 refl (omega arith) rows kept.0), number_fine (parser_at (sub 3)) (codes "steps") 4294967295 32 refl (omega arith) rows kept.0, flag_fine (parser_at (sub 3)) (codes "regs") refl rows kept.0, flag_fine (parser_at (sub 3)) (codes "when") refl rows kept.0, flag_fine (parser_at (sub 3)) (codes "explain") refl rows kept.0, flag_fine (parser_at (sub 3)) (codes "all") refl rows kept.0);
      debug = λ is. absurd (true≢false (sym is));
      dis = λ is. absurd (true≢false (sym is));
      check = λ is. absurd (true≢false (sym is));
      moving = λ is. absurd (true≢false (sym is));
    }

debug_each : IsEach (sub 4)
debug_each words e =
    let kept = fine_rows (sub 4) refl refl words e in
    let rows = rows_after (sub 4).rules [] words in
    record {
      named = refl;
      asm = λ is. absurd (true≢false (sym is));
      link = λ is. absurd (true≢false (sym is));
      build = λ is. absurd (true≢false (sym is));
      run = λ is. absurd (true≢false (sym is));
      debug = λ is. ((flag_fine (parser_at (sub 4)) (codes "binary") refl rows kept.0, flag_fine (parser_at (sub 4)) (codes "low-first") refl rows kept.0, number_fine (parser_at (sub 4)) (codes "blank") 4294967295 32 refl (omega arith) rows kept.0), flag_fine (parser_at (sub 4)) (codes "interactive") refl rows kept.0, flag_fine (parser_at (sub 4)) (codes "explain") refl rows kept.0, flag_fine (parser_at (sub 4)) (codes "all") refl rows kept.0);
      dis = λ is. absurd (true≢false (sym is));
      check = λ is. absurd (true≢false (sym is));
      moving = λ is. absurd (true≢false (sym is));
    }

explain_each : IsEach (sub 5)
explain_each words e =
    record {
      named = refl;
      asm = λ is. absurd (true≢false (sym is));
      link = λ is. absurd (true≢false (sym is));
      build = λ is. absurd (true≢false (sym is));
      run = λ is. absurd (true≢false (sym is));
      debug = λ is. absurd (true≢false (sym is));
      dis = λ is. absurd (true≢false (sym is));
      check = λ is. absurd (true≢false (sym is));
      moving = λ is. absurd (true≢false (sym is));
    }

dis_each : IsEach (sub 6)
dis_each words e =
    let kept = fine_rows (sub 6) refl refl words e in
    let rows = rows_after (sub 6).rules [] words in
    record {
      named = refl;
      asm = λ is. absurd (true≢false (sym is));
      link = λ is. absurd (true≢false (sym is));
      build = λ is. absurd (true≢false (sym is));
      run = λ is. absurd (true≢false (sym is));
      debug = λ is. absurd (true≢false (sym is));
      dis = λ is. (flag_fine (parser_at (sub 6)) (codes "source") refl rows kept.0, flag_fine (parser_at (sub 6)) (codes "binary") refl rows kept.0, flag_fine (parser_at (sub 6)) (codes "low-first") refl rows kept.0, number_fine (parser_at (sub 6)) (codes "blank") 4294967295 32 refl (omega arith) rows kept.0, flag_fine (parser_at (sub 6)) (codes "explain") refl rows kept.0);
      check = λ is. absurd (true≢false (sym is));
      moving = λ is. absurd (true≢false (sym is));
    }

check_each : IsEach (sub 7)
check_each words e =
    let kept = fine_rows (sub 7) refl refl words e in
    let rows = rows_after (sub 7).rules [] words in
    let found = none_missing rows (sub 7).rules (check_passes _ kept.1) in
    record {
      named = refl;
      asm = λ is. absurd (true≢false (sym is));
      link = λ is. absurd (true≢false (sym is));
      build = λ is. absurd (true≢false (sym is));
      run = λ is. absurd (true≢false (sym is));
      debug = λ is. absurd (true≢false (sym is));
      dis = λ is. absurd (true≢false (sym is));
      check = λ is. (given_there (parser_at (sub 7)) (codes "source") rows kept.0 (found.0 refl), flag_fine (parser_at (sub 7)) (codes "pages") refl rows kept.0, flag_fine (parser_at (sub 7)) (codes "explain") refl rows kept.0, flag_fine (parser_at (sub 7)) (codes "all") refl rows kept.0);
      moving = λ is. absurd (true≢false (sym is));
    }

move_each : IsEach (sub 8)
move_each words e =
    let kept = fine_rows (sub 8) refl refl words e in
    let rows = rows_after (sub 8).rules [] words in
    let found = none_missing rows (sub 8).rules (check_passes _ kept.1) in
    record {
      named = refl;
      asm = λ is. absurd (true≢false (sym is));
      link = λ is. absurd (true≢false (sym is));
      build = λ is. absurd (true≢false (sym is));
      run = λ is. absurd (true≢false (sym is));
      debug = λ is. absurd (true≢false (sym is));
      dis = λ is. absurd (true≢false (sym is));
      check = λ is. absurd (true≢false (sym is));
      moving = λ is. (given_there (parser_at (sub 8)) (codes "source") rows kept.0 (found.0 refl), given_there (parser_at (sub 8)) (codes "out") rows kept.0 (found.1.0 refl), flag_fine (parser_at (sub 8)) (codes "ignore-case") refl rows kept.0, flag_fine (parser_at (sub 8)) (codes "quiet") refl rows kept.0);
    }

-- ---- the program

-- a subcommand is there, where the last checks pass
has_subcommand : (rows : List Row) (has : Bool) → check_fault (built program).top rows has ≡ [] → has ≡ true
has_subcommand rows true e = refl
has_subcommand rows false e =
    let none : length (kind.MissingSubcommand ∷ []) ≡ 0 = ap length e in
    absurd (omega arith)

entered_complete : (o : Option (Text × List Text)) → entered_fault (built program) o ≡ [] → is_some (entered (built program) o) ≡ true → IsFoundComplete (entered (built program) o)
entered_complete None e has = absurd (true≢false (sym has))
entered_complete (Some p) e has = go (find (λ s. answers_to p.0 (label_of s)) (built program).subs) refl e has
  where
    go : (o : Option Shape) → find (λ s. answers_to p.0 (label_of s)) (built program).subs ≡ o → option_map_or (λ s. level_fault s [] nothing_held p.1 false []) o [] ≡ []
        → is_some (option_map (λ s. rows_at s p.1) o) ≡ true → IsFoundComplete (option_map (λ s. rows_at s p.1) o)
    go None is e has = absurd (true≢false (sym has))
    go (Some s) is e has =
        found_each IsEach (λ s. answers_to p.0 (label_of s)) (built program).subs s (asm_each, (link_each, (build_each, (run_each, (debug_each, (explain_each, (dis_each, (check_each, (move_each, tt))))))))) is p.1 e

pub complete : (words : List Text) → fault_of program words ≡ [] → IsFoundComplete (subcommand_of program words)
complete words e =
    let top = (built program).top in
    let end = walk top.rules (names_of (built program)) nothing_held (drop 1 words) in
    let after_walk = none_of_both (walk_fault top (names_of (built program)) (walk_from nothing_held) (drop 1 words)) _ e in
    let below = none_of_both (entered_fault (built program) end.stopped) _ after_walk.1 in
    let settling = none_of_both (settle_fault top.rules top.args_override_self end.held) _ below.1 in
    let defaults = none_of_both (defaults_fault (settled top.rules end.held).rows top.rules) _ settling.1 in
    entered_complete end.stopped below.0 (has_subcommand (finished top.rules end.held) (is_some (entered (built program) end.stopped)) defaults.1)
