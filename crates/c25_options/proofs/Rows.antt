-- Rows in which each argument that was used has a value, and all values are what the parser of their argument takes.
use Rattle.std.proofs.Common.{◌≡◌, ◌==◌, ◌∙◌, ◌<◌, ◌^◌, ◌++◌, ◌&&◌, ◌||◌, ℕ, Bool, cond, true, false, not, refl, sym, ap, subst, arith, drop, length, map, List, [], ◌∷◌, Option, Some, None, is_some, true≢false, nat_lt, length-append}
use Rattle.std.specs.Prelude.{IfSome, option_and_then, pos, slice_get}
use Rattle.std.specs.List.{AllByRecursion, find, list_all, slice_index_or}
use Rattle.std.specs.Option.{option_map, option_map_or}
use Rattle.std.specs.Str.{bytes_eq}
use Rattle.std.proofs.lemmas.List.Folds.{list_all-append}
use Rattle.std.proofs.lemmas.Slice.Eq.{bytes_eq-Decides}
use Rattle.clap.specs.Walk.{Row, Rule, Text, action_of, all_of, arg_by_id, at_row, default_rows, has_row, is_empty, more_values, most_values, one_of, reading_by, row_text, used, used_as, with_default, with_values, without}
use Rattle.clap.specs.Facts.{explicit_source, parser_of_value, unwrap_or_range}
use Rattle.clap.specs.Kinds.{range_kinds, value_kinds, values_kinds}
use Rattle.clap.specs.Faults.{action_fault, use_fault, values_fault}
use Rattle.clap.specs.Takes.{is_given}
use Rattle.clap.specs.Values.{is_request, read_as, reading_of, refused_kind}
use Rattle.clap.specs.ValueTests.{accepts}
use Rattle.clap.specs.declared.builder.action.ArgAction.{ArgAction}
use Rattle.clap.specs.declared.builder.action.ArgAction.TheVariants as action
use Rattle.clap.specs.declared.builder.value_parser.Reading.{Reading}
use Rattle.clap.specs.declared.builder.value_parser.ValueParser.{ValueParser}
use Rattle.clap.specs.declared.builder.value_parser.ValueParser.TheVariants as taking
use Rattle.clap.specs.declared.error.kind.ErrorKind.TheVariants as kind
use Rattle.clap.specs.declared.parser.matches.ValueSource.{ValueSource}
use Rattle.clap.proofs.ValueTestLemmas.{accepts-Accepts}
use Rattle.clap.proofs.WalkLemmas.{both}
use Rattle.c25_options.specs.Complete.{IsFlagText, IsNumberText, IsThere}
use Rattle.c25_options.proofs.NumberText.{number_text}
use Rattle.c25_options.proofs.Walks.{none_of_both}

-- the parser of the argument of each name
abbrev pub parser_in : List Rule → Text → ValueParser
parser_in rules id = option_map_or (λ a. parser_of_value a.parser) (arg_by_id rules id) taking.String

-- there is a value, and all are what the parser of this name takes
pub record IsFine (parser : Text → ValueParser) (id : Text) (how : Reading) (values : List Text) : Type 0 where
  pub some : 0 < length values
  pub reading : how ≡ reading_of (parser id)
  pub taken : list_all (accepts false (parser id)) values ≡ true

abbrev pub IsFineRow : (Text → ValueParser) → Row → Type 0
IsFineRow parser r = IsFine parser r.id r.reading r.values

abbrev pub AreFine : (Text → ValueParser) → List Row → Type 0
AreFine parser rows = AllByRecursion (IsFineRow parser) rows

-- ---- one use

-- the action takes values or is that of a flag, or asks for something else than a task
abbrev pub takes_or_asks : ArgAction → Bool
takes_or_asks action.Set = true
takes_or_asks action.Append = true
takes_or_asks action.SetTrue = true
takes_or_asks x = is_request x

-- a use without a value asks, is refused, or has a value that stands for it
abbrev pub is_without : Rule → Bool
is_without a = is_request (action_of a) || (nat_lt 0 (unwrap_or_range a.range).start_inclusive || not (is_empty a.missing))

abbrev pub is_sound : (Text → ValueParser) → Rule → Bool
is_sound parser a = takes_or_asks (action_of a) && (is_without a && (not a.ignore_case && list_all (accepts false (parser a.id)) a.defaults))

-- a use of the argument without a fault, and its default, leave fine rows
pub record IsSound (parser : Text → ValueParser) (a : Rule) : Type 0 where
  pub action : takes_or_asks (action_of a) ≡ true
  pub least : is_without a ≡ true
  pub case : a.ignore_case ≡ false
  pub defaults : list_all (accepts false (parser a.id)) a.defaults ≡ true
  pub own : parser_of_value a.parser ≡ parser a.id

-- the arguments are sound by the test, and their parsers are those of their names
pub all_sound : (parser : Text → ValueParser) (rules : List Rule) → list_all (is_sound parser) rules ≡ true → map (λ a. parser_of_value a.parser) rules ≡ map (λ a. parser a.id) rules
    → AllByRecursion (IsSound parser) rules
all_sound parser [] test own = tt
all_sound parser (a ∷ rules) test own =
    let first = both (is_sound parser a) (list_all (is_sound parser) rules) test in
    let action = both (takes_or_asks (action_of a)) _ first.0 in
    let least = both (is_without a) _ action.1 in
    let case = both (not a.ignore_case) _ least.1 in (
      record {
        action = action.0;
        least = least.0;
        case = cased a.ignore_case case.0;
        defaults = case.1;
        own = ap (λ (ps : List ValueParser). slice_index_or ps 0 taking.String) own;
      },
      all_sound parser rules first.1 (ap (drop 1) own),
    )
  where
    cased : (b : Bool) → not b ≡ true → b ≡ false
    cased false e = refl
    cased true e = absurd (true≢false (sym e))

value_passes : (b : Bool) (p : ValueParser) → cond b [] (refused_kind p ∷ []) ≡ [] → b ≡ true
value_passes true p e = refl
value_passes false p e =
    let none : length (refused_kind p ∷ []) ≡ 0 = ap length e in
    absurd (omega arith)

values_pass : (p : ValueParser) (values : List Text) → values_kinds false p values ≡ [] → list_all (accepts false p) values ≡ true
values_pass p [] e = refl
values_pass p (v ∷ vs) e =
    let parts = none_of_both (value_kinds false p v) (values_kinds false p vs) e in
    let first : accepts false p v ≡ true = value_passes (accepts false p v) p parts.0 in
    rw first (values_pass p vs parts.1)

-- a use without values has a fault, where one is wanted
wants_value : (least most : ℕ) → nat_lt 0 least ≡ true → range_kinds least most 0 ≡ [] → ⊥
wants_value least most wanted e = go (nat_lt 0 least) wanted e
  where
    go : (b : Bool) → b ≡ true → cond (b && true) (kind.InvalidValue ∷ []) (cond (least == most) (cond (least == 0) [] (kind.WrongNumberOfValues ∷ []))
        (cond (nat_lt 0 least) (kind.TooFewValues ∷ []) (cond (nat_lt most 0) (kind.TooManyValues ∷ []) []))) ≡ [] → ⊥
    go true w e =
        let none : length (kind.InvalidValue ∷ []) ≡ 0 = ap length e in
        omega arith
    go false w e = true≢false (sym w)

-- ---- the rows, by the parsers of the arguments' names

module _ (parser : Text → ValueParser) where
  append_fine : (xs ys : List Row) → AreFine parser xs → AreFine parser ys → AreFine parser (xs ++ ys)
  append_fine [] ys fine more = more
  append_fine (x ∷ xs) ys fine more = (fine.0, append_fine xs ys fine.1 more)

  at_row_fine : (id : Text) (change : Row → List Row) (missing : List Row) → ((r : Row) → r.id ≡ id → IsFineRow parser r → AreFine parser (change r)) → AreFine parser missing
      → (rows : List Row) → AreFine parser rows → AreFine parser (at_row id change missing rows)
  at_row_fine id change missing changed new [] fine = new
  at_row_fine id change missing changed new (r ∷ rows) fine = go (bytes_eq r.id id) refl (at_row_fine id change missing changed new rows fine.1)
    where
      go : (b : Bool) → bytes_eq r.id id ≡ b → AreFine parser (at_row id change missing rows) → AreFine parser (cond b (change r ++ rows) (r ∷ at_row id change missing rows))
      go true is rest = append_fine (change r) rows (changed r ((bytes_eq-Decides r.id id).0 is) fine.0) fine.1
      go false is rest = (fine.0, rest)

  without_fine : (id : Text) (rows : List Row) → AreFine parser rows → AreFine parser (without id rows)
  without_fine id rows fine = at_row_fine id (λ _. []) [] (λ r is own. tt) tt rows fine

  with_values_fine : (id : Text) (how : Reading) (source : ValueSource) (values : List Text) (rows : List Row) → IsFine parser id how values → AreFine parser rows → AreFine parser (with_values id how source values rows)
  with_values_fine id how source values rows new fine = at_row_fine id (more_values source values) _ more (new, tt) rows fine
    where
      more : (r : Row) → r.id ≡ id → IsFineRow parser r → AreFine parser (more_values source values r)
      more r is own = (
        record {
          some =
              let n = length-append r.values values in
              let first = own.some in
              omega arith;
          reading = own.reading;
          taken = list_all-append (accepts false (parser r.id)) r.values values
              ∙ ap (λ b. b && list_all (accepts false (parser r.id)) values) own.taken ∙ subst (λ (t : Text). list_all (accepts false (parser t)) values ≡ true) (sym is) new.taken;
        },
        tt,
      )

  values_fine : (a : Rule) → IsSound parser a → (v : Text) (vs : List Text) → values_fault a (v ∷ vs) ≡ [] → IsFine parser a.id (reading_by a) (v ∷ vs)
  values_fine a sound v vs e =
      let cased = subst (λ (b : Bool). values_kinds b (parser_of_value a.parser) (v ∷ vs) ≡ []) sound.case e in
      record {
        some = omega arith;
        reading = ap reading_of sound.own;
        taken = subst (λ (p : ValueParser). list_all (accepts false p) (v ∷ vs) ≡ true) sound.own (values_pass (parser_of_value a.parser) (v ∷ vs) cased);
      }

  -- a use with values, by its action
  used_as_fine : (x : ArgAction) → takes_or_asks x ≡ true → (again : Bool) (a : Rule) → IsSound parser a → (v : Text) (vs : List Text) (rows : List Row)
      → action_fault x again a (v ∷ vs) rows ≡ [] → AreFine parser rows → AreFine parser (used_as x a.id (reading_by a) (v ∷ vs) rows)
  used_as_fine action.Set takes again a sound v vs rows e fine =
      let parts = none_of_both _ (values_fault a (v ∷ vs)) e in
      with_values_fine a.id (reading_by a) _ (v ∷ vs) (without a.id rows) (values_fine a sound v vs parts.1) (without_fine a.id rows fine)
  used_as_fine action.SetTrue takes again a sound v vs rows e fine =
      let parts = none_of_both _ (values_fault a (v ∷ vs)) e in
      with_values_fine a.id (reading_by a) _ (v ∷ vs) (without a.id rows) (values_fine a sound v vs parts.1) (without_fine a.id rows fine)
  used_as_fine action.Append takes again a sound v vs rows e fine = with_values_fine a.id (reading_by a) _ (v ∷ vs) rows (values_fine a sound v vs e) fine
  used_as_fine action.SetFalse takes again a sound v vs rows e fine = absurd (true≢false (sym takes))
  used_as_fine action.Count takes again a sound v vs rows e fine = absurd (true≢false (sym takes))
  used_as_fine action.Help takes again a sound v vs rows e fine = fine
  used_as_fine action.HelpShort takes again a sound v vs rows e fine = fine
  used_as_fine action.HelpLong takes again a sound v vs rows e fine = fine
  used_as_fine action.Version takes again a sound v vs rows e fine = fine

  asking_fine : (x : ArgAction) → is_request x ≡ true → (id : Text) (how : Reading) (values : List Text) (rows : List Row) → AreFine parser rows → AreFine parser (used_as x id how values rows)
  asking_fine action.Set asks id how values rows fine = absurd (true≢false (sym asks))
  asking_fine action.Append asks id how values rows fine = absurd (true≢false (sym asks))
  asking_fine action.SetTrue asks id how values rows fine = absurd (true≢false (sym asks))
  asking_fine action.SetFalse asks id how values rows fine = absurd (true≢false (sym asks))
  asking_fine action.Count asks id how values rows fine = absurd (true≢false (sym asks))
  asking_fine action.Help asks id how values rows fine = fine
  asking_fine action.HelpShort asks id how values rows fine = fine
  asking_fine action.HelpLong asks id how values rows fine = fine
  asking_fine action.Version asks id how values rows fine = fine

  -- a use without values
  unvalued_fine : (again : Bool) (a : Rule) → IsSound parser a → (rows : List Row) → use_fault again a [] rows ≡ [] → AreFine parser rows → AreFine parser (used a [] rows)
  unvalued_fine again a sound rows e fine = go (is_request (action_of a)) (nat_lt 0 (unwrap_or_range a.range).start_inclusive) refl refl sound.least
    where
      ranged : range_kinds (unwrap_or_range a.range).start_inclusive (most_values a) 0 ≡ []
      ranged = (none_of_both (range_kinds (unwrap_or_range a.range).start_inclusive (most_values a) 0) _ e).0

      standing : (missing : List Text) → not (is_empty missing) ≡ true → action_fault (action_of a) again a missing rows ≡ [] → AreFine parser (used_as (action_of a) a.id (reading_by a) missing rows)
      standing [] has e = absurd (true≢false (sym has))
      standing (v ∷ vs) has e = used_as_fine (action_of a) sound.action again a sound v vs rows e fine

      go : (asks wants : Bool) → is_request (action_of a) ≡ asks → nat_lt 0 (unwrap_or_range a.range).start_inclusive ≡ wants → (asks || (wants || not (is_empty a.missing))) ≡ true → AreFine parser (used a [] rows)
      go true wants asks wanted least = asking_fine (action_of a) asks a.id (reading_by a) a.missing rows fine
      go false true asks wanted least = absurd (wants_value _ (most_values a) wanted ranged)
      go false false asks wanted least = standing a.missing least (none_of_both (range_kinds (unwrap_or_range a.range).start_inclusive (most_values a) 0) _ e).1

  pub use_fine : (again : Bool) (a : Rule) → IsSound parser a → (values : List Text) (rows : List Row) → use_fault again a values rows ≡ [] → AreFine parser rows → AreFine parser (used a values rows)
  use_fine again a sound [] rows e fine = unvalued_fine again a sound rows e fine
  use_fine again a sound (v ∷ vs) rows e fine =
      let parts = none_of_both (range_kinds (unwrap_or_range a.range).start_inclusive (most_values a) (length (v ∷ vs))) (action_fault (action_of a) again a (v ∷ vs) rows) e in
      used_as_fine (action_of a) sound.action again a sound v vs rows parts.1 fine

  pub default_fine : (a : Rule) → IsSound parser a → (rows : List Row) → AreFine parser rows → AreFine parser (with_default rows a)
  default_fine a sound rows fine = go (has_row a.id rows) a.defaults sound.defaults
    where
      go : (b : Bool) (values : List Text) → list_all (accepts false (parser a.id)) values ≡ true → AreFine parser (cond b rows (default_rows a.id (reading_by a) values rows))
      go true values taken = fine
      go false [] taken = fine
      go false (v ∷ vs) taken = with_values_fine a.id (reading_by a) _ (v ∷ vs) rows (record { some = omega arith; reading = ap reading_of sound.own; taken = taken }) fine

  -- ---- what was found

  -- an argument that was used has a value
  pub given_there : (id : Text) (rows : List Row) → AreFine parser rows → is_given id rows ≡ true → IsThere rows id
  given_there id [] fine given = absurd (true≢false (sym given))
  given_there id (r ∷ rows) fine given = go (bytes_eq r.id id) (given_there id rows fine.1) given
    where
      first : (values : List Text) → 0 < length values → is_some (slice_get values 0) ≡ true
      first [] some = absurd (omega arith)
      first (v ∷ vs) some = refl

      go : (b : Bool) → (is_given id rows ≡ true → IsThere rows id) → option_map_or (λ (x : Row). explicit_source x.source) (cond b (Some r) (find (λ x. bytes_eq x.id id) rows)) false ≡ true
          → is_some (option_and_then (λ (x : Row). slice_get x.values 0) (cond b (Some r) (find (λ x. bytes_eq x.id id) rows))) ≡ true
      go true rest e = first r.values fine.0.some
      go false rest e = rest e

  -- what is read of an argument is what its parser takes
  one_fine : (P : Text → Type 0) (id : Text) (p : ValueParser) → parser id ≡ p → ((t : Text) → accepts false p t ≡ true → P (read_as (reading_of p) t)) → (rows : List Row) → AreFine parser rows → IfSome (one_of id rows) P
  one_fine P id p by reads [] fine = tt
  one_fine P id p by reads (r ∷ rows) fine = go (bytes_eq r.id id) refl (one_fine P id p by reads rows fine.1)
    where
      first : (how : Reading) (values : List Text) → how ≡ reading_of p → list_all (accepts false p) values ≡ true → IfSome (option_map (read_as how) (slice_get values 0)) P
      first how [] reading taken = tt
      first how (v ∷ vs) reading taken = subst (λ (h : Reading). P (read_as h v)) (sym reading) (reads v (both (accepts false p v) (list_all (accepts false p) vs) taken).0)

      named : bytes_eq r.id id ≡ true → parser r.id ≡ p
      named is = ap parser ((bytes_eq-Decides r.id id).0 is) ∙ by

      go : (b : Bool) → bytes_eq r.id id ≡ b → IfSome (one_of id rows) P → IfSome (option_and_then row_text (cond b (Some r) (find (λ (x : Row). bytes_eq x.id id) rows))) P
      go true is rest = first r.reading r.values (fine.0.reading ∙ ap reading_of (named is)) (subst (λ (q : ValueParser). list_all (accepts false q) r.values ≡ true) (named is) fine.0.taken)
      go false is rest = rest

  -- the text of a number is one
  pub number_fine : (id : Text) (high bits : ℕ) → parser id ≡ taking.Signed (pos 0) (pos high) → high < 2 ^ bits → (rows : List Row) → AreFine parser rows → IfSome (one_of id rows) (IsNumberText bits)
  number_fine id high bits by low rows fine =
      one_fine (IsNumberText bits) id _ by (λ t taken. number_text high bits low t (accepts-Accepts false (taking.Signed (pos 0) (pos high)) t taken)) rows fine

  -- the text of a flag is one
  pub flag_fine : (id : Text) → parser id ≡ taking.Bool → (rows : List Row) → AreFine parser rows → IfSome (one_of id rows) IsFlagText
  flag_fine id by rows fine = one_fine IsFlagText id _ by (λ t taken. taken) rows fine

-- what has a value has all its values
pub there_listed : (id : Text) (rows : List Row) → IsThere rows id → all_of id rows ≡ None → ⊥
there_listed id rows there = go (find (λ (x : Row). bytes_eq x.id id) rows) there
  where
    go : (o : Option Row) → is_some (option_and_then (λ (x : Row). slice_get x.values 0) o) ≡ true → option_map (λ (x : Row). x.values) o ≡ None → ⊥
    go None has none = true≢false (sym has)
    go (Some r) has none = true≢false (ap is_some none)
