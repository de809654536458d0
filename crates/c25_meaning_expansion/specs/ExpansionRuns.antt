-- Rewriting the lines still to come, up to the next line that is given, the end of the source, or the first
-- fault.
use Rattle.std.specs.Prelude.{◌≡◌, ℕ, zero, suc, ◌+◌, ◌*◌, ◌-◌, ◌==◌, List, [], ◌∷◌, ◌++◌, Bool, true, false, not, ◌&&◌, Option, option_map, nat_lt, if◌then◌else◌, length, map}
use Rattle.c25_meaning_language.specs.Line.{first_word}
use Rattle.c25_meaning_language.specs.Value.{Table}
use Rattle.c25_meaning_expansion.specs.Files.{Files, text_named}
use Rattle.c25_meaning_expansion.specs.Rows.{Row, rows_of, last_place, file_number, is_empty}
use Rattle.c25_meaning_expansion.specs.Expansion.{LineOrEnd, Read, Close, Kind, Copied, Expanded, Turn, SourceFrame, Mode, Reading, Acting, InMacro, InLoop, Config, Rewriting, Gives, Goes, Finishes, Faults, Misses, unless, without_ended}
use Rattle.c25_meaning_expansion.specs.ExpansionRules.{acts, directive_in, reads_by, in_macro, in_loop}
use Rattle.c25_meaning_language.specs.declared.statement.FaultKind.TheVariants as fault

-- ---- one rewriting

-- a line from the list: it goes into the body that is being collected, or it is read
abbrev pub read_by : Files → Table → Row → Mode → Config → Rewriting
read_by files s row (InMacro name parameters body nested) c = in_macro row (directive_in (first_word row.text)) name parameters body nested c
read_by files s row (InLoop turns body nested) c = in_loop row (directive_in (first_word row.text)) turns body nested c
read_by files s row _ c = reads_by files s row (directive_in (first_word row.text)) c.frame.branches c

-- whether no body is being collected
abbrev pub is_reading : Mode → Bool
is_reading Reading = true
is_reading (Acting place act) = true
is_reading (InMacro name parameters body nested) = false
is_reading (InLoop turns body nested) = false

-- whether no block is open that began in the innermost file, expansion or turn
abbrev pub is_closed : Config → Bool
is_closed c = is_reading c.mode && is_empty c.frame.branches

-- what follows once the innermost file, expansion or turn has ended: the lines after it in the one round it,
-- or the end of the source
abbrev pub back : List LineOrEnd → List SourceFrame → Config → Rewriting
back rest [] c = Finishes c
back rest (f ∷ fs) c = Goes (record c { lines = rest; frame = f; outer = fs; names = without_ended c.frame.kind c.names })

-- the end of a file, expansion or turn: a loop that has more turns, and lines, begins the next turn; else
-- what stands after it comes
abbrev pub ended : Kind → List LineOrEnd → Config → Rewriting
ended (Turn body more) rest c =
    if nat_lt 0 more && not (is_empty body)
    then Goes (record c { lines = map Read body ++ Close ∷ rest; frame = record { kind = Turn body (more - 1); last = c.frame.last; branches = [] } })
    else back rest c.outer c
ended Copied rest c = back rest c.outer c
ended Expanded rest c = back rest c.outer c

-- what follows, unless a block is open that began in the innermost file, expansion or turn: then OpenBlock,
-- at its last line
abbrev pub closes : Rewriting → Config → Rewriting
closes next c = if is_closed c then next else Faults c.frame.last fault.OpenBlock

-- one rewriting of the front of the list: a line is read, at most 200,000 in all, or an end is passed
abbrev pub front : Files → Table → List LineOrEnd → Config → Rewriting
front files s (Read row ∷ rest) c =
    unless (c.left == 0) fault.Lines row.place (read_by files s row c.mode (record c { lines = rest; mode = Reading; left = c.left - 1 }))
front files s (Close ∷ rest) c = closes (ended c.frame.kind rest c) c
front files s [] c = closes (Finishes c) c

-- one rewriting by the mode: a line whose label was given is acted on, or else the front of the list is
-- rewritten
abbrev pub rewrite_by : Files → Table → Mode → Config → Rewriting
rewrite_by files s (Acting place act) c = acts files s place act (record c { mode = Reading })
rewrite_by files s _ c = front files s c.lines c

-- one rewriting of a configuration
unfoldable pub rewrite : Files → Table → Config → Rewriting
rewrite files s c = rewrite_by files s c.mode c

-- ---- rewriting until a line is given

-- `n` rewritings that each merely go on lead from one configuration to the other
abbrev pub Leads : Files → Table → ℕ → Config → Config → Type 0
Leads files s zero old new = old ≡ new
Leads files s (suc n) old new = (mid : Config) × Leads files s n old mid × (rewrite files s mid ≡ Goes new)

-- after some rewritings that merely go on, the next one has this result
abbrev pub ComesTo : Files → Table → Config → Rewriting → Type 0
ComesTo files s old r = (n : ℕ) × (c : Config) × Leads files s n old c × (rewrite files s c ≡ r)

-- the weight of the front of the list: 1 for an end, 0 for a line
abbrev pub front_weight : List LineOrEnd → ℕ
front_weight [] = 1
front_weight (Close ∷ items) = 1
front_weight (Read row ∷ items) = 0

-- the weight of the mode: 4 for a line that is still to be acted on
abbrev pub mode_weight : Mode → ℕ
mode_weight (Acting place act) = 4
mode_weight _ = 0

-- a number that each rewriting that merely goes on makes smaller: 6 for each line that may still be read (4
-- because its label may be given before it is acted on, 2 because it may open a file, expansion or turn), 2
-- for each file, expansion or turn that can end, and the weights of the front and the mode
abbrev pub weight : Config → ℕ
weight c = 6 * c.left + 2 * length c.outer + front_weight c.lines + mode_weight c.mode

-- what follows a rewriting that merely goes on; any other result stays
abbrev pub go_on : Rewriting → (Config → Rewriting) → Rewriting
go_on (Goes d) f = f d
go_on (Gives row d) f = Gives row d
go_on (Finishes d) f = Finishes d
go_on (Faults place kind) f = Faults place kind
go_on (Misses place name) f = Misses place name

-- the result of the first of n + 1 rewritings that does not merely go on, or of the last of them
unfoldable pub last_within : Files → Table → ℕ → Config → Rewriting
last_within files s zero c = rewrite files s c
last_within files s (suc n) c = go_on (rewrite files s c) (last_within files s n)

-- the result of the first rewriting that does not merely go on; the weight bounds how many come before it
unfoldable pub first : Files → Table → Config → Rewriting
first files s c = last_within files s (weight c) c

-- ---- the start of a module

-- the configuration before the first line of the file of this number and text
abbrev pub start : ℕ → List ℕ → Config
start file text = record {
  lines = map Read (rows_of file text);
  frame = record { kind = Copied; last = last_place (record { file = file; line = 0 }) (rows_of file text); branches = [] };
  outer = [];
  mode = Reading;
  names = record { macros = []; texts = []; expansions = []; count = 0 };
  left = 200000;
}

-- the configuration before the first line of the file of this name, if there is such a file
abbrev pub start_of : Files → List ℕ → Option Config
start_of files name = option_map (start (file_number files name)) (text_named files name)
