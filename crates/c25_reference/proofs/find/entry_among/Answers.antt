use Rattle.std.proofs.Common.{rules, ◌≡◌, ℕ, ◌+◌, Bool, true, false, cond, List, [], ◌∷◌, Option, Some, map, drop, get_or, sym, ap, ◌∙◌}
use Rattle.std.proofs.lemmas.List.{at_drop_more}
use Rattle.std.specs.Str.{str_eq_ignore_ascii_case}
use Rattle.c25_reference.specs.Entries.{name_among}
use Rattle.c25_reference.specs.declared.entry.Entry.{Entry}
use Rattle.c25_reference.proofs.find.entry_among.Goals as goal

-- a name that the word is, is the first
stops : (b : Bool) (name : List ℕ) (rest all : Option (List ℕ)) → cond b (Some name) rest ≡ all → b ≡ true → Some name ≡ all
stops b name rest all same is = sym (ap (λ (x : Bool). cond x (Some name) rest) is) ∙ same

-- after a name that the word is not, the first is among the rest
goes : (b : Bool) (name : List ℕ) (rest all : Option (List ℕ)) → cond b (Some name) rest ≡ all → b ≡ false → rest ≡ all
goes b name rest all same is = sym (ap (λ (x : Bool). cond x (Some name) rest) is) ∙ same

abbrev none : Entry
none = record { name = record { ref_ptr = (0, 0); now = [] }; form = record { ref_ptr = (0, 0); now = [] }; does = record { ref_ptr = (0, 0); now = [] }; example = record { ref_ptr = (0, 0); now = [] } }

-- the names that are left, by the next one
abbrev among : List ℕ → List Entry → Option (List ℕ)
among word es = name_among word (map (λ e. e.name.now) es)

pub returns-then-eq_ignore_ascii_case : goal.returns-then-eq_ignore_ascii_case
returns-then-eq_ignore_ascii_case c =
    let word = c.args.word.now in
    let i = c.loop-entry.entry-index in
    let e : Entry = get_or c.args.entries.now i none in
    stops (str_eq_ignore_ascii_case word e.name.now) e.name.now (among word (drop (i + 1) c.args.entries.now)) (among word c.args.entries.now)
    (sym (at_drop_more (among word) c.args.entries.now i none c.loop-entry-test.true) ∙ c.loop-entry.invariant) (search rules)

pub loop-entry-preserved : goal.loop-entry-preserved
loop-entry-preserved c =
    let word = c.args.word.now in
    let i = c.loop-entry.entry-index in
    let e : Entry = get_or c.args.entries.now i none in
    goes (str_eq_ignore_ascii_case word e.name.now) e.name.now (among word (drop (i + 1) c.args.entries.now)) (among word c.args.entries.now)
    (sym (at_drop_more (among word) c.args.entries.now i none c.loop-entry-test.true) ∙ c.loop-entry.invariant) (search rules)
