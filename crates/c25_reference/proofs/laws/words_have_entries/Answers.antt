use Rattle.std.proofs.Common.{◌≡◌, ℕ, Bool, true, false, cond, ◌||◌, List, [], ◌∷◌, Option, Some, None, is_some, map, refl, ap, ◌∙◌}
use Rattle.std.specs.List.{find, list_any}
use Rattle.std.specs.Map.{lookup}
use Rattle.std.specs.Str.{str_eq_ignore_ascii_case}
use Rattle.c25_meaning_assembly.specs.AssemblyLine as assembly
use Rattle.c25_meaning_assembly.specs.AssemblyLine.{directive_among, directive_of, is_ignored, or_ignored}
use Rattle.c25_meaning_assembly.specs.declared.assembly.Directive.{Directive}
use Rattle.c25_meaning_assembly.specs.declared.assembly.Directive.TheVariants as directive
use Rattle.c25_meaning_expansion.specs.Acts as expansion
use Rattle.c25_meaning_expansion.specs.declared.expansion.Directive as other
use Rattle.c25_reference.specs.Entries.{name_among, or_else}
use Rattle.c25_reference.proofs.laws.words_have_entries.Goals as goal

-- ---- answers of which one is there

both : (a b : Option (List ℕ)) → is_some (or_else a b) ≡ (is_some a || is_some b)
both (Some name) b = refl
both None b = refl

or_true : (x : Bool) → (x || true) ≡ true
or_true true = refl
or_true false = refl

left : (a b : Option (List ℕ)) → is_some a ≡ true → is_some (or_else a b) ≡ true
left a b there = both a b ∙ ap (λ (x : Bool). x || is_some b) there

right : (a b : Option (List ℕ)) → is_some b ≡ true → is_some (or_else a b) ≡ true
right a b there = both a b ∙ ap (λ (x : Bool). is_some a || x) there ∙ or_true (is_some a)

-- ---- a name among names

-- a word that is in a list, one after another
step : {D : Type 0} (b : Bool) (name : List ℕ) (x : D) (rest : Option D) (found : Option (List ℕ)) (d : D) → (rest ≡ Some d → is_some found ≡ true) → cond b (Some x) rest ≡ Some d → is_some (cond b (Some name) found) ≡ true
step true name x rest found d more same = refl
step false name x rest found d more same = more same

among : (word : List ℕ) (ds : List (List ℕ × Directive)) (d : Directive) → directive_among word ds ≡ Some d → is_some (name_among word (map (λ d. d.0) ds)) ≡ true
among word [] d same = ap is_some same
among word (x ∷ ds) d same = step (str_eq_ignore_ascii_case word x.0) x.0 x.1 (directive_among word ds) _ d (among word ds d) same

looked_up : (word : List ℕ) (ds : List (List ℕ × other.Directive)) (d : other.Directive) → lookup (str_eq_ignore_ascii_case word) ds ≡ Some d → is_some (name_among word (map (λ d. d.0) ds)) ≡ true
looked_up word [] d same = ap is_some same
looked_up word (x ∷ ds) d same = step (str_eq_ignore_ascii_case word x.0) x.0 x.1 (lookup (str_eq_ignore_ascii_case word) ds) _ d (looked_up word ds d) same

any_step : (b : Bool) (name : List ℕ) (rest : Bool) (found : Option (List ℕ)) → (rest ≡ true → is_some found ≡ true) → (b || rest) ≡ true → is_some (cond b (Some name) found) ≡ true
any_step true name rest found more is = refl
any_step false name rest found more is = more is

among_names : (word : List ℕ) (names : List (List ℕ)) → list_any (str_eq_ignore_ascii_case word) names ≡ true → is_some (name_among word names) ≡ true
among_names word [] is = is
among_names word (name ∷ names) is = any_step (str_eq_ignore_ascii_case word name) name _ _ (among_names word names) is

-- ---- directives

ignored_case : (b : Bool) (d : Directive) → cond b (Some directive.Ignored) None ≡ Some d → b ≡ true
ignored_case true d same = refl
ignored_case false d same = ap is_some same

named : (o : Option Directive) (word : List ℕ) (first rest : Option (List ℕ)) → ((d : Directive) → o ≡ Some d → is_some first ≡ true) → (is_ignored word ≡ true → is_some rest ≡ true) → (d : Directive) → or_ignored o word ≡ Some d → is_some (or_else first rest) ≡ true
named (Some x) word first rest more ignored d same = left first rest (more x refl)
named None word first rest more ignored d same = right first rest (ignored (ignored_case (is_ignored word) d same))

is_there : (word : List ℕ) → is_ignored word ≡ true → is_some (name_among word assembly.ignored) ≡ true
unfolding is_ignored
is_there word is = among_names word assembly.ignored is

pub returns-clause-directives : goal.returns-clause-directives
unfolding directive_of
returns-clause-directives c = λ word d same.
    named (directive_among word assembly.directives) word (name_among word (map (λ d. d.0) assembly.directives)) (or_else (name_among word assembly.ignored) (name_among word (map (λ d. d.0) expansion.directives)))
    (among word assembly.directives) (λ is. left (name_among word assembly.ignored) _ (is_there word is)) d same

pub returns-clause-expansion : goal.returns-clause-expansion
unfolding expansion.directive_of
returns-clause-expansion c = λ word d same.
    right (name_among word (map (λ d. d.0) assembly.directives)) _ (right (name_among word assembly.ignored) _ (looked_up word expansion.directives d same))
