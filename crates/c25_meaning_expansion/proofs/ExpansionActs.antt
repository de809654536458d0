-- What is changed by acting on a line: no line is read, and one block is opened at most.
use Rattle.std.proofs.Common.{◌≡◌, ℕ, ◌+◌, ◌<◌, ◌≤◌, Bool, true, false, not, ◌||◌, if◌then◌else◌, List, [], ◌∷◌, length, refl, ap, arith, Option, Some, None, Result, Ok, Err, IfSome, is_some, sum_by, ℤ}
use Rattle.std.proofs.lemmas.Bool.Decides.{nat_tests}
use Rattle.std.proofs.lemmas.List.Sums.{sum_by-cons}
use Rattle.std.specs.Fmt.{signed_decimal}
use Rattle.c25_meaning_language.specs.Value.{Table, is_zero}
use Rattle.c25_meaning_language.specs.Tree.{Tree}
use Rattle.c25_meaning_language.specs.Statement.{valued}
use Rattle.c25_meaning_instructions.specs.Spellings.{spelling_of}
use Rattle.c25_meaning_expansion.specs.Files.{Files, text_named}
use Rattle.c25_meaning_expansion.specs.Rows.{Row, file_number}
use Rattle.c25_meaning_language.specs.Texts.{SubstitutionTexts}
use Rattle.c25_meaning_expansion.specs.Acts.{ExpansionAct, If, ElseIf, Else, EndIf, Define, Stray, Exit, Loop, Break, Assign, Evaluate, Copy, End, Call}
use Rattle.c25_meaning_expansion.specs.Expansion.{LineOrEnd, Kind, Copied, Expanded, Turn, SourceFrame, Expansion, Mode, Dictionary, Config, Rewriting, Gives, Goes, Faults, Misses, unless, depth, is_full, with_branches, left_through, after_close, without_ended, is_expansion, is_turn, stands_in, macro_named, assigned, assigned_by}
use Rattle.c25_meaning_expansion.specs.ExpansionRules.{absolute_number, with_number, needed, phase_of, elseif_in, else_in, begins_if, enters, elseif_by, else_by, endif_by, begins_macro, begins_expansion, leaves, turns_of, collects, begins_loop, breaks_if, breaks, evaluates, copies_by, copies, ends_all, acts}
use Rattle.c25_meaning_expansion.specs.ExpansionBounds.{nested_of, pending, collecting, nesting, deepest, skipping}
use Rattle.c25_meaning_common.specs.declared.placed.FileLine.{FileLine}
use Rattle.c25_meaning_expansion.specs.declared.expansion.Branch.{Branch}
use Rattle.c25_meaning_expansion.specs.declared.expansion.Phase.{Phase}
use Rattle.c25_meaning_expansion.specs.declared.expansion.Phase.TheVariants.{Seeking, Taking, Passing, ElseTaking, ElsePassing}
use Rattle.c25_meaning_language.specs.declared.statement.FaultKind.{FaultKind}
use Rattle.c25_meaning_language.specs.declared.statement.FaultKind.TheVariants as fault

-- what holds of what is left where a rewriting goes on, and where it gives a line
pub data Comes (Going Giving : Config → Type 0) : Rewriting → Type 0 where
  gives : {row : Row} {d : Config} → Giving d → Comes Going Giving (Gives row d)
  goes : {d : Config} → Going d → Comes Going Giving (Goes d)
  faults : {place : FileLine ℕ} {kind : FaultKind} → Comes Going Giving (Faults place kind)
  misses : {place : FileLine ℕ} {name : List ℕ} → Comes Going Giving (Misses place name)

-- ---- one lemma a combinator

module _ {P Q : Config → Type 0} where
  pub comes_if : (b : Bool) (x y : Rewriting) → Comes P Q x → Comes P Q y → Comes P Q (if b then x else y)
  comes_if true x y h k = h
  comes_if false x y h k = k

  pub comes_unless : (test : Bool) (kind : FaultKind) (place : FileLine ℕ) (next : Rewriting) → (test ≡ false → Comes P Q next) → Comes P Q (unless test kind place next)
  comes_unless true kind place next h = faults
  comes_unless false kind place next h = h refl

  comes_with_number : (place : FileLine ℕ) (number : Result ℤ FaultKind) (next : ℤ → Rewriting) → ((n : ℤ) → Comes P Q (next n)) → Comes P Q (with_number place number next)
  comes_with_number place (Ok n) next h = h n
  comes_with_number place (Err kind) next h = faults

  comes_needed : (s : Table) (place : FileLine ℕ) (e : Tree) (next : ℤ → Rewriting) → ((n : ℤ) → Comes P Q (next n)) → Comes P Q (needed s place e next)
  comes_needed s place e next h = comes_with_number place (absolute_number (valued s e)) next h

  pub comes_elseif : (phase : Phase) (place : FileLine ℕ) (next : Phase → Rewriting) (sought : Rewriting) → ((p : Phase) → Comes P Q (next p)) → Comes P Q sought → Comes P Q (elseif_in phase place next sought)
  comes_elseif Seeking place next sought h k = k
  comes_elseif Taking place next sought h k = h Passing
  comes_elseif Passing place next sought h k = h Passing
  comes_elseif ElseTaking place next sought h k = faults
  comes_elseif ElsePassing place next sought h k = faults

  pub comes_else : (phase : Phase) (place : FileLine ℕ) (next : Phase → Rewriting) → ((p : Phase) → Comes P Q (next p)) → Comes P Q (else_in phase place next)
  comes_else Seeking place next h = h ElseTaking
  comes_else Taking place next h = h ElsePassing
  comes_else Passing place next h = h ElsePassing
  comes_else ElseTaking place next h = faults
  comes_else ElsePassing place next h = faults

  comes_some : (o : Option Config) (none : Rewriting) → Comes P Q none → IfSome o P → Comes P Q (elim o [ None ↦ none | Some rest ↦ Goes rest ])
  comes_some None none h k = h
  comes_some (Some d) none h k = goes k

-- ---- acting

-- nothing is collected, and nothing waits
pub record IsIdle (m : Mode) : Type 0 where
  pub nested : nested_of m ≡ 0
  pub nothing_waits : pending m ≡ 0
  pub no_loop : collecting m ≡ 0

-- what acting on a line changes
pub record Acted (c d : Config) : Type 0 where
  pub left : d.left ≡ c.left
  pub frames : length d.outer ≤ length c.outer + 1
  pub nothing_waits : pending d.mode ≡ 0
  pub nested : nested_of d.mode ≡ 0
  pub skipped : skipping d ≤ skipping c
  pub expansions : d.names.count ≤ c.names.count + 1
  pub blocks : depth c ≤ 32 → depth d + collecting d.mode ≤ 32

-- acting on a line gives no line
abbrev pub Never : Config → Type 0
Never d = ⊥

pub not_full : (c : Config) → is_full c ≡ false → depth c < 32
not_full c h = grind (arith, nat_tests)

-- the blocks open in a file, expansion or turn, and those around it
pub blocks_in : (f : SourceFrame) (fs : List SourceFrame) → sum_by (λ g. length g.branches + 1) (f ∷ fs) ≡ length f.branches + 1 + sum_by (λ g. length g.branches + 1) fs
blocks_in f fs = sum_by-cons (λ g. length g.branches + 1) f fs

acted_if : (s : Table) (place : FileLine ℕ) (e : Tree) (c : Config) → IsIdle c.mode → Comes (Acted c) Never (begins_if s place e c)
unfolding begins_if
acted_if s place e c h = comes_needed s place e _ (λ number. comes_unless (is_full c) fault.Depth place _ (λ room. goes (omega (arith, not_full c room))))

-- other `.if`s in the innermost file, expansion or turn
pub acted_branches : (new old : List Branch) (c : Config) → IsIdle c.mode → old ≡ c.frame.branches → nesting new ≤ nesting old → length new ≤ length old → Acted c (with_branches new c)
acted_branches new old c h e n l = omega (arith, ap nesting e, ap length e)

acted_enters : (b : Branch) (bs : List Branch) (c : Config) (phase : Phase) → IsIdle c.mode → b ∷ bs ≡ c.frame.branches → Comes (Acted c) Never (enters b bs c phase)
acted_enters b bs c phase h same = goes (acted_branches (record b { phase = phase } ∷ bs) (b ∷ bs) c h same (omega arith) (omega arith))

acted_elseif : (s : Table) (place : FileLine ℕ) (e : Tree) (bs : List Branch) (c : Config) → IsIdle c.mode → bs ≡ c.frame.branches → Comes (Acted c) Never (elseif_by s place e bs c)
acted_elseif s place e [] c h same = comes_needed s place e _ (λ number. faults)
acted_elseif s place e (b ∷ bs) c h same = comes_elseif b.phase place (enters b bs c) _ (λ phase. acted_enters b bs c phase h same)
    (comes_needed s place e _ (λ number. acted_enters b bs c (phase_of number) h same))

acted_else : (place : FileLine ℕ) (bs : List Branch) (c : Config) → IsIdle c.mode → bs ≡ c.frame.branches → Comes (Acted c) Never (else_by place bs c)
acted_else place [] c h same = faults
acted_else place (b ∷ bs) c h same = comes_else b.phase place (enters b bs c) (λ phase. acted_enters b bs c phase h same)

acted_endif : (place : FileLine ℕ) (bs : List Branch) (c : Config) → IsIdle c.mode → bs ≡ c.frame.branches → Comes (Acted c) Never (endif_by place bs c)
acted_endif place [] c h same = faults
acted_endif place (b ∷ bs) c h same = goes (acted_branches bs (b ∷ bs) c h same (omega arith) (omega arith))

acted_define : (place : FileLine ℕ) (name : List ℕ) (parameters : List (List ℕ)) (c : Config) → IsIdle c.mode → Comes (Acted c) Never (begins_macro place name parameters c)
unfolding begins_macro
acted_define place name parameters c h =
    comes_unless (is_some (macro_named c.names name) || is_some (spelling_of name)) fault.Redefined place _ (λ _. goes (omega arith))

acted_call : (place : FileLine ℕ) (body : List Row) (arguments : SubstitutionTexts) (c : Config) → IsIdle c.mode → Comes (Acted c) Never (begins_expansion place body arguments c)
unfolding begins_expansion
acted_call place body arguments c h = comes_unless (is_full c) fault.Depth place _ (λ room. goes (omega (arith, not_full c room, blocks_in c.frame c.outer)))

-- the end of an expansion leaves the number of those that there have been
pub count_stays : (kind : Kind) (names : Dictionary) → (without_ended kind names).count ≡ names.count
count_stays Copied names = refl
count_stays Expanded names = refl
count_stays (Turn body more) names = refl

pub acted_left : (test : Kind → Bool) (lines : List LineOrEnd) (frame : SourceFrame) (outer : List SourceFrame) (names : Dictionary) (c : Config) → IsIdle c.mode →
    length outer ≤ length c.outer → deepest (frame ∷ outer) ≤ skipping c → names.count ≡ c.names.count →
    length frame.branches + sum_by (λ g. length g.branches + 1) outer ≤ depth c → IfSome (left_through test lines frame outer names c) (Acted c)
acted_left test lines frame [] names c h l k n b = tt
acted_left test lines frame (f ∷ fs) names c h l k n b =
    let count = count_stays frame.kind names in
    let blocks = blocks_in f fs in
    elim (test frame.kind) as (λ t. IfSome (if t then Some (record c { lines = after_close lines; frame = f; outer = fs; names = without_ended frame.kind names }) else left_through test (after_close lines) f fs (without_ended frame.kind names) c) (Acted c)) [
      | true ↦ omega arith
      | false ↦ acted_left test (after_close lines) f fs (without_ended frame.kind names) c h (omega arith) (omega arith) (omega arith) (omega arith)
    ]

acted_leaves : (test : Kind → Bool) (place : FileLine ℕ) (c : Config) → IsIdle c.mode → Comes (Acted c) Never (leaves test place c)
acted_leaves test place c h = comes_some (left_through test c.lines c.frame c.outer c.names c) _ faults (acted_left test c.lines c.frame c.outer c.names c h (omega arith) (omega arith) refl (omega arith))

acted_collects : (place : FileLine ℕ) (turns : ℕ) (c : Config) → IsIdle c.mode → Comes (Acted c) Never (collects place turns c)
acted_collects place turns c h = comes_unless (is_full c) fault.Depth place _ (λ room. goes (omega (arith, not_full c room)))

acted_loop : (s : Table) (place : FileLine ℕ) (count : Option Tree) (c : Config) → IsIdle c.mode → Comes (Acted c) Never (begins_loop s place count c)
unfolding begins_loop
acted_loop s place None c h = acted_collects place 1024 c h
acted_loop s place (Some e) c h = comes_needed s place e _ (λ number. acted_collects place (turns_of number) c h)

acted_break_if : (true_so : Bool) (place : FileLine ℕ) (c : Config) → IsIdle c.mode → Comes (Acted c) Never (breaks_if true_so place c)
acted_break_if true_so place c h = comes_unless (not (stands_in is_turn c)) fault.StrayEnd place _ (λ _. comes_if true_so _ _ (acted_leaves is_turn place c h) (goes (omega arith)))

acted_break : (s : Table) (place : FileLine ℕ) (condition : Option Tree) (c : Config) → IsIdle c.mode → Comes (Acted c) Never (breaks s place condition c)
unfolding breaks
acted_break s place None c h = acted_break_if true place c h
acted_break s place (Some e) c h = comes_needed s place e _ (λ number. acted_break_if (not (is_zero number)) place c h)

count_if : (b : Bool) (x y : Dictionary) (n : ℕ) → x.count ≡ n → y.count ≡ n → (if b then x else y).count ≡ n
count_if true x y n h k = h
count_if false x y n h k = k

-- a name that stands for a text is no expansion
count_assigned : (es : List Expansion) (name text : List ℕ) (names : Dictionary) → (assigned_by es name text names).count ≡ names.count
count_assigned [] name text names = refl
count_assigned (e ∷ es) name text names = count_if _ _ _ names.count refl refl

acted_assign : (name text : List ℕ) (c : Config) → IsIdle c.mode → Acted c (record c { names = assigned name text c.names })
acted_assign name text c h = omega (arith, count_assigned c.names.expansions name text c.names)

acted_evaluate : (s : Table) (place : FileLine ℕ) (e : Tree) (name : List ℕ) (c : Config) → IsIdle c.mode → Comes (Acted c) Never (evaluates s place e name c)
unfolding evaluates
acted_evaluate s place e name c h = comes_needed s place e _ (λ number. goes (acted_assign name (signed_decimal number) c h))

acted_copy : (text : Option (List ℕ)) (file : ℕ) (place : FileLine ℕ) (name : List ℕ) (c : Config) → IsIdle c.mode → Comes (Acted c) Never (copies_by text file place name c)
acted_copy None file place name c h = misses
acted_copy (Some text) file place name c h = comes_unless (is_full c) fault.Depth place _ (λ room. goes (omega (arith, not_full c room, blocks_in c.frame c.outer)))

-- the result of acting on a line
pub acted : (files : Files) (s : Table) (place : FileLine ℕ) (act : ExpansionAct) (c : Config) → IsIdle c.mode → Comes (Acted c) Never (acts files s place act c)
unfolding acts copies ends_all
acted files s place (If e) c h = acted_if s place e c h
acted files s place (ElseIf e) c h = acted_elseif s place e c.frame.branches c h refl
acted files s place Else c h = acted_else place c.frame.branches c h refl
acted files s place EndIf c h = acted_endif place c.frame.branches c h refl
acted files s place (Define name parameters) c h = acted_define place name parameters c h
acted files s place Stray c h = faults
acted files s place Exit c h = acted_leaves is_expansion place c h
acted files s place (Loop count) c h = acted_loop s place count c h
acted files s place (Break condition) c h = acted_break s place condition c h
acted files s place (Assign text name) c h = goes (acted_assign name text c h)
acted files s place (Evaluate e name) c h = acted_evaluate s place e name c h
acted files s place (Copy name) c h = acted_copy (text_named files name) (file_number files name) place name c h
acted files s place End c h = goes (omega arith)
acted files s place (Call body arguments) c h = acted_call place body arguments c h
