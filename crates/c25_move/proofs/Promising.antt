-- The promises of a line, where it stays and where it is changed.
use Rattle.std.proofs.Common.{◌≡◌, ◌≢◌, ◌++◌, ◌∙◌, ℕ, Bool, true, false, not, cond, List, [], Option, Some, None, refl, sym, ap, subst, is_some}
use Rattle.std.proofs.lemmas.Bool.{false≢true}
use Rattle.std.specs.Prelude.{option_to_list}
use Rattle.c25_meaning_language.specs.declared.statement.FaultKind.{FaultKind}
use Rattle.c25_move_lines.specs.LocalLabels.{Scope}
use Rattle.c25_move_lines.specs.Values.{KeepsAllValues, KeepsLabels}
use Rattle.c25_move_lines.proofs.Lefts.{no_label_done, nothing_done}
use Rattle.c25_move_lines.specs.declared.style.Style.{Style}
use Rattle.c25_move_lines.specs.declared.style.Style.TheVariants.{Early, Coff}
use Rattle.c25_move.specs.declared.region.Region.{Region}
use Rattle.c25_move.specs.declared.region.Region.TheVariants.{Outside, Body, Behind}
use Rattle.c25_line_faults.specs.Reading.{fault_in}
use Rattle.c25_move.specs.Promises.{IsUnreported, IsUnchanged, KeepsPromises, Stays, calls, fault_reported, refused_in, stays_put}
use Rattle.c25_move.specs.Rewritten.{Rewritten}

none_of : (o : Option FaultKind) → not (is_some o) ≡ true → o ≡ None
none_of None h = refl
none_of (Some f) h = absurd (false≢true h)

either_none : (b : Bool) (o : Option FaultKind) → o ≡ None → cond b o None ≡ None
either_none true o h = h
either_none false o h = refl

-- of a line that stays no fault is reported
none_reported : (style : Style) (macros : List (List ℕ)) (region : Region) (line : List ℕ) → stays_put style region line ≡ true → fault_reported macros region line ≡ None
none_reported style macros Behind line h = refl
none_reported style macros Body line h = refl
none_reported Coff macros Outside line h = either_none (not (calls macros line)) (fault_in line) (none_of (fault_in line) h)
none_reported Early macros Outside line h = absurd (false≢true h)

-- a line of the early style that stays comes after the end of the source
early_stays : (style : Style) (region : Region) (line : List ℕ) → stays_put style region line ≡ true → region ≢ Behind → style ≡ Early → ⊥
early_stays Coff region line h before early = cc
early_stays Early Behind line h before early = before refl
early_stays Early Outside line h before early = false≢true h
early_stays Early Body line h before early = false≢true h

all_kept : (style : Style) (region : Region) (m : Rewritten) → stays_put style region m.old ≡ true → region ≢ Behind → Stays m → KeepsAllValues style m.old m.lines m.done m.left
all_kept style region m h before s = record {
  rewritten = nothing_done style m.old m.lines m.done m.left s.unreported.done;
  early = λ early _. absurd (early_stays style region m.old h before early);
}

-- a line that stays keeps its promises
pub staying_keeps : (style : Style) (macros : List (List ℕ)) (region : Region) (scope : Scope) (m : Rewritten) → stays_put style region m.old ≡ true → Stays m
    → KeepsPromises style macros (record { region = region; scope = scope }) m
staying_keeps style macros region scope m h s = record {
  unreported_is_unchanged = λ _. s.unchanged;
  read_stays = λ _ _. s;
  behind_stays = λ _. s;
  refused_is_reported = s.unreported.refused ∙ sym (ap (refused_in macros region) s.unchanged ∙ ap (λ o. option_to_list o ++ []) (none_reported style macros region m.old h));
  values_are_kept = λ before _. all_kept style region m h before s;
  labels_are_kept = λ _ _. no_label_done style scope m.old m.lines m.done m.left s.unreported.done;
}

reads_put : (region : Region) (line : List ℕ) → fault_in line ≡ None → stays_put Coff region line ≡ true
reads_put Behind line h = refl
reads_put Outside line h = ap (λ o. not (is_some o)) h
reads_put Body line h = ap (λ o. not (is_some o)) h

behind_put : (style : Style) (line : List ℕ) → stays_put style Behind line ≡ true
behind_put Early line = refl
behind_put Coff line = refl

-- a line that is changed keeps its promises
pub changed_keeps : (style : Style) (macros : List (List ℕ)) (region : Region) (scope : Scope) (m : Rewritten) → stays_put style region m.old ≡ false → (IsUnreported m → IsUnchanged m) → m.refused ≡ refused_in macros region m.lines
    → (calls macros m.old ≡ false → KeepsAllValues style m.old m.lines m.done m.left)
    → (region ≡ Outside → calls macros m.old ≡ false → KeepsLabels style scope m.old m.lines m.done m.left)
    → KeepsPromises style macros (record { region = region; scope = scope }) m
changed_keeps style macros region scope m h unreported refused values labels = record {
  unreported_is_unchanged = unreported;
  read_stays = λ coff read. absurd (false≢true (sym h ∙ subst (λ (s : Style). stays_put s region m.old ≡ true) (sym coff) (reads_put region m.old read)));
  behind_stays = λ behind. absurd (false≢true (sym h ∙ subst (λ (r : Region). stays_put style r m.old ≡ true) (sym behind) (behind_put style m.old)));
  refused_is_reported = refused;
  values_are_kept = λ _. values;
  labels_are_kept = labels;
}
