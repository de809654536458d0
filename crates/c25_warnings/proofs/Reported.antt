-- Warnings, one after another.
use Rattle.std.proofs.Common.{◌≡◌, ℕ, Bool, true, false, cond, List, [], ◌∷◌, ◌++◌, ◌||◌, refl, ap, sym, ◌∙◌}
use Rattle.std.specs.List.{list_any}
use Rattle.c25_line_warnings.specs.SourceLine.{SourceLine}
use Rattle.c25_line_warnings.specs.declared.warning_kind.WarningKind.{WarningKind}
use Rattle.c25_warnings.specs.View.{warning_of, warnings_view}
use Rattle.c25_warnings.specs.Warnings as meaning
use Rattle.c25_warnings.specs.Warnings.{at_line, same, with_new}
use Rattle.c25_warnings.specs.declared.warning.Warning.{Warning}

-- a warning of a line with this text and this name
pub named : (l : SourceLine) (kind : WarningKind) (text name given : List ℕ) → text ≡ l.text → name ≡ given
    → record { kind = kind; file = l.file; line = l.line; text = text; name = name } ≡ at_line l kind given
named l kind text name given same is =
    let made : List ℕ → List ℕ → meaning.Warning = λ t n. record { kind = kind; file = l.file; line = l.line; text = t; name = n } in
    ap (λ t. made t name) same ∙ ap (made l.text) is

-- one warning more
view-push : (ws : List Warning) (w : Warning) → warnings_view (ws ++ w ∷ []) ≡ warnings_view ws ++ warning_of w ∷ []
view-push [] w = refl
view-push (x ∷ ws) w = ap (λ vs. warning_of x ∷ vs) (view-push ws w)

-- whether a warning is among others
any-view : (p : meaning.Warning → Bool) (ws : List Warning) → list_any p (warnings_view ws) ≡ list_any (λ v. p (warning_of v)) ws
any-view p [] = refl
any-view p (x ∷ ws) = ap (λ b. p (warning_of x) || b) (any-view p ws)

by_test : (seen : List meaning.Warning) (m : meaning.Warning) (b : Bool) → list_any (same m) seen ≡ b → with_new seen m ≡ cond b seen (seen ++ m ∷ [])
unfolding with_new
by_test seen m b e = ap (λ t. cond t seen (seen ++ m ∷ [])) e

-- a warning that is new
pub added : (ws new : List Warning) (w : Warning) → list_any (λ v. same (warning_of w) (warning_of v)) ws ≡ false → new ≡ ws ++ w ∷ []
    → warnings_view new ≡ with_new (warnings_view ws) (warning_of w)
added ws new w none is =
    ap warnings_view is ∙ view-push ws w ∙ sym (by_test (warnings_view ws) (warning_of w) false (any-view (same (warning_of w)) ws ∙ none))

-- a warning that is not
pub kept : (ws : List Warning) (w : Warning) → list_any (λ v. same (warning_of w) (warning_of v)) ws ≡ true
    → warnings_view ws ≡ with_new (warnings_view ws) (warning_of w)
kept ws w some = sym (by_test (warnings_view ws) (warning_of w) true (any-view (same (warning_of w)) ws ∙ some))
