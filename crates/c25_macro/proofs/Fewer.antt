-- A line that is given was read, so fewer may be read after it.
use Rattle.std.proofs.Common.{◌≡◌, ℕ, ◌<◌, List, Option, Some, None, Result, Ok, Err, IfOk, IfSome, refl, ap, subst}
use Rattle.c25_meaning_expansion.specs.Files.{Files}
use Rattle.c25_meaning_language.specs.Value.{Table}
use Rattle.c25_meaning_expansion.specs.Expansion.{Config, Rewriting, Gives, Goes, Finishes, Faults, Misses}
use Rattle.c25_meaning_expansion.specs.ExpansionAnswers.{ExpandedLine, given_by}
use Rattle.c25_meaning_expansion.specs.ExpansionRuns.{first, weight}
use Rattle.c25_meaning_expansion.specs.LeftOut.{first_left_out}
use Rattle.c25_meaning_common.specs.declared.failure.Failure.{Failure}
use Rattle.c25_meaning_expansion.proofs.ExpansionFalls.{Falls}
use Rattle.c25_meaning_expansion.proofs.ExpansionFirst.{first_giving}
use Rattle.c25_meaning_expansion.proofs.LeavingOut.{first_gives_less, first_left_out_falls}
use Rattle.c25_macro.specs.Expander.{ExpandFault, Stage, Stands, Absent, Failed, shown, IsNextAt, left_of}
use Rattle.c25_macro.specs.NextLines as next_lines
use Rattle.c25_macro.specs.NextLines.{IsLighter}
use Rattle.c25_macro.specs.declared.answer.ExpLine.{ExpLine}
use Rattle.c25_macro.specs.declared.answer.NextLine.{NextLine}
use Rattle.c25_macro.specs.declared.answer.NextLine.TheVariants.{Given, LeftOut, Finished}

same : {A : Type 0} (x y : A) → Some x ≡ Some y → x ≡ y
same x y e = cc

by_given : (files : Files) (s : Table) (c d : Config) (l : ExpandedLine) (r : Rewriting) → first files s c ≡ r → given_by files r ≡ Some (l, d) → d.left < c.left
by_given files s c d l (Gives row e) f g = subst (λ (x : Config). x.left < c.left) (ap (λ p. p.1) (same _ _ g)) (first_giving files s c e row f).1
by_given files s c d l (Goes e) f g = absurd (cc)
by_given files s c d l (Finishes e) f g = absurd (cc)
by_given files s c d l (Faults place kind) f g = absurd (cc)
by_given files s c d l (Misses place name) f g = absurd (cc)

pub fewer : (files : Files) (name : List ℕ) (old : Stage) (s : Table) (result : Result (Option ExpLine) (Failure ExpandFault)) (new : Stage) → IsNextAt files name old s result new → IfOk result (λ o. IfSome o (λ _. left_of new < left_of old))
fewer files name (Stands c) s (Ok (Some line)) (Stands d) h = by_given files s c d (shown line) (first files s c) refl h
fewer files name (Stands c) s (Ok (Some line)) Absent h = absurd h
fewer files name (Stands c) s (Ok (Some line)) (Failed f) h = absurd h
fewer files name (Stands c) s (Ok None) new h = tt
fewer files name (Stands c) s (Err e) new h = tt
fewer files name Absent s (Ok o) new h = absurd h
fewer files name Absent s (Err e) new h = tt
fewer files name (Failed f) s (Ok o) new h = absurd h
fewer files name (Failed f) s (Err e) new h = tt

-- ---- where lines that are refused are left out

by_given_lighter : (files : Files) (s : Table) (c d : Config) (l : ExpandedLine) (r : Rewriting) → first files s c ≡ r → given_by files r ≡ Some (l, d) → weight d < weight c
by_given_lighter files s c d l (Gives row e) f g = subst (λ (x : Config). weight x < weight c) (ap (λ p. p.1) (same _ _ g)) (first_gives_less files s c e row f)
by_given_lighter files s c d l (Goes e) f g = absurd (cc)
by_given_lighter files s c d l (Finishes e) f g = absurd (cc)
by_given_lighter files s c d l (Faults place kind) f g = absurd (cc)
by_given_lighter files s c d l (Misses place name) f g = absurd (cc)

left_lighter : (c d : Config) (o : Option Config) → IfSome o (Falls c) → o ≡ Some d → weight d < weight c
left_lighter c d None h is = absurd (cc)
left_lighter c d (Some e) h is = subst (λ (x : Config). weight x < weight c) (same e d is) h.weighs_less

pub lighter : (files : Files) (name : List ℕ) (old : Stage) (s : Table) (result : Result NextLine (Failure ExpandFault)) (new : Stage) → next_lines.IsNextAt files name old s result new
    → IfOk result (λ next. IsLighter next old new)
lighter files name (Stands c) s (Ok (Given line)) (Stands d) h = by_given_lighter files s c d (shown line) (first files s c) refl h
lighter files name (Stands c) s (Ok (Given line)) Absent h = absurd h
lighter files name (Stands c) s (Ok (Given line)) (Failed f) h = absurd h
lighter files name (Stands c) s (Ok (LeftOut f)) (Stands d) h = left_lighter c d (first_left_out files s c) (first_left_out_falls files s c) h.1
lighter files name (Stands c) s (Ok (LeftOut f)) Absent h = absurd h
lighter files name (Stands c) s (Ok (LeftOut f)) (Failed e) h = absurd h
lighter files name (Stands c) s (Ok Finished) new h = tt
lighter files name (Stands c) s (Err e) new h = tt
lighter files name Absent s (Ok o) new h = absurd h
lighter files name Absent s (Err e) new h = tt
lighter files name (Failed f) s (Ok o) new h = absurd h
lighter files name (Failed f) s (Err e) new h = tt
