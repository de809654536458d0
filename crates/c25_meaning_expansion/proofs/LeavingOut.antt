-- After a line that is left out less is left to rewrite, and what was in bounds is.
use Rattle.std.proofs.Common.{◌≡◌, ℕ, zero, suc, ◌+◌, ◌*◌, ◌-◌, ◌==◌, ◌<◌, ◌≤◌, Bool, true, false, cond, if◌then◌else◌, List, [], ◌∷◌, length, drop, IfSome, Option, Some, None, unwrap_or, refl, ap, sym, ◌∙◌, subst, arith}
use Rattle.std.proofs.lemmas.Bool.Decides.{nat_tests}
use Rattle.c25_meaning_language.specs.Line.{first_word}
use Rattle.c25_meaning_language.specs.Value.{Table}
use Rattle.c25_meaning_language.specs.declared.statement.FaultKind.{FaultKind}
use Rattle.c25_meaning_language.specs.declared.statement.FaultKind.TheVariants as fault
use Rattle.c25_meaning_expansion.specs.Acts.{ExpansionAct}
use Rattle.c25_meaning_expansion.specs.Expansion.{LineOrEnd, Read, Close, Mode, Reading, Acting, InMacro, InLoop, Config, Rewriting, Gives, Goes, Finishes, Faults, Misses, is_full, is_turn, depth, left_through, with_branches}
use Rattle.c25_meaning_expansion.specs.ExpansionBounds.{IsBounded, IsLast, nesting, nested_of, pending, collecting}
use Rattle.c25_meaning_expansion.specs.ExpansionRules.{directive_in}
use Rattle.c25_meaning_expansion.specs.ExpansionRuns.{Leads, first, front, front_weight, mode_weight, rewrite, rewrite_by, read_by, weight}
use Rattle.c25_meaning_expansion.specs.Files.{Files}
use Rattle.c25_meaning_expansion.specs.Rows.{Row}
use Rattle.c25_meaning_expansion.specs.LeftOut.{stopped_by, stopped_within, stopped, passed_over, innermost_passed_over, without, directive_by, next_left_out, ends_reading, left_out, first_left_out}
use Rattle.c25_meaning_expansion.specs.declared.expansion.Branch.{Branch}
use Rattle.c25_meaning_expansion.specs.declared.expansion.Directive.{Directive}
use Rattle.c25_meaning_expansion.specs.declared.expansion.Directive.TheVariants as directive
use Rattle.c25_meaning_expansion.specs.declared.expansion.Phase.{Phase}
use Rattle.c25_meaning_expansion.specs.declared.expansion.Phase.TheVariants.{Seeking, Taking, Passing, ElseTaking, ElsePassing}
use Rattle.c25_meaning_expansion.proofs.ExpansionActs.{Acted, IsIdle, acted_branches, acted_left, not_full}
use Rattle.c25_meaning_expansion.proofs.ExpansionFalls.{Falls, falls_acted, falls_giving, falls_going, falls_took, idle}
use Rattle.c25_meaning_expansion.proofs.ExpansionFirst.{Stays, first_is_last, first_reached, stays_along}
use Rattle.c25_meaning_expansion.proofs.ExpansionLines.{Took}

-- ---- a line that is left out

passed_nests : (b : Branch) (phase : Phase) → (passed_over b phase).nested ≡ b.nested
passed_nests b Seeking = refl
passed_nests b Taking = refl
passed_nests b Passing = refl
passed_nests b ElseTaking = refl
passed_nests b ElsePassing = refl

passed_nesting : (bs : List Branch) → nesting (innermost_passed_over bs) ≤ nesting bs
passed_nesting [] = omega arith
passed_nesting (b ∷ bs) = omega (arith, passed_nests b b.phase)

passed_length : (bs : List Branch) → length (innermost_passed_over bs) ≤ length bs
passed_length [] = omega arith
passed_length (b ∷ bs) = omega arith

closed_nesting : (bs : List Branch) → nesting (drop 1 bs) ≤ nesting bs
closed_nesting [] = omega arith
closed_nesting (b ∷ bs) = omega arith

closed_length : (bs : List Branch) → length (drop 1 bs) ≤ length bs
closed_length [] = omega arith
closed_length (b ∷ bs) = omega arith

module _ (c : Config) (h : IsIdle c.mode) where
  unchanged : Acted c c
  unchanged = omega (arith, h)

  unless_full : (d : Config) (b : Bool) → (b ≡ false → Acted c d) → IfSome (if b then None else Some d) (Acted c)
  unless_full d true acted = tt
  unless_full d false acted = acted refl

  left_or : (o : Option Config) → IfSome o (Acted c) → Acted c (unwrap_or o c)
  left_or None h = unchanged
  left_or (Some d) h = h

  passes : Acted c (with_branches (innermost_passed_over c.frame.branches) c)
  passes = acted_branches (innermost_passed_over c.frame.branches) c.frame.branches c h refl (passed_nesting c.frame.branches) (passed_length c.frame.branches)

  -- a line that is left out changes no more than one that is acted on
  pub without_acts : (d : Option Directive) → IfSome (without d c) (Acted c)
  without_acts None = unchanged
  without_acts (Some directive.If) = unless_full _ (is_full c) (λ room. omega (arith, h, not_full c room))
  without_acts (Some directive.ElseIf) = passes
  without_acts (Some directive.Else) = passes
  without_acts (Some directive.EndIf) = acted_branches (drop 1 c.frame.branches) c.frame.branches c h refl (closed_nesting c.frame.branches) (closed_length c.frame.branches)
  without_acts (Some directive.Macro) = omega (arith, h)
  without_acts (Some directive.EndMacro) = unchanged
  without_acts (Some directive.ExitMacro) = unchanged
  without_acts (Some directive.Loop) = unless_full _ (is_full c) (λ room. omega (arith, h, not_full c room))
  without_acts (Some directive.Break) = left_or (left_through is_turn c.lines c.frame c.outer c.names c)
      (acted_left is_turn c.lines c.frame c.outer c.names c h (omega arith) (omega arith) refl (omega arith))
  without_acts (Some directive.EndLoop) = unchanged
  without_acts (Some directive.Assign) = unchanged
  without_acts (Some directive.Evaluate) = unchanged
  without_acts (Some directive.Copy) = unchanged
  without_acts (Some directive.End) = unchanged

took_acted : (c d : Config) → IsIdle c.mode → Acted c d → Took Reading c d
took_acted c d idle h = omega (arith, h)

some_falls : (c : Config) (P : Config → Type 0) → ((d : Config) → P d → Falls c d) → (o : Option Config) → IfSome o P → IfSome o (Falls c)
some_falls c P falls None h = tt
some_falls c P falls (Some d) h = falls d h

-- after the next line is left out less is left to rewrite; one that is read may be read
next_falls : (m : Mode) (items : List LineOrEnd) (c : Config) → c.mode ≡ m → (m ≡ Reading → (row : Row) (rest : List LineOrEnd) → items ≡ Read row ∷ rest → 0 < c.left)
    → IfSome (next_left_out m items c) (Falls c)
next_falls (Acting place act) items c e some =
    some_falls c (Acted (record c { mode = Reading })) (λ d h. falls_acted place act c d e h) (without (directive_by act) (record c { mode = Reading }))
    (without_acts (record c { mode = Reading }) idle (directive_by act))
next_falls Reading (Read row ∷ rest) c e some =
    let next : Config = record c { lines = rest; mode = Reading; left = c.left - 1 } in
    some_falls c (Acted next) (λ d h. falls_took row rest c d (some refl row rest refl) (subst (λ (x : Mode). Took x next d) (sym e) (took_acted next d idle h))) (without (directive_in (first_word row.text)) next)
    (without_acts next idle (directive_in (first_word row.text)))
next_falls Reading (Close ∷ rest) c e some = tt
next_falls Reading [] c e some = tt
next_falls (InMacro name parameters body nested) items c e some = tt
next_falls (InLoop turns body nested) items c e some = tt

-- after the line of a refused rewriting is left out less is left to rewrite; one that is read may be read
refused_falls : (r : Rewriting) (c : Config) → (c.mode ≡ Reading → (row : Row) (rest : List LineOrEnd) → c.lines ≡ Read row ∷ rest → 0 < c.left) → IfSome (left_out r c) (Falls c)
refused_falls (Faults place kind) c some = on (ends_reading kind)
  where
    on : (b : Bool) → IfSome (cond b None (next_left_out c.mode c.lines c)) (Falls c)
    on true = tt
    on false = next_falls c.mode c.lines c refl some
refused_falls (Misses place name) c some = next_falls c.mode c.lines c refl some
refused_falls (Gives row d) c some = tt
refused_falls (Goes d) c some = tt
refused_falls (Finishes d) c some = tt

module _ (files : Files) (s : Table) where
  -- no line may be read
  none_left : (m : Mode) (items : List LineOrEnd) (c : Config) → c.mode ≡ m → c.lines ≡ items → (c.left == 0) ≡ true → IfSome (left_out (rewrite_by files s m c) c) (Falls c)
  none_left Reading (Read row ∷ rest) c e f none =
      let is : rewrite_by files s Reading c ≡ Faults row.place fault.Lines =
      ap (λ items. front files s items c) f ∙ ap (λ b. if b then Faults row.place fault.Lines else read_by files s row c.mode (record c { lines = rest; mode = Reading; left = c.left - 1 })) none in
      subst (λ (r : Rewriting). IfSome (left_out r c) (Falls c)) (sym is) tt
  none_left Reading (Close ∷ items) c e f none = refused_falls _ c (λ _ row rest g. absurd (let both : Close ∷ items ≡ Read row ∷ rest = sym f ∙ g in cc))
  none_left Reading [] c e f none = refused_falls _ c (λ _ row rest g. absurd (let both : [] ≡ Read row ∷ rest = sym f ∙ g in cc))
  none_left (Acting place act) items c e f none = refused_falls _ c (λ g row rest _. absurd (let both : Acting place act ≡ Reading = sym e ∙ g in cc))
  none_left (InMacro name parameters body nested) items c e f none = refused_falls _ c (λ g row rest _. absurd (let both : InMacro name parameters body nested ≡ Reading = sym e ∙ g in cc))
  none_left (InLoop turns body nested) items c e f none = refused_falls _ c (λ g row rest _. absurd (let both : InLoop turns body nested ≡ Reading = sym e ∙ g in cc))

  -- after the line of a rewriting is left out less is left to rewrite, and what was in bounds is
  pub left_out_falls : (c : Config) → IfSome (left_out (rewrite files s c) c) (Falls c)
  unfolding rewrite
  left_out_falls c = on (c.left == 0) refl
    where
      on : (b : Bool) → (c.left == 0) ≡ b → IfSome (left_out (rewrite_by files s c.mode c) c) (Falls c)
      on true none = none_left c.mode c.lines c refl refl none
      on false some = refused_falls _ c (λ _ row rest g. grind (arith, nat_tests, some))

  -- ---- where the first line is refused

  stopped_none : (r : Rewriting) (c : Config) (f : Config → Config) → ((d : Config) → r ≡ Goes d → ⊥) → stopped_by r c f ≡ c
  stopped_none (Goes d) c f never = absurd (never d refl)
  stopped_none (Gives row d) c f never = refl
  stopped_none (Finishes d) c f never = refl
  stopped_none (Faults place kind) c f never = refl
  stopped_none (Misses place name) c f never = refl

  stopped_same : (r : Rewriting) (c : Config) (f g : Config → Config) → ((d : Config) → r ≡ Goes d → f d ≡ g d) → stopped_by r c f ≡ stopped_by r c g
  stopped_same (Goes d) c f g h = h d refl
  stopped_same (Gives row d) c f g h = refl
  stopped_same (Finishes d) c f g h = refl
  stopped_same (Faults place kind) c f g h = refl
  stopped_same (Misses place name) c f g h = refl

  stopped_enough : (m k : ℕ) (c : Config) → weight c ≤ m → weight c ≤ k → stopped_within files s m c ≡ stopped_within files s k c
  unfolding stopped_within
  stopped_enough zero zero c h i = refl
  stopped_enough zero (suc k) c h i = sym (stopped_none (rewrite files s c) c _ (λ d e. omega (arith, (falls_going files s c d e).weighs_less)))
  stopped_enough (suc m) zero c h i = stopped_none (rewrite files s c) c _ (λ d e. omega (arith, (falls_going files s c d e).weighs_less))
  stopped_enough (suc m) (suc k) c h i =
      stopped_same (rewrite files s c) c _ _ (λ d e. stopped_enough m k d (omega (arith, (falls_going files s c d e).weighs_less)) (omega (arith, (falls_going files s c d e).weighs_less)))

  stopped_going : (c d : Config) → rewrite files s c ≡ Goes d → stopped files s c ≡ stopped files s d
  unfolding stopped stopped_within
  stopped_going c d e =
      stopped_enough (weight c) (suc (weight c)) c (omega arith) (omega arith) ∙ (ap (λ r. stopped_by r c (stopped_within files s (weight c))) e
      ∙ stopped_enough (weight c) (weight d) d (omega (arith, (falls_going files s c d e).weighs_less)) (omega arith))

  stopped_along : (n : ℕ) (old c : Config) → Leads files s n old c → stopped files s old ≡ stopped files s c
  stopped_along zero old c h = ap (stopped files s) h
  stopped_along (suc n) old c h = stopped_along n old h.0 h.1 ∙ stopped_going h.0 c h.2

  never_goes : (r : Rewriting) → IsLast r → (d : Config) → r ≡ Goes d → ⊥
  never_goes (Goes c) last d e = last
  never_goes (Gives row c) last d e = absurd (cc)
  never_goes (Finishes c) last d e = absurd (cc)
  never_goes (Faults place kind) last d e = absurd (cc)
  never_goes (Misses place name) last d e = absurd (cc)

  -- rewritings that merely go on lead to the configuration before the first one that does not
  pub stopped_at : (n : ℕ) (old c : Config) → Leads files s n old c → IsLast (rewrite files s c) → stopped files s old ≡ c
  unfolding stopped stopped_within
  stopped_at n old c leads last =
      stopped_along n old c leads
      ∙ (stopped_enough (weight c) (suc (weight c)) c (omega arith) (omega arith) ∙ stopped_none (rewrite files s c) c _ (never_goes (rewrite files s c) last))

  weighs_along : (n : ℕ) (old new : Config) → Leads files s n old new → weight new ≤ weight old
  weighs_along zero old new h = subst (λ (x : Config). weight x ≤ weight old) h (omega arith)
  weighs_along (suc n) old new (mid, before, goes_on) = omega (arith, weighs_along n old mid before, (falls_going files s mid new goes_on).weighs_less)

  falls_after : (n : ℕ) (old mid : Config) → Leads files s n old mid → (o : Option Config) → IfSome o (Falls mid) → IfSome o (Falls old)
  falls_after n old mid leads None h = tt
  falls_after n old mid leads (Some d) h =
      let so_far = stays_along files s n old mid leads in
      record {
        weighs_less = omega (arith, weighs_along n old mid leads, h.weighs_less);
        left = omega (arith, so_far.left, h.left);
        bounded = λ bounds. h.bounded (so_far.bounded bounds);
      }

  -- the same of the first line that is refused
  pub first_left_out_falls : (c : Config) → IfSome (first_left_out files s c) (Falls c)
  first_left_out_falls c =
      let reached = first_reached files s c in
      let last = subst IsLast (sym reached.3) (first_is_last files s c) in
      let at : stopped files s c ≡ reached.1 = stopped_at reached.0 c reached.1 reached.2 last in
      subst (λ (x : Config). IfSome (left_out (first files s c) x) (Falls c)) (sym at)
      (subst (λ (r : Rewriting). IfSome (left_out r reached.1) (Falls c)) reached.3 (falls_after reached.0 c reached.1 reached.2 _ (left_out_falls reached.1)))

  -- less is left to rewrite after a line is given
  pub first_gives_less : (c d : Config) (row : Row) → first files s c ≡ Gives row d → weight d < weight c
  first_gives_less c d row e =
      let reached = first_reached files s c in
      let falls = falls_giving files s reached.1 d row (reached.3 ∙ e) in
      omega (arith, weighs_along reached.0 c reached.1 reached.2, falls.weighs_less)
