-- Rewriting ends and stays in bounds: each rewriting reads one of the lines that may be read, acts on one
-- whose label was given, or takes an end away.
use Rattle.std.proofs.Common.{◌≡◌, ℕ, ◌+◌, ◌*◌, ◌-◌, ◌==◌, ◌<◌, ◌≤◌, Bool, true, false, not, ◌&&◌, nat_lt, if◌then◌else◌, List, [], ◌∷◌, ◌++◌, map, length, refl, ap, subst, arith, sum_by}
use Rattle.std.proofs.lemmas.Bool.Decides.{nat_tests}
use Rattle.c25_meaning_language.specs.Value.{Table}
use Rattle.c25_meaning_expansion.specs.Files.{Files}
use Rattle.c25_meaning_expansion.specs.Rows.{Row, is_empty}
use Rattle.c25_meaning_expansion.specs.Acts.{ExpansionAct}
use Rattle.c25_meaning_expansion.specs.Expansion.{LineOrEnd, Read, Close, Kind, Copied, Expanded, Turn, SourceFrame, Mode, Reading, Acting, InMacro, InLoop, Config, Rewriting, Gives, Goes, Finishes, Faults, Misses}
use Rattle.c25_meaning_expansion.specs.ExpansionRules.{acts}
use Rattle.c25_meaning_expansion.specs.ExpansionRuns.{read_by, is_closed, back, ended, front, rewrite_by, rewrite, front_weight, mode_weight, weight}
use Rattle.c25_meaning_expansion.specs.ExpansionBounds.{nested_of, pending, collecting, deepest, IsBounded}
use Rattle.c25_meaning_expansion.proofs.ExpansionActs.{Comes, gives, goes, faults, misses, IsIdle, Acted, Never, acted, blocks_in, count_stays}
use Rattle.c25_meaning_expansion.proofs.ExpansionLines.{Took, Takes, takes_read}
use Rattle.c25_meaning_common.specs.declared.placed.FileLine.{FileLine}

-- less is left to rewrite, and what was in bounds is
pub record Falls (c d : Config) : Type 0 where
  pub weighs_less : weight d < weight c
  pub left : d.left ≤ c.left
  pub bounded : IsBounded c → IsBounded d

-- less is left to rewrite after every rewriting that goes on; one that gives a line leaves fewer to be read;
-- the end changes nothing
abbrev pub After : Config → Rewriting → Type 0
After c (Goes d) = Falls c d
After c (Gives row d) = Falls c d × (d.left < c.left)
After c (Finishes d) = d ≡ c
After c (Faults place kind) = Unit {0}
After c (Misses place name) = Unit {0}

front_small : (items : List LineOrEnd) → front_weight items ≤ 1
front_small [] = omega arith
front_small (Close ∷ items) = omega arith
front_small (Read row ∷ items) = omega arith

waiting : (m : Mode) → mode_weight m ≡ 4 * pending m
waiting Reading = refl
waiting (Acting place act) = refl
waiting (InMacro name parameters body nested) = refl
waiting (InLoop turns body nested) = refl

pub idle : IsIdle Reading
idle = record { nested = refl; nothing_waits = refl; no_loop = refl }

-- ---- a line whose label was given

pub falls_acted : (place : FileLine ℕ) (act : ExpansionAct) (c d : Config) → c.mode ≡ Acting place act → Acted (record c { mode = Reading }) d → Falls c d
falls_acted place act c d e h =
    let pends = ap pending e in
    let nested = ap nested_of e in
    let collects = ap collecting e in
    record {
      weighs_less = omega (arith, h, waiting c.mode, waiting d.mode, front_small d.lines);
      left = omega (arith, h);
      bounded = λ bounds. omega (arith, h, bounds);
    }

after_acted : (place : FileLine ℕ) (act : ExpansionAct) (c : Config) (r : Rewriting) → c.mode ≡ Acting place act → Comes (Acted (record c { mode = Reading })) Never r → After c r
after_acted place act c _ e (goes {d = d} h) = falls_acted place act c d e h
after_acted place act c _ e (gives h) = absurd h
after_acted place act c _ e faults = tt
after_acted place act c _ e misses = tt

-- ---- a line that is read

pub falls_took : (row : Row) (rest : List LineOrEnd) (c d : Config) → 0 < c.left → Took c.mode (record c { lines = rest; mode = Reading; left = c.left - 1 }) d → Falls c d
falls_took row rest c d some h =
    record {
      weighs_less = omega (arith, h, waiting c.mode, waiting d.mode, front_small d.lines);
      left = omega (arith, h);
      bounded = λ bounds. omega (arith, h, bounds);
    }

after_took : (row : Row) (rest : List LineOrEnd) (c : Config) (r : Rewriting) → 0 < c.left → Takes c.mode (record c { lines = rest; mode = Reading; left = c.left - 1 }) r → After c r
after_took row rest c _ some (goes {d = d} h) = falls_took row rest c d some h
after_took row rest c _ some (gives {d = d} h) = (falls_took row rest c d some h, omega (arith, h))
after_took row rest c _ some faults = tt
after_took row rest c _ some misses = tt

-- ---- an end

after_back : (rest : List LineOrEnd) (outer : List SourceFrame) (c : Config) → front_weight c.lines ≡ 1 → c.outer ≡ outer → After c (back rest outer c)
after_back rest [] c e same = refl
after_back rest (f ∷ fs) c e same =
    let frames = ap length same in
    let deep = ap deepest same in
    let around = ap (sum_by (λ g. length g.branches + 1)) same in
    record {
      weighs_less = omega (arith, front_small rest);
      left = omega arith;
      bounded = λ bounds. omega (arith, bounds, blocks_in f fs, count_stays c.frame.kind c.names);
    }

after_cond : (c : Config) (b : Bool) (x y : Rewriting) → (b ≡ true → After c x) → (b ≡ false → After c y) → After c (if b then x else y)
after_cond c true x y h k = h refl
after_cond c false x y h k = k refl

after_turn : (body : List Row) (more : ℕ) (rest : List LineOrEnd) (c : Config) (b : Bool) → b ≡ (nat_lt 0 more && not (is_empty body)) → front_weight c.lines ≡ 1 →
    After c (if b then Goes (record c { lines = map Read body ++ Close ∷ rest; frame = record { kind = Turn body (more - 1); last = c.frame.last; branches = [] } }) else back rest c.outer c)
after_turn [] more rest c true e f = absurd (none (nat_lt 0 more) e)
  where
    none : (b : Bool) → true ≡ (b && false) → ⊥
    none true e = cc
    none false e = cc
after_turn (row ∷ body) more rest c true e f =
    record {
      weighs_less = omega (arith, f);
      left = omega arith;
      bounded = λ bounds. omega (arith, bounds);
    }
after_turn body more rest c false e f = after_back rest c.outer c f refl

after_ended : (kind : Kind) (rest : List LineOrEnd) (c : Config) → front_weight c.lines ≡ 1 → After c (ended kind rest c)
after_ended Copied rest c e = after_back rest c.outer c e refl
after_ended Expanded rest c e = after_back rest c.outer c e refl
after_ended (Turn body more) rest c e = after_turn body more rest c _ refl e

-- ---- any rewriting

module _ (files : Files) (s : Table) where
  after_front : (items : List LineOrEnd) (c : Config) → c.lines ≡ items → After c (front files s items c)
  after_front (Read row ∷ rest) c e = after_cond c (c.left == 0) _ (read_by files s row c.mode (record c { lines = rest; mode = Reading; left = c.left - 1 })) (λ _. tt)
      (λ some. after_took row rest c _ (grind (arith, nat_tests)) (takes_read files s row c.mode (record c { lines = rest; mode = Reading; left = c.left - 1 }) idle))
  after_front (Close ∷ rest) c e = after_cond c (is_closed c) (ended c.frame.kind rest c) _ (λ _. after_ended c.frame.kind rest c (ap front_weight e)) (λ _. tt)
  after_front [] c e = after_cond c (is_closed c) (Finishes c) _ (λ _. refl) (λ _. tt)

  after_by : (m : Mode) (c : Config) → c.mode ≡ m → After c (rewrite_by files s m c)
  after_by (Acting place act) c e = after_acted place act c (acts files s place act (record c { mode = Reading })) e (acted files s place act (record c { mode = Reading }) idle)
  after_by m c e = after_front c.lines c refl

  -- what every rewriting does
  pub after_rewrite : (c : Config) → After c (rewrite files s c)
  unfolding rewrite
  after_rewrite c = after_by c.mode c refl

  pub falls_going : (c d : Config) → rewrite files s c ≡ Goes d → Falls c d
  falls_going c d e = subst (After c) e (after_rewrite c)

  pub falls_giving : (c d : Config) (row : Row) → rewrite files s c ≡ Gives row d → Falls c d
  falls_giving c d row e = (subst (After c) e (after_rewrite c)).0

  -- a line that is given was read
  pub given_was_read : (c d : Config) (row : Row) → rewrite files s c ≡ Gives row d → d.left < c.left
  given_was_read c d row e = (subst (After c) e (after_rewrite c)).1

  pub same_finishing : (c d : Config) → rewrite files s c ≡ Finishes d → d ≡ c
  same_finishing c d e = subst (After c) e (after_rewrite c)
