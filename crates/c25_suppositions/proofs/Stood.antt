-- The instruction that a program has at an address, by the statements there.
use Rattle.std.proofs.Common.{◌≡◌, ℕ, ◌==◌, Bool, true, false, if◌then◌else◌, List, [], ◌∷◌, Option, None, Some, refl, ap, ◌∙◌, subst}
use Rattle.std.specs.Option.{option_and_then, option_map}
use Rattle.std.proofs.lemmas.Bool.{eqb-true}
use Rattle.c25_meaning_instructions.specs.declared.insn.Insn.{Insn}
use Rattle.c25_meaning_instructions.specs.Table.{InRange, words}
use Rattle.c25_meaning_processor.specs.State.{World, holds, under}
use Rattle.c25_meaning_processor.specs.Statements.{Copied, IsImageOf, Statements, copied_at, outside_b0, standing, standing_by, statement_at}

-- a statement that is found at an address of block B0 runs there
runs_there : (cs : List Copied) (pc : ℕ) (c : Copied) → copied_at cs pc ≡ Some c → c.run ≡ pc
unfolding copied_at
runs_there [] pc c e = absurd (cc)
runs_there (d ∷ cs) pc c e = go (d.run == pc) refl e (λ h. runs_there cs pc c h)
  where
    go : (b : Bool) → (d.run == pc) ≡ b → (if b then Some d else copied_at cs pc) ≡ Some c → (copied_at cs pc ≡ Some c → c.run ≡ pc) → c.run ≡ pc
    go true q h later = let same : d ≡ c = cc in subst (λ (x : Copied). x.run ≡ pc) same (eqb-true d.run pc q)
    go false q h later = later h

module _ (ss : Statements) (w : World) (pc : ℕ) where
  pub stands_as_data : standing ss false w pc ≡ option_and_then (outside_b0 false pc) (statement_at ss.plain pc)
  stands_as_data = go (copied_at ss.copied pc)
    where
      go : (o : Option Copied) → standing_by ss false w pc (option_and_then (under false) o) ≡ option_and_then (outside_b0 false pc) (statement_at ss.plain pc)
      go None = refl
      go (Some c) = refl

  pub stands_plainly : option_map (λ (c : Copied). c.insn) (copied_at ss.copied pc) ≡ None → standing ss true w pc ≡ option_and_then (outside_b0 true pc) (statement_at ss.plain pc)
  stands_plainly e = go (copied_at ss.copied pc) e
    where
      go : (o : Option Copied) → option_map (λ (c : Copied). c.insn) o ≡ None → standing_by ss true w pc (option_and_then (under true) o) ≡ option_and_then (outside_b0 true pc) (statement_at ss.plain pc)
      go None q = refl
      go (Some c) q = absurd (cc)

  pub stands_held : (i : Insn) → option_map (λ (c : Copied). c.insn) (copied_at ss.copied pc) ≡ Some i → (b : Bool) → holds w pc (words i) ≡ b → standing ss true w pc ≡ (if b then Some i else None)
  stands_held i e b h = go (copied_at ss.copied pc) refl e
    where
      go : (o : Option Copied) → copied_at ss.copied pc ≡ o → option_map (λ (c : Copied). c.insn) o ≡ Some i → standing_by ss true w pc (option_and_then (under true) o) ≡ (if b then Some i else None)
      go None q f = absurd (cc)
      go (Some c) q f =
          let same : c.insn ≡ i = cc in
          ap (λ (p : ℕ). if holds w p (words c.insn) then Some c.insn else None) (runs_there ss.copied pc c q)
          ∙ ap (λ (j : Insn). if holds w pc (words j) then Some j else None) same
          ∙ ap (λ (x : Bool). if x then Some i else None) h

  pub copied_in_range : IsImageOf ss w → (i : Insn) → option_map (λ (c : Copied). c.insn) (copied_at ss.copied pc) ≡ Some i → InRange i
  copied_in_range image i e = go (copied_at ss.copied pc) refl e
    where
      go : (o : Option Copied) → copied_at ss.copied pc ≡ o → option_map (λ (c : Copied). c.insn) o ≡ Some i → InRange i
      go None q f = absurd (cc)
      go (Some c) q f = let same : c.insn ≡ i = cc in subst InRange same (image.copied_reads pc c q).in_range
