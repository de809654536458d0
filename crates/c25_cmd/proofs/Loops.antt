-- Reading one thing after another, as a loop does.
use Rattle.std.proofs.Common.{◌≡◌, ℕ, zero, suc, ◌-◌, ◌+◌, ◌≤◌, ◌<◌, true, false, List, Ok, Err, refl, sym, ◌∙◌, arith}
use Rattle.c25_meaning_linking.specs.declared.command_token.Want.{Want}
use Rattle.c25_meaning_linking.specs.CommandTokens.{Token}
use Rattle.c25_meaning_linking.specs.CommandGrammar.{Reading, repeated, begins}
use Rattle.c25_meaning_common.specs.Results.{Fails}
use Rattle.c25_meaning_common.specs.declared.placed.Placed.{Placed}
use Rattle.c25_meaning_linking.specs.declared.command_fault.CommandFault.{CommandFault}
use Rattle.c25_meaning_common.specs.declared.failure.Failure.{Failure}
use Rattle.c25_meaning_common.specs.declared.failure.Failure.TheVariants.{NoMemory, Fault}

module _ {S : Type 0} (last : Want) (one : S → List Token → Reading S) where
  ended : (n : ℕ) (s : S) (ts : List Token) → begins last ts ≡ true → repeated last one n s ts ≡ Ok (s, ts)
  unfolding repeated
  ended zero s ts h = refl
  ended (suc n) s ts h = rw h refl

  pub stops : (count i : ℕ) (s : S) (ts : List Token) (total : Reading S) → begins last ts ≡ true
      → repeated last one (count - i) s ts ≡ total → total ≡ Ok (s, ts)
  stops count i s ts total h so_far = sym so_far ∙ ended (count - i) s ts h

  pub is_spent : (count i : ℕ) (s : S) (ts : List Token) (total : Reading S) → count ≤ i
      → repeated last one (count - i) s ts ≡ total → total ≡ Ok (s, ts)
  unfolding repeated
  is_spent count i s ts total le so_far =
      let k : count - i ≡ 0 = omega arith in
      let one_step : repeated last one (count - i) s ts ≡ Ok (s, ts) = rw k refl in
      sym so_far ∙ one_step

  pub goes_on : (count i : ℕ) (s : S) (ts : List Token) (s' : S) (ts' : List Token) (total : Reading S) → i < count → begins last ts ≡ false
      → one s ts ≡ Ok (s', ts') → repeated last one (count - i) s ts ≡ total → repeated last one (count - (i + 1)) s' ts' ≡ total
  unfolding repeated
  goes_on count i s ts s' ts' total lt h step so_far =
      let k : count - i ≡ suc (count - (i + 1)) = omega arith in
      let one_step : repeated last one (count - i) s ts ≡ repeated last one (count - (i + 1)) s' ts' = rw (k, h, step) refl in
      sym one_step ∙ so_far

  pub fails : (e : Failure (Placed ℕ CommandFault)) (count i : ℕ) (s : S) (ts : List Token) (total : Reading S) → i < count → begins last ts ≡ false
      → Fails (one s ts) e → repeated last one (count - i) s ts ≡ total → Fails total e
  unfolding repeated
  fails (NoMemory n) count i s ts total lt h step so_far = tt
  fails (Fault f) count i s ts total lt h step so_far =
      let k : count - i ≡ suc (count - (i + 1)) = omega arith in
      let one_step : repeated last one (count - i) s ts ≡ Err f = rw (k, h, step) refl in
      sym so_far ∙ one_step
