-- The line next to the first mark that passes a test.
use Rattle.std.proofs.Common.{◌≡◌, ℕ, zero, suc, ◌+◌, ◌<◌, ◌≤◌, Bool, true, false, cond, List, [], ◌∷◌, length, get_or, take, find, Option, Some, None, refl, sym, ap, ◌∙◌, arith, add-one}
use Rattle.std.specs.List.{slice_get, zip}
use Rattle.std.specs.Option.{option_map}
use Rattle.std.proofs.lemmas.List.{take_all}
use Rattle.std.proofs.lemmas.Slice.Zip.{length-zip}
use Rattle.c25_meaning_objects.specs.declared.object.LineMark.{LineMark}
use Rattle.c25_meaning_objects.specs.declared.object.ModuleMark.{ModuleMark}

pairs_ended : (ms : List ModuleMark) (ls : List LineMark) (i : ℕ) → length ms ≤ i → take i (zip ms ls) ≡ zip ms ls
pairs_ended ms ls i le = let both_long = length-zip ms ls in take_all i (zip ms ls) (omega (arith, both_long, le))

module _ {R : Type 0} (test : ModuleMark → Bool) (g : LineMark → R) where
  passed_over : (t : Bool) (x : ModuleMark × LineMark) (o : Option (ModuleMark × LineMark)) → cond t (Some x) o ≡ None → (t ≡ false) × (o ≡ None)
  passed_over true x o e = absurd cc
  passed_over false x o e = (refl, e)

  pub found_beside : (ms : List ModuleMark) (ls : List LineMark) (i : ℕ) (d : ModuleMark) → i < length ms → find (λ t. test t.0) (take i (zip ms ls)) ≡ None → test (get_or ms i d) ≡ true
      → option_map g (slice_get ls i) ≡ option_map (λ t. g t.1) (find (λ t. test t.0) (zip ms ls))
  found_beside [] ls i d lt before pass = absurd (omega arith)
  found_beside (m ∷ ms) [] i d lt before pass = refl
  found_beside (m ∷ ms) (l ∷ ls) zero d lt before pass = ap (λ b. option_map (λ (t : ModuleMark × LineMark). g t.1) (cond b (Some (m, l)) (find (λ t. test t.0) (zip ms ls)))) (sym pass)
  found_beside (m ∷ ms) (l ∷ ls) (suc i) d lt before pass =
      let over = passed_over (test m) (m, l) (find (λ t. test t.0) (take i (zip ms ls))) before in
      found_beside ms ls i d (omega arith) over.1 pass
      ∙ ap (λ b. option_map (λ (t : ModuleMark × LineMark). g t.1) (cond b (Some (m, l)) (find (λ t. test t.0) (zip ms ls)))) (sym over.0)

  none_after : (ms : List ModuleMark) (ls : List LineMark) (i : ℕ) (d : ModuleMark) → i < length ms → find (λ t. test t.0) (take i (zip ms ls)) ≡ None → test (get_or ms i d) ≡ false → find (λ t. test t.0) (take (suc i) (zip ms ls)) ≡ None
  none_after [] ls i d lt before fail = absurd (omega arith)
  none_after (m ∷ ms) [] i d lt before fail = refl
  none_after (m ∷ ms) (l ∷ ls) zero d lt before fail = ap (λ b. cond b (Some (m, l)) (find (λ t. test t.0) (take 0 (zip ms ls)))) fail
  none_after (m ∷ ms) (l ∷ ls) (suc i) d lt before fail =
      let over = passed_over (test m) (m, l) (find (λ t. test t.0) (take i (zip ms ls))) before in
      ap (λ b. cond b (Some (m, l)) (find (λ t. test t.0) (take (suc i) (zip ms ls)))) over.0 ∙ none_after ms ls i d (omega arith) over.1 fail

  pub none_beside : (ms : List ModuleMark) (ls : List LineMark) (i : ℕ) (d : ModuleMark) → i < length ms → find (λ t. test t.0) (take i (zip ms ls)) ≡ None → test (get_or ms i d) ≡ false → find (λ t. test t.0) (take (i + 1) (zip ms ls)) ≡ None
  none_beside ms ls i d lt before fail = ap (λ n. find (λ t. test t.0) (take n (zip ms ls))) (add-one i) ∙ none_after ms ls i d lt before fail

  pub none_beside_any : (ms : List ModuleMark) (ls : List LineMark) (i : ℕ) → length ms ≤ i → find (λ t. test t.0) (take i (zip ms ls)) ≡ None → None ≡ option_map (λ t. g t.1) (find (λ t. test t.0) (zip ms ls))
  none_beside_any ms ls i le none = ap (option_map (λ (t : ModuleMark × LineMark). g t.1)) (sym none ∙ ap (find (λ t. test t.0)) (pairs_ended ms ls i le))
