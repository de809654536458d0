-- The set of the names so far.
use Rattle.std.proofs.Common.{◌≡◌, ◌<◌, ◌^◌, ℕ, Bool, true, false, not, ltb, ◌||◌, cond, List, [], ◌∷◌, ◌++◌, length, Ok, Some, refl, sym, ap, subst, ◌∙◌}
use Rattle.std.specs.Str.{IsUtf8, bytes_eq, is_utf8}
use Rattle.std.specs.HashSet.{HashSet, Updates}
use Rattle.std.proofs.lemmas.Bool.{lt-ltb}
use Rattle.std.proofs.lemmas.List.Folds.{list_any-append}
use Rattle.std.proofs.lemmas.Str.{IsUtf8-from_is_utf8, is_utf8-from_IsUtf8}
use Rattle.c25_meaning_objects.specs.Module.{SymbolData, has_symbol, has_file, file_fits}
use Rattle.c25_meaning_objects.specs.RecordReading.{checked}
use Rattle.c25_records.specs.Names.{HasNames, HasFiles}

joined : (b h : Bool) → cond b true h ≡ (h || (b || false))
joined true true = refl
joined true false = refl
joined false true = refl
joined false false = refl

-- a set that has the names of symbols has those of one more, once its name is put in
pub HasNames-push : {K S : Type 0} (text : K → List ℕ) (old new : HashSet K S) (ys : List SymbolData) (key : K) (y : SymbolData) → HasNames text old ys
    → Updates (λ a b. bytes_eq (text a) (text b)) old new key true → y.name ≡ text key → HasNames text new (ys ++ y ∷ [])
HasNames-push text old new ys key y has updates is q =
    let here : bytes_eq (text key) (text q) ≡ bytes_eq y.name (text q) = ap (λ (name : List ℕ). bytes_eq name (text q)) (sym is) in
    let pushed : has_symbol (ys ++ y ∷ []) (text q) ≡ (has_symbol ys (text q) || (bytes_eq y.name (text q) || false)) =
    list_any-append (λ (x : SymbolData). bytes_eq x.name (text q)) ys (y ∷ []) in
    updates.0 q ∙ rw (here, has q) (joined (bytes_eq y.name (text q)) (has_symbol ys (text q))) ∙ sym pushed

-- a set that has names of files has those of one more, once its name is put in
pub HasFiles-push : {K S : Type 0} (text : K → List ℕ) (old new : HashSet K S) (fs : List (List ℕ)) (key : K) → HasFiles text old fs
    → Updates (λ a b. bytes_eq (text a) (text b)) old new key true → HasFiles text new (fs ++ text key ∷ [])
HasFiles-push text old new fs key has updates q =
    let pushed : has_file (fs ++ text key ∷ []) (text q) ≡ (has_file fs (text q) || (bytes_eq (text key) (text q) || false)) =
    list_any-append (λ (f : List ℕ). bytes_eq f (text q)) fs (text key ∷ []) in
    updates.0 q ∙ rw (has q) (joined (bytes_eq (text key) (text q)) (has_file fs (text q))) ∙ sym pushed

-- bytes that are no text
pub not_text : (bytes : List ℕ) → (IsUtf8 bytes → ⊥) → is_utf8 bytes ≡ false
not_text bytes none = by (is_utf8 bytes) refl
  where
    by : (b : Bool) → is_utf8 bytes ≡ b → is_utf8 bytes ≡ false
    by true e = absurd (none (IsUtf8-from_is_utf8 bytes e))
    by false e = e

-- a text that is no file's name yet is the next file's
pub file_given : (files : List (List ℕ)) (bytes name out : List ℕ) → name ≡ bytes → out ≡ name → IsUtf8 bytes → length bytes < 2 ^ 32 → not (has_file files name) ≡ true
    → checked (file_fits files) (Some bytes) ≡ Ok out
file_given files bytes name out is out_is utf8 lt absent =
    let text : is_utf8 bytes ≡ true = is_utf8-from_IsUtf8 bytes utf8 in
    let short : ltb (length bytes) (2 ^ 32) ≡ true = lt-ltb (length bytes) (2 ^ 32) lt in
    let new : not (has_file files bytes) ≡ true = subst (λ (n : List ℕ). not (has_file files n) ≡ true) is absent in
    rw (text, short, new) (ap Ok (sym (out_is ∙ is)))
