-- Each instruction is among the spellings, so a word spells what the table's names say and nothing else.
use Rattle.std.proofs.Common.{◌≡◌, ℕ, zero, suc, ◌<◌, Bool, true, false, cond, List, [], ◌∷◌, length, find, Option, Some, None, IfSome, slice_index_or, refl, subst, arith}
use Rattle.std.specs.List.{Contains}
use Rattle.std.specs.Str.{str_eq_ignore_ascii_case, str_to_ascii_lowercase}
use Rattle.std.proofs.lemmas.Slice.Eq.{bytes_eq-Decides}
use Rattle.c25_meaning_instructions.specs.Table.{SameLetters, spelling_text}
use Rattle.c25_meaning_instructions.specs.Spellings.{spellings, spelling_of}
use Rattle.c25_meaning_instructions.proofs.Keys.{found_in}
use Rattle.c25_meaning_instructions.proofs.Spellings.{letters, found}
use Rattle.c25_meaning_instructions.specs.declared.mnemonic.Spelling.{Spelling}

-- ---- looking up

-- what `find` passes over fails the test
passed_over : {A : Type 0} (b : Bool) (y : A) (o : Option A) → cond b (Some y) o ≡ None → (b ≡ false) × (o ≡ None)
passed_over true y o h = absurd (cc)
passed_over false y o h = (refl, h)

none_at : {A : Type 0} (p : A → Bool) (xs : List A) (k : ℕ) (x : A) → find p xs ≡ None → k < length xs → slice_index_or xs k x ≡ x → p x ≡ false
none_at p [] k x h l e = absurd (omega arith)
none_at p (y ∷ ys) zero x h l e = subst (λ z. p z ≡ false) e (passed_over (p y) y (find p ys) h).0
none_at p (y ∷ ys) (suc k) x h l e = none_at p ys k x (passed_over (p y) y (find p ys) h).1 (omega arith) e

-- what `find` gives passes the test
found_by : {A : Type 0} (p : A → Bool) (y x : A) (o : Option A) (b : Bool) → p y ≡ b → cond b (Some y) o ≡ Some x → (o ≡ Some x → p x ≡ true) → p x ≡ true
found_by p y x o true e h rest = let q : y ≡ x = cc in subst (λ z. p z ≡ true) q e
found_by p y x o false e h rest = rest h

found_passes : {A : Type 0} (p : A → Bool) (xs : List A) (x : A) → find p xs ≡ Some x → p x ≡ true
found_passes p [] x h = absurd (cc)
found_passes p (y ∷ ys) x h = found_by p y x (find p ys) (p y) refl h (found_passes p ys x)

-- each spelling is in the list
listed : (s : Spelling) → Contains spellings s
listed s = found_in letters (letters s) spellings s (found s)

-- ---- what a word spells

false_true : {b : Bool} → b ≡ false → b ≡ true → ⊥
false_true p q = cc

-- what spells as a word does, and is the only one that does, is what the word spells
by_found : (word : List ℕ) (r o : Option Spelling) → find (λ s. str_eq_ignore_ascii_case word (spelling_text s)) spellings ≡ o
    → IfSome r (λ s. SameLetters word (spelling_text s)) → ((s : Spelling) → SameLetters word (spelling_text s) → r ≡ Some s) → r ≡ o
by_found word r (Some s) e found all = all s ((bytes_eq-Decides (str_to_ascii_lowercase word) (str_to_ascii_lowercase (spelling_text s))).0 (found_passes _ spellings s e))
by_found word None None e found all = refl
by_found word (Some s) None e found all =
    let at = listed s in
    absurd (false_true (none_at (λ t. str_eq_ignore_ascii_case word (spelling_text t)) spellings at.0 s e at.1 at.2) ((bytes_eq-Decides (str_to_ascii_lowercase word) (str_to_ascii_lowercase (spelling_text s))).1 found))

pub spelled : (word : List ℕ) (r : Option Spelling) → IfSome r (λ s. SameLetters word (spelling_text s))
    → ((s : Spelling) → SameLetters word (spelling_text s) → r ≡ Some s) → r ≡ spelling_of word
unfolding spelling_of
spelled word r found all = by_found word r _ refl found all
