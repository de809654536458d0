-- What holds of each item of a list holds of the one that a look-up finds; loops over lists; statements by address.
use Rattle.std.proofs.Common.{◌≡◌, ℕ, ◌+◌, ◌<◌, ◌≤◌, ◌==◌, ◌||◌, Bool, true, false, cond, List, [], ◌∷◌, length, take, get_or, map, Option, Some, find, refl, sym, subst, ap, arith}
use Rattle.std.specs.List.{All, list_any}
use Rattle.std.specs.Option.{option_map}
use Rattle.std.proofs.lemmas.Bool.{eqb-true}
use Rattle.std.proofs.lemmas.List.{take_all}
use Rattle.std.proofs.lemmas.List.Elements.{All-head, All-more, All-tail}
use Rattle.c25_meaning_processor.specs.Statements.{Copied, Statement, copied_at, statement_at}
use Rattle.c25_pages.specs.Program.{copied_of, plain_of}
use Rattle.c25_pages.specs.Table.{lands_on}
use Rattle.c25_pages.specs.declared.program.CopiedStatement.{CopiedStatement}
use Rattle.c25_pages.specs.declared.program.PlainStatement.{PlainStatement}

-- of a list with a head, the head is found or an item after it
at_head : {A : Type 0} (P : A → Type 0) (x y : A) (b : Bool) (rest : Option A) → P y → (rest ≡ Some x → P x) → cond b (Some y) rest ≡ Some x → P x
at_head P x y true rest here later e = let same : y ≡ x = cc in subst P same here
at_head P x y false rest here later e = later e

pub found_holds : {A : Type 0} (P : A → Type 0) (test : A → Bool) (xs : List A) (x : A) → All P xs → find test xs ≡ Some x → P x
found_holds P test [] x all e = absurd (cc)
found_holds P test (y ∷ ys) x all e =
    at_head P x y (test y) (find test ys) (All-head P y ys all) (λ h. found_holds P test ys x (All-tail P y ys all) h) e

head_passes : {A : Type 0} (test : A → Bool) (x y : A) (b : Bool) (rest : Option A) → test y ≡ b → (rest ≡ Some x → test x ≡ true) → cond b (Some y) rest ≡ Some x → test x ≡ true
head_passes test x y true rest is later e = let same : y ≡ x = cc in subst (λ z. test z ≡ true) same is
head_passes test x y false rest is later e = later e

pub found_passes : {A : Type 0} (test : A → Bool) (xs : List A) (x : A) → find test xs ≡ Some x → test x ≡ true
found_passes test [] x e = absurd (cc)
found_passes test (y ∷ ys) x e = head_passes test x y (test y) (find test ys) refl (λ h. found_passes test ys x h) e

-- ---- loops

-- what holds of each item so far and of the next one
pub all_more : {A : Type 0} (P : A → Type 0) (slice items : List A) (i : ℕ) (d : A) → slice ≡ items → i < length slice → All P (take i items) → P (get_or slice i d) → All P (take (i + 1) items)
all_more P slice items i d same lt before here =
    let less : i < length items = omega (arith, lt, ap length same) in
    All-more P items i d less before (subst (λ xs. P (get_or xs i d)) same here)

-- what holds of each item so far, at the end
pub all_whole : {A : Type 0} (P : A → Type 0) (slice items : List A) (i : ℕ) → slice ≡ items → length slice ≤ i → All P (take i items) → All P items
all_whole P slice items i same le all =
    let past : length items ≤ i = omega (arith, le, ap length same) in
    subst (λ xs. All P xs) (take_all i items past) all

-- ---- numbers

number_head : (P : ℕ → Type 0) (x n : ℕ) (b : Bool) (ns : List ℕ) → (n == x) ≡ b → P n → (list_any (λ m. m == x) ns ≡ true → P x) → (b || list_any (λ m. m == x) ns) ≡ true → P x
number_head P x n true ns is here later e = subst P (eqb-true n x is) here
number_head P x n false ns is here later e = later e

-- what holds of each number of a list holds of one that is in it
pub number_holds : (P : ℕ → Type 0) (ns : List ℕ) (x : ℕ) → All P ns → list_any (λ n. n == x) ns ≡ true → P x
number_holds P [] x all e = absurd (cc)
number_holds P (n ∷ ns) x all e =
    number_head P x n (n == x) ns refl (All-head P n ns all) (λ h. number_holds P ns x (All-tail P n ns all) h) e

pub landing_holds : (P : ℕ → Type 0) (landings : List ℕ) → All P landings → (target : ℕ) → lands_on landings target ≡ true → P target
unfolding lands_on
landing_holds P landings all target e = number_holds P landings target all e

-- ---- statements

found_plain : (address : ℕ) (b : Bool) (s : PlainStatement) (rest : Option Statement) (o : Option PlainStatement) → option_map (λ (x : Statement). x.insn) rest ≡ option_map (λ (x : PlainStatement). x.insn) o
    → option_map (λ (x : Statement). x.insn) (cond b (Some (plain_of s)) rest) ≡ option_map (λ (x : PlainStatement). x.insn) (cond b (Some s) o)
found_plain address true s rest o e = refl
found_plain address false s rest o e = e

plain_found : (ss : List PlainStatement) (address : ℕ)
    → option_map (λ (x : Statement). x.insn) (find (λ (x : Statement). x.address == address) (map plain_of ss)) ≡ option_map (λ (x : PlainStatement). x.insn) (find (λ (x : PlainStatement). x.address == address) ss)
plain_found [] address = refl
plain_found (s ∷ ss) address =
    found_plain address (s.address == address) s (find (λ (x : Statement). x.address == address) (map plain_of ss)) (find (λ (x : PlainStatement). x.address == address) ss) (plain_found ss address)

pub plain_as : (ss : List PlainStatement) (address : ℕ) → option_map (λ (x : PlainStatement). x.insn) (find (λ (x : PlainStatement). x.address == address) ss) ≡ statement_at (map plain_of ss) address
unfolding statement_at
plain_as ss address = sym (plain_found ss address)

found_copied : (b : Bool) (s : CopiedStatement) (rest : Option Copied) (o : Option CopiedStatement) → option_map (λ (x : Copied). x.insn) rest ≡ option_map (λ (x : CopiedStatement). x.insn) o
    → option_map (λ (x : Copied). x.insn) (cond b (Some (copied_of s)) rest) ≡ option_map (λ (x : CopiedStatement). x.insn) (cond b (Some s) o)
found_copied true s rest o e = refl
found_copied false s rest o e = e

copied_found : (ss : List CopiedStatement) (address : ℕ)
    → option_map (λ (x : Copied). x.insn) (find (λ (x : Copied). x.run == address) (map copied_of ss)) ≡ option_map (λ (x : CopiedStatement). x.insn) (find (λ (x : CopiedStatement). x.run == address) ss)
copied_found [] address = refl
copied_found (s ∷ ss) address =
    found_copied (s.run == address) s (find (λ (x : Copied). x.run == address) (map copied_of ss)) (find (λ (x : CopiedStatement). x.run == address) ss) (copied_found ss address)

pub copied_as : (ss : List CopiedStatement) (address : ℕ) → option_map (λ (x : CopiedStatement). x.insn) (find (λ (x : CopiedStatement). x.run == address) ss) ≡ option_map (λ (x : Copied). x.insn) (copied_at (map copied_of ss) address)
unfolding copied_at
copied_as ss address = sym (copied_found ss address)
