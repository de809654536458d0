-- Files that are copied one after another.
use Rattle.std.proofs.Common.{◌≡◌, ◌∙◌, sym, ap, ℕ, ◌+◌, ◌<◌, ◌≤◌, List, [], ◌∷◌, ◌++◌, length, take, subst, append_assoc, append-nil, length-append, arith}
use Rattle.std.proofs.Math.Seq.{take-append_seam}
use Rattle.std.proofs.lemmas.List.Elements.{All-append, All-nil, All-cons}
use Rattle.c25_meaning_expansion.specs.Files.{Files}
use Rattle.std.specs.Prelude.{Option, Result}
use Rattle.c25_meaning_common.specs.declared.failure.Failure.{Failure}
use Rattle.c25_disk.specs.declared.work.CopyFault.{CopyFault}
use Rattle.c25_disk.specs.Copies.{EndsOver, HasCopied}
use Rattle.c25_disk.specs.Held.{Held, IsAllOf}

abbrev pub is_held : Held → List ℕ × List ℕ → Type 0
is_held held file = IsAllOf (held file.0) file.1

pub copied_none : (held : Held) (given files : Files) → files ≡ given → HasCopied held given 0 files
copied_none held given files same = record {
  copies = [];
  behind = same ∙ sym (append-nil given);
  few = omega arith;
  read = All-nil (is_held held);
}

pub copied_more : (held : Held) (given files after : Files) (n : ℕ) (name : List ℕ) → HasCopied held given n files → ((text : List ℕ) × IsAllOf (held name) text × (after ≡ files ++ (name, text) ∷ [])) → HasCopied held given (n + 1) after
copied_more held given files after n name so_far added =
    let one : Files = (name, added.0) ∷ [] in
    let few = so_far.few in
    let longer : length (so_far.copies ++ one) ≡ length so_far.copies + 1 = length-append so_far.copies one in
    record {
      copies = so_far.copies ++ one;
      behind = added.2 ∙ ap (λ f. f ++ one) so_far.behind ∙ append_assoc given so_far.copies one;
      few = omega (arith, few, longer);
      read = All-append (is_held held) so_far.copies one so_far.read (All-cons (is_held held) (name, added.0) [] added.1 (All-nil (is_held held)));
    }

pub copied_most : (held : Held) (given files : Files) (n m : ℕ) → n ≤ m → HasCopied held given n files → HasCopied held given m files
copied_most held given files n m le so_far =
    let few = so_far.few in
    record { copies = so_far.copies; behind = so_far.behind; few = omega (arith, few, le); read = so_far.read }

pub copied_given : (held : Held) (given files : Files) → files ≡ given → HasCopied held given 256 files
copied_given held given files same = copied_most held given files 0 256 (omega arith) (copied_none held given files same)

pub copied_same : (held : Held) (given files after : Files) → after ≡ files → HasCopied held given 256 files → HasCopied held given 256 after
copied_same held given files after same so_far = subst (HasCopied held given 256) (sym same) so_far

-- one more where there is room
pub copied_room : (held : Held) (given files after : Files) (name : List ℕ) → HasCopied held given 256 files → length files < length given + 256
    → ((text : List ℕ) × IsAllOf (held name) text × (after ≡ files ++ (name, text) ∷ [])) → HasCopied held given 256 after
copied_room held given files after name so_far room added =
    let long : length files ≡ length given + length so_far.copies = ap length so_far.behind ∙ length-append given so_far.copies in
    let so : HasCopied held given (length so_far.copies) files = record { copies = so_far.copies; behind = so_far.behind; few = omega arith; read = so_far.read } in
    copied_most held given after (length so_far.copies + 1) 256 (omega (arith, long, room)) (copied_more held given files after (length so_far.copies) name so added)

-- the first of them are those that were given
given_again : (held : Held) (given files : Files) (count : ℕ) → count ≡ length given → HasCopied held given 256 files → take count files ≡ given
given_again held given files count is so_far =
    ap (λ n. take n files) is ∙ ap (take (length given)) so_far.behind ∙ take-append_seam given so_far.copies

-- what comes of work over these comes of it over those that were given
pub ends_again : {A F : Type 0} (held : Held) (given files first : Files) (count : ℕ) (comes_to : Files → Result A (Failure F) → Type 0) (missing : F → Option (List ℕ)) (result : Result A (Failure (CopyFault F)))
    → count ≡ length given → HasCopied held given 256 files → first ≡ take count files → EndsOver held first comes_to missing result → EndsOver held given comes_to missing result
ends_again held given files first count comes_to missing result is so_far kept ends =
    subst (λ f. EndsOver held f comes_to missing result) (kept ∙ given_again held given files count is so_far) ends
