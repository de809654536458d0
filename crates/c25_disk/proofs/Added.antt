-- Files that are written one after another.
use Rattle.std.proofs.Common.{◌≡◌, ◌∙◌, sym, ap, ℕ, ◌+◌, ◌<◌, ◌≤◌, List, [], ◌∷◌, ◌++◌, length, map, take, drop, get_or, append_assoc, append-nil, Option, None, Some, subst}
use Rattle.std.proofs.lemmas.List.{map-append, map_more, drop_more, drop_all, take-append-drop}
use Rattle.c25_meaning_expansion.specs.Files.{Files}
use Rattle.c25_meaning_common.specs.declared.failure.Failure.{Failure}
use Rattle.c25_meaning_common.specs.declared.placed.Placed.{Placed}
use Rattle.c25_disk.specs.declared.fault.FileFault.{FileFault}
use Rattle.c25_disk.specs.declared.fault.FileFault.TheVariants.{CannotWrite}
use Rattle.std.specs.Prelude.{String}
use Rattle.std.specs.declared.alloc.Global.{Global}
use Rattle.c25_disk.specs.Held.{Adds, IsOfFile, Stay}
use Rattle.c25_disk.specs.Written.{contents_of, IsUnwritten}
use Rattle.c25_disk.specs.declared.writing.Output.{Output}

joined : (a b c : Option Files) (xs ys : Files) → Adds a b xs → Adds b c ys → Adds a c (xs ++ ys)
joined None b c xs ys first then = tt
joined (Some a) None c xs ys first then = absurd first
joined (Some a) (Some b) None xs ys first then = absurd then
joined (Some a) (Some b) (Some c) xs ys first then = then ∙ ap (λ z. z ++ ys) first ∙ append_assoc a xs ys

pub adds_none : (a : Option Files) (outputs : List Output) → Adds a a (map contents_of (take 0 outputs))
adds_none None outputs = tt
adds_none (Some a) outputs = sym (append-nil a)

pub adds_more : (a b c : Option Files) (outputs : List Output) (i : ℕ) (d : Output) → i < length outputs → Adds a b (map contents_of (take i outputs)) → Adds b c (contents_of (get_or outputs i d) ∷ []) → Adds a c (map contents_of (take (i + 1) outputs))
adds_more a b c outputs i d low first then =
    subst (Adds a c) (sym (map_more contents_of outputs i d low)) (joined a b c (map contents_of (take i outputs)) (contents_of (get_or outputs i d) ∷ []) first then)

pub adds_all : (a b : Option Files) (outputs : List Output) (i : ℕ) → length outputs ≤ i → Adds a b (map contents_of (take i outputs)) → Adds a b (map contents_of outputs)
adds_all a b outputs i high done =
    let all : take i outputs ≡ outputs =
    sym (append-nil (take i outputs)) ∙ ap (λ rest. take i outputs ++ rest) (sym (drop_all i outputs high)) ∙ take-append-drop i outputs
    in
    subst (λ xs. Adds a b (map contents_of xs)) all done

pub unwritten : (a b c : Option Files) (outputs : List Output) (i : ℕ) (d output : Output) (fault : Failure (Placed (String Global) FileFault)) → i < length outputs → output ≡ get_or outputs i d → Adds a b (map contents_of (take i outputs)) → Stay b c → IsOfFile output.name.now CannotWrite fault → IsUnwritten a c outputs fault
unwritten a b c outputs i d output fault low at first stay is =
    let parts : outputs ≡ take i outputs ++ output ∷ drop (i + 1) outputs =
    sym (take-append-drop i outputs) ∙ ap (λ rest. take i outputs ++ rest) (drop_more outputs i d low ∙ ap (λ (o : Output). o ∷ drop (i + 1) outputs) (sym at))
    in (
      contents_of output,
      record {
        before = map contents_of (take i outputs);
        after = map contents_of (drop (i + 1) outputs);
        split = ap (map contents_of) parts ∙ map-append contents_of (take i outputs) (output ∷ drop (i + 1) outputs);
        written = subst (Adds a c) (append-nil (map contents_of (take i outputs))) (joined a b c (map contents_of (take i outputs)) [] first stay);
      },
      is,
    )
