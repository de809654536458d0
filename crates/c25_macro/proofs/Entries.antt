-- An entry that is put into a map, found by the bytes of its name: what the name stands for is replaced, or it comes last.
use Rattle.std.proofs.Common.{◌≡◌, Bool, true, false, cond, List, [], ◌∷◌, String, refl, ap}
use Rattle.std.specs.declared.alloc.Global.{Global}
use Rattle.std.specs.Str.{bytes_eq}
use Rattle.std.specs.String.{string_bytes, string_eq}
use Rattle.indexmap.specs.IndexMap.{insert_entry}
use Rattle.c25_files.proofs.Entries.{views}
use Rattle.c25_meaning_language.specs.Texts.{Named, with_name}

by_insert : {V A : Type 0} (f : V → A) (b : Bool) (e : String Global × V) (es fs : List (String Global × V)) (v : V) (gs : Named A) → views f fs ≡ gs → views f (cond b ((e.0, v) ∷ es) (e ∷ fs)) ≡ cond b ((string_bytes e.0, f v) ∷ views f es) ((string_bytes e.0, f e.1) ∷ gs)
by_insert f true e es fs v gs h = refl
by_insert f false e es fs v gs h = ap (λ xs. (string_bytes e.0, f e.1) ∷ xs) h

pub views-insert : {V A : Type 0} (f : V → A) (es : List (String Global × V)) (name : String Global) (v : V) → views f (insert_entry string_eq es name v) ≡ with_name (views f es) (string_bytes name) (f v)
views-insert f [] name v = refl
views-insert f (e ∷ es) name v = by_insert f (bytes_eq (string_bytes name) (string_bytes e.0)) e es (insert_entry string_eq es name v) v (with_name (views f es) (string_bytes name) (f v)) (views-insert f es name v)
