-- The lengths of payloads, and a record that is written as its head and its payload.
use Rattle.std.proofs.Common.{◌≡◌, ℕ, ◌+◌, ◌*◌, List, [], ◌∷◌, ◌++◌, length, ap, ◌∙◌, append_assoc, arith, refl}
use Rattle.std.specs.List.{flat_map}
use Rattle.std.specs.Int.{w16, w32, to_be_bytes}
use Rattle.std.proofs.lemmas.List.{length-append}
use Rattle.std.proofs.lemmas.List.Concat.{flat_map-cons}
use Rattle.c25_meaning_objects.specs.declared.object.ModuleMark.{ModuleMark}
use Rattle.c25_meaning_objects.specs.declared.object.Relocation.{Relocation}
use Rattle.c25_meaning_objects.specs.Module.{SectionBody, Uninitialised, Initialised, SectionData, SymbolData, body_words}
use Rattle.c25_meaning_objects.specs.Records.{body_bytes, section_payload, mark_payload, symbol_payload, relocation_payload, entry}

pub length-words : (words : List ℕ) → length (flat_map (to_be_bytes w16) words) ≡ 2 * length words
length-words [] = refl
length-words (w ∷ ws) = ap (λ (t : List ℕ). length t) (flat_map-cons (to_be_bytes w16) w ws) ∙ omega (arith, length-words ws)

length-body : (b : SectionBody) → length (body_bytes b) ≡ 4 + 2 * length (body_words b)
length-body (Uninitialised size) = refl
length-body (Initialised ws) = omega (arith, length-append (to_be_bytes w32 (length ws)) (flat_map (to_be_bytes w16) ws), length-words ws)

pub length-initialised : (s : SectionData) (words : List ℕ) → s.body ≡ Initialised words → length s.name + 6 + length words * 2 ≡ length (section_payload s)
length-initialised s words is = omega (arith, length-append s.name (body_bytes s.body), length-body s.body, ap (λ (b : SectionBody). length (body_words b)) is)

pub length-mark : (m : ModuleMark) → 5 ≡ length (mark_payload m)
length-mark m = refl

pub length-symbol : (y : SymbolData) → length y.name + 9 ≡ length (symbol_payload y)
length-symbol y = omega arith

pub length-relocation : (r : Relocation) → 12 ≡ length (relocation_payload r)
length-relocation r = refl

pub entry-written : (out : List ℕ) (tag n : ℕ) (payload : List ℕ) → n ≡ length payload → (out ++ tag ∷ to_be_bytes w32 n) ++ payload ≡ out ++ entry tag payload
entry-written out tag n payload e = ap (λ (k : ℕ). (out ++ tag ∷ to_be_bytes w32 k) ++ payload) e ∙ append_assoc out (tag ∷ to_be_bytes w32 (length payload)) payload
