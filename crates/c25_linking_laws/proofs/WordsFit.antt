-- Addresses and words of a program have 16 bits.
use Rattle.std.proofs.Common.{◌≡◌, ℕ, ◌<◌, ◌^◌, List, [], Option, Some, None, All, sym, subst, arith}
use Rattle.std.specs.FinMap as finite
use Rattle.std.specs.List.{AllByRecursion, slice_get}
use Rattle.std.specs.Ordering.{nat_cmp}
use Rattle.std.specs.Str.{bytes_eq}
use Rattle.std.proofs.lemmas.List.Elements.{All-from_recursion}
use Rattle.std.proofs.lemmas.Option.{get_or_from_slice_get, slice_get_within}
use Rattle.c25_meaning_instructions.proofs.RelocatedFields.{filled_below, number_below}
use Rattle.c25_meaning_linking.specs.Command.{CommandData, IsCommand}
use Rattle.c25_meaning_image.specs.WordMap.{IsWordMap}
use Rattle.c25_meaning_linking.proofs.Parts.{part_in_place}
use Rattle.c25_meaning_linking.specs.GoodMap.{IsGoodMap, placings_for, ranges_for}
use Rattle.c25_meaning_linking.specs.Linking.{HasWords, ImageData, IsProgram}
use Rattle.c25_meaning_linking.specs.Place.{Place}
use Rattle.c25_meaning_linking.specs.Words.{HasWord, relocated, relocated_value, relocation_at}
use Rattle.c25_meaning_objects.specs.Module.{Contents, Initialised, IsModule, SectionBody, SectionData, Uninitialised, body_size, body_words}
use Rattle.c25_meaning_objects.specs.declared.object.Relocation.{Relocation}
use Rattle.c25_linking_laws.proofs.Named.{found_holds, module_at}
use Rattle.c25_linking_laws.proofs.Placed.{IsGoodPlace, good_places}

item_at : {A : Type 0} (P : A → Type 0) (xs : List A) (k : ℕ) (x : A) → AllByRecursion P xs → slice_get xs k ≡ Some x → P x
item_at P xs k x h e = subst P (get_or_from_slice_get xs k x x e) (All-from_recursion P xs h k x (slice_get_within xs k x e))

in_body : (b : SectionBody) (k w : ℕ) → slice_get (body_words b) k ≡ Some w → k < body_size b
in_body (Uninitialised size) k w e = let l = slice_get_within [] k w e in absurd (omega (arith, l))
in_body (Initialised words) k w e = slice_get_within words k w e

linked_fits : (modules : List Contents) (places : List Place) (number : ℕ) (m : Contents) (o : Option Relocation) (w : ℕ) → w < 65536 → relocated modules places number m o w < 65536
linked_fits modules places number m None w h = h
linked_fits modules places number m (Some r) w h = filled_below r.kind _ w (number_below r.kind (relocated_value modules places number m r)) h

pub word_fits : (modules : List Contents) (command : CommandData) (places : List Place) (page address word : ℕ) → All IsModule modules → IsCommand command → IsGoodMap modules command places → HasWord modules places page address word → (address < 2 ^ 16) × (word < 2 ^ 16)
word_fits modules command places page address word are is good h =
    let i = part_in_place (ranges_for command) modules (placings_for command) places h.number h.index h.owner h.section good h.part in
    let p = found_holds IsGoodPlace (λ (q : Place). bytes_eq (h.section).name q.name) places i.place (good_places modules command places are is good) i.found in
    let within = i.within in
    let last = p.last in
    let at = h.address_is in
    let k = in_body (h.section).body h.offset h.before h.word_is in
    let m = module_at modules h.number h.owner are (h.part).owner_is in
    let words = item_at (λ (s : SectionData). AllByRecursion (λ w. w < 2 ^ 16) (body_words s.body)) (h.owner).sections h.index h.section (m.sized).words (h.part).section_is in
    let before = item_at (λ w. w < 2 ^ 16) (body_words (h.section).body) h.offset h.before words h.word_is in
    let linked : word < 65536 = subst (λ w. w < 65536) (sym h.linked) (linked_fits modules places h.number h.owner (relocation_at h.owner h.index h.offset) h.before before) in
    (omega (arith, at, within, last, k), linked)

are_word_map : (modules : List Contents) (command : CommandData) (places : List Place) (page : ℕ) (words : finite.FinMap nat_cmp ℕ) → All IsModule modules → IsCommand command → IsGoodMap modules command places → HasWords modules places page words → IsWordMap words
are_word_map modules command places page words are is good has address word e = word_fits modules command places page address word are is good ((has address word).0 e)

pub program_fits : (modules : List Contents) (command : CommandData) (image : ImageData) → All IsModule modules → IsCommand command → IsProgram modules command image → IsWordMap image.program × IsWordMap image.store
program_fits modules command image are is p =
    (are_word_map modules command p.places 0 image.program are is p.good p.program, are_word_map modules command p.places 1 image.store are is p.good p.store)
