-- A map whose lines have their form is written as its text.
use Rattle.std.proofs.Common.{◌≡◌, ℕ, ◌≤◌, List, All}
use Rattle.std.proofs.lemmas.List.Elements.{All-weaker}
use Rattle.c25_meaning_linking.specs.MapText.{MapData, PartData, HasDigits, IsMapOf, IsPrinted, IsPrintedPart, IsPrintedSection, map_text}

-- a map with lines of the form has its addresses' digits
pub have_digits : (m : MapData) → IsPrinted m → All HasDigits m.sections
have_digits m p =
    All-weaker IsPrintedSection HasDigits (λ s h. record {
      base = h.base;
      run = h.run;
      parts = All-weaker IsPrintedPart (λ (q : PartData). q.base ≤ 65536) (λ q part. part.base) s.parts h.parts;
    }) m.sections p.sections

-- the text that is written of such a map is its text
pub is_map_of : (text : List ℕ) (m : MapData) → IsPrinted m → text ≡ map_text m → IsMapOf text m
is_map_of text m printed is = record { printed = printed; text_is = is }
